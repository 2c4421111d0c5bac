use Rattle.cat_stands.proofs.RestLemmas.{what-rests}
use Rattle.cat_stands.proofs.laws.what_rests_is_seen_alike.Goals as goal

pub returns : goal.returns
returns c = what-rests
