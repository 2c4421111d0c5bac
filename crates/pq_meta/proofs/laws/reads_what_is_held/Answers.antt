use Rattle.pq_meta.proofs.HoldingLemmas.{held_both}
use Rattle.pq_meta.proofs.laws.reads_what_is_held.Goals as goal

pub returns : goal.returns
returns c = held_both
