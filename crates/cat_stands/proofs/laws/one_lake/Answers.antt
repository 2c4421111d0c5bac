use Rattle.cat_stands.proofs.OneLemmas.{stands-for_one}
use Rattle.cat_stands.proofs.laws.one_lake.Goals as goal

pub returns : goal.returns
returns c = stands-for_one
