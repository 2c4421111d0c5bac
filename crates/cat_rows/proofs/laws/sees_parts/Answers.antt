use Rattle.cat_rows.proofs.PartLemmas.{sees-parts}
use Rattle.cat_rows.proofs.laws.sees_parts.Goals as goal

pub returns : goal.returns
returns c = sees-parts
