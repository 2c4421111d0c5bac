use Rattle.cat_rows.proofs.PartLemmas.{applied-parts}
use Rattle.cat_rows.proofs.laws.applies_parts.Goals as goal

pub returns : goal.returns
returns c = applied-parts
