use Rattle.inline_rows.proofs.OneLemmas.{spells_one}
use Rattle.inline_rows.proofs.laws.spells_one.Goals as goal

pub returns : goal.returns
returns c = spells_one
