use Rattle.sheet_rows.proofs.SheetLemmas.{weighs_rows}
use Rattle.sheet_rows.proofs.laws.weighs_rows.Goals as goal

pub returns : goal.returns
returns c = weighs_rows
