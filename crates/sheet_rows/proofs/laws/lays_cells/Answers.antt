use Rattle.sheet_rows.proofs.SheetLemmas.{lays_cells}
use Rattle.sheet_rows.proofs.laws.lays_cells.Goals as goal

pub returns : goal.returns
returns c = lays_cells
