use Rattle.lake_model.proofs.CellLemmas.{cells_stand}
use Rattle.lake_model.proofs.laws.cells_stand.Goals as goal

pub returns : goal.returns
returns c = cells_stand
