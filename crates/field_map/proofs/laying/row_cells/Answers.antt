use Rattle.std.proofs.Common.{◌∙◌}
use Rattle.std.proofs.lemmas.Result.{IfOk-weaker}
use Rattle.field_map.proofs.LaidLemmas.{cells-laid}
use Rattle.field_map.proofs.laying.row_cells.Goals as goal

pub returns : goal.returns
returns c = IfOk-weaker c.cells_of.result _ _ (λ cells e. e ∙ cells-laid c.args.sheet.now c.args.row c.args.columns.now) c.cells_of.ensures
