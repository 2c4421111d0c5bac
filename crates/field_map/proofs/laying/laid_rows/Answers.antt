use Rattle.std.proofs.Common.{◌≡◌, ◌∙◌, List, ap}
use Rattle.lake_types.specs.Cells.{laid_cells}
use Rattle.lake_types.specs.declared.sheet.SheetColumn.{SheetColumn}
use Rattle.field_map.specs.Laid.{found_cells}
use Rattle.field_map.proofs.LayLemmas.{rows_turn}
use Rattle.field_map.proofs.laying.laid_rows.Goals as goal

pub loop-id-preserved : goal.loop-id-preserved
loop-id-preserved c =
    let sheet = c.args.sheet.now.columns in
    let columns = c.args.columns.now in
    let id = c.loop-id.id in
    let cells = c.in_ok-cells.cells in
    let laid : cells ≡ laid_cells columns (found_cells sheet columns id) = c.in_ok-cells.ensures ∙ ap (λ (s : List SheetColumn). laid_cells columns (found_cells s columns id)) c.as_slice-in-loop-id.ensures in
    rows_turn sheet columns id c.loop-id.rows c.push.new.self cells c.in_ok-push.ensures.ok c.loop-id.invariant laid
