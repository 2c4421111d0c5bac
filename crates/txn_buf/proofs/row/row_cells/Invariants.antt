use Rattle.std.proofs.Common.{◌≡◌, ◌++◌, drop}
use Rattle.lake_model.specs.Rows.{cells_of}
use Rattle.txn_buf.proofs.row.row_cells.Given as goal

-- those so far, and those that are left
abbrev pub invariant-loop-column : goal.invariant-loop-column
invariant-loop-column l = l.cells ++ cells_of (drop l.column-index l.columns) l.rest ≡ cells_of l.columns l.row
