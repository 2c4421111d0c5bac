use Rattle.std.proofs.Common.{◌≡◌, map, take}
use Rattle.lake_model.specs.Rows.{cells_of}
use Rattle.txn_buf.proofs.rows.rows_cells.Given as goal

-- the rows so far
abbrev pub invariant-loop-row : goal.invariant-loop-row
invariant-loop-row l = l.made ≡ map (cells_of l.columns) (take l.row-index l.rows)
