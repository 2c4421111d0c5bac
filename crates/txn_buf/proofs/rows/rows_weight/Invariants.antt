use Rattle.std.proofs.Common.{◌≡◌, ◌-◌, ◌^◌, map, take, min}
use Rattle.lake_types.specs.Cells.{laid_cells}
use Rattle.lake_model.specs.Rows.{rows_weight}
use Rattle.txn_buf.proofs.rows.rows_weight.Given as goal

-- the rows so far
abbrev pub invariant-loop-row : goal.invariant-loop-row
invariant-loop-row l = l.total ≡ min (rows_weight (map (laid_cells l.columns) (take l.row-index l.rows))) (2 ^ 64 - 1)
