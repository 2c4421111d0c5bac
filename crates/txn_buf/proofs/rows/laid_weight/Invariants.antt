use Rattle.std.proofs.Common.{◌≡◌, ◌-◌, ◌^◌, take, min}
use Rattle.lake_types.specs.Cells.{laid_cells}
use Rattle.lake_types.specs.Weights.{row_weight}
use Rattle.txn_buf.proofs.rows.laid_weight.Given as goal

-- the columns so far
abbrev pub invariant-loop-column : goal.invariant-loop-column
invariant-loop-column l = l.total ≡ min (row_weight (laid_cells (take l.column-index l.columns) l.cells)) (2 ^ 64 - 1)
