use Rattle.std.proofs.Common.{◌≡◌, drop}
use Rattle.lake_model.specs.Rows.{cells_fault}
use Rattle.txn_buf.proofs.row.cells_fault.Given as goal

-- the cells that are left decide
abbrev pub invariant-loop-column : goal.invariant-loop-column
invariant-loop-column l = cells_fault l.columns l.row ≡ cells_fault (drop l.column-index l.columns) l.rest
