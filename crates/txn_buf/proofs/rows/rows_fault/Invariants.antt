use Rattle.std.proofs.Common.{◌≡◌, drop}
use Rattle.lake_model.specs.Rows.{rows_fault}
use Rattle.txn_buf.proofs.rows.rows_fault.Given as goal

-- the rows that are left decide
abbrev pub invariant-loop-row : goal.invariant-loop-row
invariant-loop-row l = rows_fault l.columns l.rows ≡ rows_fault l.columns (drop l.row-index l.rows)
