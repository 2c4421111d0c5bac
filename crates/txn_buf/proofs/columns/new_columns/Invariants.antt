use Rattle.std.proofs.Common.{◌≡◌, ◌+◌, ◌++◌, drop}
use Rattle.lake_model.specs.Plans.{columns_from}
use Rattle.txn_buf.proofs.columns.new_columns.Given as goal

-- those so far, and those that are left
abbrev pub invariant-loop-def : goal.invariant-loop-def
invariant-loop-def l = record {
  field : l.field ≡ l.def-index + 1;
  columns : l.columns ++ columns_from l.field (drop l.def-index l.defs) ≡ columns_from 1 l.defs;
}
