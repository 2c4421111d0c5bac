use Rattle.std.proofs.Common.{◌≡◌, ◌-◌, [], drop, length, reverse, take}
use Rattle.lake_model.specs.Plans.{new_columns_fault}
use Rattle.txn_buf.proofs.columns.columns_fault.Given as goal

-- the columns that are left decide
abbrev pub invariant-loop-place : goal.invariant-loop-place
invariant-loop-place l = new_columns_fault [] l.defs ≡ new_columns_fault (reverse (take l.place l.defs)) (drop l.place l.defs)

abbrev pub decreases-loop-place : goal.decreases-loop-place
decreases-loop-place l = length l.defs - l.place
