use Rattle.std.proofs.Common.{◌≡◌, drop}
use Rattle.std.specs.List.{list_any}
use Rattle.lake_model.specs.Clashes.{same_name}
use Rattle.txn_buf.proofs.columns.is_used.Given as goal

-- the columns that are left decide
abbrev pub invariant-loop-def : goal.invariant-loop-def
invariant-loop-def l = list_any (λ b. same_name b.name l.name) l.before ≡ list_any (λ b. same_name b.name l.name) (drop l.def-index l.before)
