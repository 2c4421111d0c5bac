use Rattle.std.proofs.Common.{◌≡◌, ◌++◌, drop, map}
use Rattle.lake_types.specs.declared.value.Column.{Column}
use Rattle.scan_exec.proofs.choice.all_fields.Given as goal

-- the fields so far, and those of the columns that are left
abbrev pub invariant-loop-column : goal.invariant-loop-column
invariant-loop-column l = l.fields.items ++ map (λ (c : Column). c.field) (drop l.column-index l.columns) ≡ map (λ (c : Column). c.field) l.columns
