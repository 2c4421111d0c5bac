use Rattle.std.proofs.Common.{◌≡◌, drop}
use Rattle.field_map.specs.Laid.{first_fault}
use Rattle.field_map.proofs.laying.first_fault.Given as goal

-- the columns that are left decide
abbrev pub invariant-loop-column : goal.invariant-loop-column
invariant-loop-column l = first_fault l.sheet l.columns ≡ first_fault l.sheet (drop l.column-index l.columns)
