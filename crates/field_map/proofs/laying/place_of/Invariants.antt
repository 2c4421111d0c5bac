use Rattle.std.proofs.Common.{◌≡◌, drop}
use Rattle.field_map.specs.Laid.{column_of}
use Rattle.field_map.proofs.laying.place_of.Given as goal

-- the columns that are left decide
abbrev pub invariant-loop-place : goal.invariant-loop-place
invariant-loop-place l = column_of l.sheet l.field ≡ column_of (drop l.place l.sheet) l.field
