use Rattle.std.proofs.Common.{◌≡◌, map, take}
use Rattle.field_map.specs.Steps.{cell}
use Rattle.field_map.proofs.laying.cells_of.Given as goal

-- the cells so far
abbrev pub invariant-loop-at : goal.invariant-loop-at
invariant-loop-at l = l.cells ≡ map (cell l.sheet l.row) (take l.at l.columns)
