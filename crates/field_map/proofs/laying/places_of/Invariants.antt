use Rattle.std.proofs.Common.{take}
use Rattle.field_map.specs.Laid.{ArePlaces}
use Rattle.field_map.proofs.laying.places_of.Given as goal

-- the places so far
abbrev pub invariant-loop-column : goal.invariant-loop-column
invariant-loop-column l = ArePlaces l.sheet (take l.column-index l.columns) l.places.items
