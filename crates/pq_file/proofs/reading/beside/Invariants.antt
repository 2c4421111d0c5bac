use Rattle.std.proofs.Common.{◌≡◌, ◌++◌}
use Rattle.std.specs.Vec.Iter.{into_iter_items}
use Rattle.pq_file.specs.Reading.{beside}
use Rattle.pq_file.proofs.reading.beside.Given as goal

abbrev pub invariant-loop-column : goal.invariant-loop-column
invariant-loop-column l = l.grown ++ beside (into_iter_items l.column-iterator) (into_iter_items l.parts) ≡ beside l.fn.columns l.fn.parts
