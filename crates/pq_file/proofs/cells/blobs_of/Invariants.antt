use Rattle.std.proofs.Common.{◌≡◌, ◌++◌, map}
use Rattle.std.specs.Vec.Iter.{into_iter_items}
use Rattle.pq_file.specs.Cells.{blob_of}
use Rattle.pq_file.proofs.TextLemmas.{items_of}
use Rattle.pq_file.proofs.cells.blobs_of.Given as goal

abbrev pub invariant-loop-bytes : goal.invariant-loop-bytes
invariant-loop-bytes l = l.cells ++ map blob_of (items_of (into_iter_items l.bytes-iterator)) ≡ map blob_of l.fn.strings
