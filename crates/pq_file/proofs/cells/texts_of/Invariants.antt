use Rattle.std.proofs.Common.{◌≡◌, ◌++◌, All, map}
use Rattle.std.specs.Str.{IsUtf8}
use Rattle.std.specs.Vec.Iter.{into_iter_items}
use Rattle.pq_file.specs.Cells.{text_of}
use Rattle.pq_file.proofs.TextLemmas.{items_of}
use Rattle.pq_file.proofs.cells.texts_of.Given as goal

abbrev pub invariant-loop-bytes : goal.invariant-loop-bytes
invariant-loop-bytes l =
    All (λ x. IsUtf8 x) (items_of (into_iter_items l.bytes-iterator)) ×
    (l.cells ++ map text_of (items_of (into_iter_items l.bytes-iterator)) ≡ map text_of l.fn.strings)
