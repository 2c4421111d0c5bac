use Rattle.std.proofs.Common.{◌≡◌, drop}
use Rattle.pq_encodings.specs.Indices.{bad_index}
use Rattle.pq_encodings.proofs.indices.check.Given as goal

abbrev pub invariant-loop-at : goal.invariant-loop-at
invariant-loop-at l = bad_index l.size l.at (drop l.at l.indices) ≡ bad_index l.size 0 l.indices
