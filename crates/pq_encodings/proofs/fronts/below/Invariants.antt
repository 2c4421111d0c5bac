use Rattle.std.proofs.Common.{◌≡◌, ◌<◌, ◌++◌, All, drop}
use Rattle.pq_encodings.specs.Indices.{below}
use Rattle.pq_encodings.proofs.fronts.below.Given as goal

abbrev pub invariant-loop-index : goal.invariant-loop-index
invariant-loop-index l = (l.out.items ++ below l.size (drop l.index-index l.numbers) ≡ below l.size l.numbers) × All (λ x. x < l.size) l.out.items
