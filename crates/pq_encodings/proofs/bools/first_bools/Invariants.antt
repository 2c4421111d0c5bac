use Rattle.std.proofs.Common.{◌≡◌, vec_len}
use Rattle.std.specs.Vec.{vec_capacity}
use Rattle.pq_encodings.specs.Plain.{bools_of}
use Rattle.pq_encodings.proofs.PlainLemmas.{Fills}
use Rattle.pq_encodings.proofs.bools.first_bools.Given as goal

abbrev pub invariant-loop-k : goal.invariant-loop-k
invariant-loop-k l = Fills l.count l.k (vec_len l.out) (vec_capacity l.out) (l.out.items ≡ bools_of l.bytes l.k)
