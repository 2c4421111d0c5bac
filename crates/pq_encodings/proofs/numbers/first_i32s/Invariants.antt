use Rattle.std.proofs.Common.{◌≡◌, vec_len}
use Rattle.std.specs.Vec.{vec_capacity}
use Rattle.pq_encodings.specs.Plain.{i32s_of}
use Rattle.pq_encodings.proofs.PlainLemmas.{Fills}
use Rattle.pq_encodings.proofs.numbers.first_i32s.Given as goal

abbrev pub invariant-loop-k : goal.invariant-loop-k
invariant-loop-k l = Fills l.count l.k (vec_len l.out) (vec_capacity l.out) (l.out.items ≡ i32s_of l.bytes l.k)
