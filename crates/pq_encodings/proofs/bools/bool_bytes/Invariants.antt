use Rattle.std.proofs.Common.{◌≡◌, ◌*◌, map, vec_len}
use Rattle.std.specs.List.{range_with_len}
use Rattle.std.specs.Vec.{vec_capacity}
use Rattle.pq_encodings.specs.Plain.{bool_byte}
use Rattle.pq_encodings.proofs.PlainLemmas.{Fills}
use Rattle.pq_encodings.proofs.bools.bool_bytes.Given as goal

abbrev pub invariant-loop-k : goal.invariant-loop-k
invariant-loop-k l =
    Fills l.count l.k (vec_len l.out) (vec_capacity l.out) (l.out.items ≡ map (λ k. bool_byte l.values (8 * k)) (range_with_len 0 l.k))
