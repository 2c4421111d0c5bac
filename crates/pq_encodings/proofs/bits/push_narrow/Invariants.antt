use Rattle.std.proofs.Common.{◌≡◌, vec_len}
use Rattle.std.specs.Vec.{vec_capacity}
use Rattle.pq_encodings.proofs.BitLemmas.{Packs}
use Rattle.pq_encodings.proofs.bits.push_narrow.Given as goal

abbrev pub invariant-loop-k : goal.invariant-loop-k
invariant-loop-k l =
    (Packs l.width l.group 8 l.k (vec_len l.out) (vec_capacity l.out) l.initial.out.items l.out.items)
    × (vec_capacity l.out ≡ vec_capacity l.initial.out)
