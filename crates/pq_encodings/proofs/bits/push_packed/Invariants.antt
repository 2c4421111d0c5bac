use Rattle.std.proofs.Common.{◌*◌, vec_len}
use Rattle.std.specs.Vec.{vec_capacity}
use Rattle.pq_encodings.proofs.BitLemmas.{Packs}
use Rattle.pq_encodings.proofs.bits.push_packed.Given as goal

abbrev pub invariant-loop-group : goal.invariant-loop-group
invariant-loop-group l = Packs l.width l.bytes l.count (8 * l.group) (vec_len l.own) (vec_capacity l.own) l.fn.out.items l.own.items

abbrev pub invariant-loop-k : goal.invariant-loop-k
invariant-loop-k l = Packs l.width l.bytes l.count l.k (vec_len l.own) (vec_capacity l.own) l.fn.out.items l.own.items
