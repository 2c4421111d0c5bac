use Rattle.std.proofs.Common.{◌≡◌, ◌+◌, ◌-◌, ◌++◌, vec_len, vec_capacity}
use Rattle.thrift_compact.specs.Shortest.{number_spelling, unsigned_spelling}
use Rattle.thrift_compact.proofs.writer.append_number.Given as goal

abbrev pub invariant-loop-turn : goal.invariant-loop-turn
invariant-loop-turn l =
    (l.bytes.items ++ number_spelling (10 - l._turn) l.left ≡ l.fn.bytes.items ++ unsigned_spelling l.n)
    × (vec_len l.bytes ≡ vec_len l.fn.bytes + l._turn)
    × (vec_capacity l.bytes ≡ vec_capacity l.fn.bytes)
