use Rattle.std.proofs.Common.{◌≡◌}
use Rattle.pq_encodings.proofs.BoolLemmas.{bits_from}
use Rattle.pq_encodings.proofs.bools.bool_byte.Given as goal

abbrev pub invariant-loop-j : goal.invariant-loop-j
invariant-loop-j l = l.byte ≡ bits_from l.values l.first l.j
