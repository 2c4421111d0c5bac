use Rattle.std.proofs.Common.{◌≡◌, ◌++◌, length}
use Rattle.stmt_reader.specs.Values.{unhex}
use Rattle.stmt_reader.proofs.numbers.unhex.Given as goal

-- the bytes so far and those of the digits to come are all
abbrev pub invariant-loop-digits : goal.invariant-loop-digits
invariant-loop-digits l = l.bytes.items ++ unhex l.digits ≡ unhex l.initial.digits

abbrev pub decreases-loop-digits : goal.decreases-loop-digits
decreases-loop-digits l = length l.digits
