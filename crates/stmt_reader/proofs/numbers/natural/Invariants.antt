use Rattle.std.proofs.Common.{◌≡◌, ◌-◌, ◌^◌, take, min}
use Rattle.stmt_reader.specs.Values.{natural}
use Rattle.stmt_reader.proofs.numbers.natural.Given as goal

-- the number that the digits so far write
abbrev pub invariant-loop-digit : goal.invariant-loop-digit
invariant-loop-digit l = l.number ≡ min (natural (take l.digit-index l.digits)) (2 ^ 64 - 1)
