-- A number that stays at the last value of its type is known where it is below it.
use Rattle.std.specs.Prelude.{◌≡◌, ℕ, ◌-◌, ◌^◌, min, Bool, true, false}
use Rattle.std.proofs.Common.{arith}
use Rattle.stmt_reader.specs.Values.{signed, counted, numbered}

pub signed-min : (negative : Bool) (n : ℕ) → signed negative (min n (2 ^ 64 - 1)) ≡ signed negative n
signed-min true n = grind arith
signed-min false n = grind arith

pub counted-min : (negative : Bool) (n : ℕ) → counted negative (min n (2 ^ 64 - 1)) ≡ counted negative n
counted-min true n = grind arith
counted-min false n = grind arith

pub numbered-min : (negative : Bool) (n : ℕ) → numbered negative (min n (2 ^ 64 - 1)) ≡ numbered negative n
numbered-min true n = grind arith
numbered-min false n = grind arith

pub ruleset capped = (signed-min, counted-min, numbered-min)
