-- Sums that go past a bound before their end.
use Rattle.std.proofs.Common.{◌≤◌, ◌<◌, ◌+◌, ℕ, List, length, take, get_or, arith}
use Rattle.std.specs.List.{sum_by}
use Rattle.std.proofs.lemmas.List.Sums.{sum_by_more, sum_by-take-le}

pub past : {X : Type 0} (f : X → ℕ) (xs : List X) (i m : ℕ) (d : X) → i < length xs → m ≤ sum_by f (take i xs) + f (get_or xs i d) → m ≤ sum_by f xs
past f xs i m d lt over = omega (arith, sum_by_more f xs i d lt, sum_by-take-le f xs (i + 1))

pub ruleset sums = (past, sum_by_more)
