-- Numbers for new names.
use Rattle.std.specs.Prelude.{◌==◌, ℕ, zero, suc, ◌+◌, ◌-◌, ◌%◌, ◌^◌, List, [], ◌∷◌, ◌++◌, Option, Some, None, if◌then◌else◌}
use Rattle.lake_io.specs.Causes.{raised}
use Rattle.lake_io.specs.Told.{Takes}

-- the number was drawn behind those before it; the numbers that are told after a call were told before
abbrev pub Draws : Option (List ℕ) → Option (List ℕ) → ℕ → Type 0
Draws old new number = Takes old new (number ∷ [])

-- one more, or 0 after the last value of a u128
abbrev pub next_number : ℕ → ℕ
next_number number = (number + 1) % 2 ^ 128

-- the number at a place among those that count on from the first
abbrev pub number_at : ℕ → ℕ → ℕ
number_at first zero = first
number_at first (suc n) = next_number (number_at first n)

-- the first n of these
abbrev pub numbers_from : ℕ → ℕ → List ℕ
numbers_from first zero = []
numbers_from first (suc n) = numbers_from first n ++ number_at first n ∷ []

-- names that count on: the first number, how many were drawn, and the next one
pub record CountedNames : Type 0 where
  pub first : ℕ
  pub count : ℕ
  pub next : ℕ

-- the numbers drawn, until their count stands at its last value
abbrev pub drawn_from : CountedNames → Option (List ℕ)
drawn_from names = if names.count == 2 ^ 64 - 1 then None else Some (numbers_from names.first names.count)

-- the names after one more is drawn
abbrev pub names_after : CountedNames → CountedNames
names_after names = record { first = names.first; count = raised names.count; next = next_number names.next }
