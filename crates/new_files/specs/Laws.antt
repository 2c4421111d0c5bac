-- What holds of the names of data and delete files.
use Rattle.std.specs.Prelude.{◌≡◌, ◌<◌, ◌^◌, ℕ, Bool}
use Rattle.new_files.specs.Names.{IsOwn, name_of}

-- the names of numbers have the own form
abbrev pub AreOwn : Type 0
AreOwn = (number : ℕ) (deletes : Bool) → number < 2 ^ 128 → IsOwn (name_of number deletes)

-- one name is that of one number with one ending
abbrev pub Differ : Type 0
Differ =
    (a b : ℕ) (deletes other : Bool) → a < 2 ^ 128 → b < 2 ^ 128
    → name_of a deletes ≡ name_of b other
    → (a ≡ b) × (deletes ≡ other)
