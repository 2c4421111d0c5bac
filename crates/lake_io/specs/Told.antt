-- The bytes that a source or a sink tells of, where it does.
use Rattle.std.specs.Prelude.{◌≡◌, ℕ, ◌+◌, ◌-◌, ◌^◌, min, List, [], ◌++◌, take, Option, Some, None, Result, Ok, Err}

-- A source has given these bytes: they stood at the front of what was left. It tells what is left after a
-- call exactly where it told it before.
abbrev pub Gives : Option (List ℕ) → Option (List ℕ) → List ℕ → Type 0
Gives (Some old) (Some new) bytes = old ≡ bytes ++ new
Gives None None bytes = Unit {0}
Gives (Some old) None bytes = ⊥
Gives None (Some new) bytes = ⊥

-- nothing is left, where that is told
abbrev pub IsAtEnd : Option (List ℕ) → Type 0
IsAtEnd None = Unit {0}
IsAtEnd (Some left) = left ≡ []

-- A sink has taken these bytes, behind those that it took before. What it tells after a call it told before.
abbrev pub Takes : Option (List ℕ) → Option (List ℕ) → List ℕ → Type 0
Takes old None bytes = Unit {0}
Takes (Some old) (Some new) bytes = new ≡ old ++ bytes
Takes None (Some new) bytes = ⊥

-- the bytes that a call moved: as many of these as it answered, from the first
abbrev pub bytes_moved : {E : Type 0} → Result ℕ E → List ℕ → List ℕ
bytes_moved (Ok n) bytes = take n bytes
bytes_moved (Err e) bytes = []

-- the count of bytes after a call that moved as many as it answered
abbrev pub count_after : {E : Type 0} → ℕ → Result ℕ E → ℕ
count_after before (Ok n) = min (before + n) (2 ^ 64 - 1)
count_after before (Err e) = before
