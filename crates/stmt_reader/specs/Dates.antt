-- The day that a text names.
use Rattle.std.specs.Prelude.{ℕ, zero, suc, ℤ, pos, neg_ℤ, ◌+ℤ◌, List, Option, Some, None, if◌then◌else◌}
use Rattle.std.specs.Str.{bytes_eq}
use Rattle.lake_types.specs.Calendar.{day_text}

-- so many days after 0001-01-01, as days since 1970-01-01
abbrev pub day_number : ℕ → ℤ
day_number n = neg_ℤ (pos 719162) +ℤ pos n

-- of the first n days the last one with this text, as 2024-02-29
unfoldable pub day_among : ℕ → List ℕ → Option ℤ
day_among zero text = None
day_among (suc n) text = if bytes_eq (day_text (day_number n)) text then Some (day_number n) else day_among n text

-- the day from 0001-01-01 to 9999-12-31 with this text
abbrev pub date_of : List ℕ → Option ℤ
date_of text = day_among 3652059 text
