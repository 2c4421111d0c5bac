-- The calendar's days from 0001-01-01 to 9999-12-31, as days since 1970-01-01.
use Rattle.std.specs.Prelude.{ℕ, zero, suc, ℤ, pos, neg_ℤ, ◌+◌, ◌+ℤ◌, ◌&&◌, Bool, int_le, nat_lt, unsigned_abs, List, ◌∷◌, ◌++◌, if◌then◌else◌}
use Rattle.jiff_core.specs.Calendar.{days_in_month}
use Rattle.jiff_fmt.specs.Text.{pad2, pad4}

-- a date by its year, month and day
pub record Civil : Type 0 where
  pub year : ℕ
  pub month : ℕ
  pub day : ℕ

abbrev pub first_date : Civil
first_date = record { year = 1; month = 1; day = 1 }

-- the next day of the month, else the first of the next month, else of the next year
abbrev pub day_after : Civil → Civil
day_after d =
    if nat_lt d.day (days_in_month (pos d.year) d.month) then record { year = d.year; month = d.month; day = d.day + 1 }
    else (if nat_lt d.month 12 then record { year = d.year; month = d.month + 1; day = 1 }
    else record { year = d.year + 1; month = 1; day = 1 })

-- the date that lies so many days after 0001-01-01
unfoldable pub date_after : ℕ → Civil
date_after zero = first_date
date_after (suc n) = day_after (date_after n)

-- `2024-02-29`
abbrev pub civil_text : Civil → List ℕ
civil_text d = pad4 d.year ++ 45 ∷ (pad2 d.month ++ 45 ∷ pad2 d.day)

-- 0001-01-01 lies 719,162 days before 1970-01-01, and 9999-12-31 lies 2,932,896 days after it
abbrev pub is_day : ℤ → Bool
is_day day = int_le (neg_ℤ (pos 719162)) day && int_le day (pos 2932896)

-- the date of a day
abbrev pub date_of : ℤ → Civil
date_of day = date_after (unsigned_abs (day +ℤ pos 719162))

abbrev pub day_text : ℤ → List ℕ
day_text day = civil_text (date_of day)
