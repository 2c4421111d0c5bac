-- The date after so many days is the one that the date library counts so far.
use Rattle.std.proofs.Common.{◌≡◌, ℕ, zero, suc, ◌+◌, ◌<◌, ◌≤◌, inl, inr, true, nat_lt, int_le, refl, sym, ap, ◌∙◌, arith, rules, ℤ, pos, neg_ℤ, ◌+ℤ◌, unsigned_abs, List, Ok}
use Rattle.std.proofs.lemmas.Bool.{cases_Bool, cases_lt, and_parts}
use Rattle.std.proofs.lemmas.Bool.Decides.{nat_tests}
use Rattle.std.proofs.lemmas.Int.{ints}
use Rattle.jiff_core.specs.declared.civil.date.Date.{Date}
use Rattle.jiff_core.specs.Calendar.{days_in_month, day_count, IsCivilDate}
use Rattle.jiff_core.specs.Date.{epoch_day}
use Rattle.jiff_core.proofs.DateLemmas.{epoch_day_injective, epoch_day_same}
use Rattle.jiff_core.proofs.SignedLemmas.{signed_arith}
use Rattle.jiff_core.proofs.CalendarLemmas.{days_from_civil-day_count, days_in_month_bounds, day_count-day, day_count-next_month, day_count-next_year, day_count-last_of_year, day_count-lt_year, day_count-end}
use Rattle.jiff_fmt.specs.Text.{date_text}
use Rattle.jiff_fmt.specs.Temporal.{DateParts, date_parts, parse_date}
use Rattle.jiff_fmt.proofs.RoundTrip.{parse_date-date_text}
use Rattle.jiff_core.proofs.MarchLemmas.{day_count-early}
use Rattle.lake_types.specs.Calendar.{Civil, first_date, day_after, date_after, is_day, day_text}

-- a date of the calendar, so many days after 0001-01-01
record Lies (n : ℕ) (c : Civil) : Type 0 where
  year : 1 ≤ c.year
  month : 1 ≤ c.month
  months : c.month ≤ 12
  day : 1 ≤ c.day
  days : c.day ≤ days_in_month (pos c.year) c.month
  count : day_count (pos c.year) c.month c.day ≡ 3_652_791 + n

first : Lies 0 first_date
first = record {
  year = omega arith;
  month = omega arith;
  months = omega arith;
  day = omega arith;
  days = omega (arith, days_in_month_bounds (pos 1) 1);
  count = day_count-early (pos 1) 10000 1 1 refl (omega arith) (omega arith) (omega arith);
}

in_month : (n y m d : ℕ) → Lies n (record { year = y; month = m; day = d }) → d < days_in_month (pos y) m
    → Lies (suc n) (record { year = y; month = m; day = d + 1 })
in_month n y m d h lt = record {
  year = h.year;
  month = h.month;
  months = h.months;
  day = omega arith;
  days = omega arith;
  count = omega (arith, day_count-day (pos y) m d (d + 1) h.day (omega arith), h.count);
}

in_year : (n y m d : ℕ) → Lies n (record { year = y; month = m; day = d }) → days_in_month (pos y) m ≤ d → m < 12
    → Lies (suc n) (record { year = y; month = m + 1; day = 1 })
in_year n y m d h last lt = record {
  year = h.year;
  month = omega arith;
  months = omega arith;
  day = omega arith;
  days = omega (arith, days_in_month_bounds (pos y) (m + 1));
  count = omega (arith, day_count-next_month (pos y) m h.month, day_count-day (pos y) m d 1 h.day (omega arith), h.count, h.days);
}

new_year : (n y m d : ℕ) → Lies n (record { year = y; month = m; day = d }) → days_in_month (pos y) m ≤ d → 12 ≤ m
    → Lies (suc n) (record { year = y + 1; month = 1; day = 1 })
new_year n y m d h last le =
    let december : m ≡ 12 = omega (arith, h.months) in
    let days : days_in_month (pos y) m ≡ 31 = rw december refl in
    let end : d ≡ 31 = omega (arith, h.days) in
    let count : day_count (pos y) 12 31 ≡ 3_652_791 + n = rw (december, end) at h.count in
    record {
      year = omega arith;
      month = omega arith;
      months = omega arith;
      day = omega arith;
      days = omega (arith, days_in_month_bounds (pos (y + 1)) 1);
      count = omega (arith, day_count-next_year (pos y) (pos (y + 1)) (search rules) refl, day_count-last_of_year (pos y), count);
    }

next : (n y m d : ℕ) → Lies n (record { year = y; month = m; day = d }) → Lies (suc n) (day_after (record { year = y; month = m; day = d }))
next n y m d h =
    elim (cases_Bool (nat_lt d (days_in_month (pos y) m))) [
      | inl inside ↦ rw inside (in_month n y m d h (grind (arith, nat_tests)))
      | inr last ↦ elim (cases_Bool (nat_lt m 12)) [
        | inl before ↦ rw (last, before) (in_year n y m d h (grind (arith, nat_tests)) (grind (arith, nat_tests)))
        | inr december ↦ rw (last, december) (new_year n y m d h (grind (arith, nat_tests)) (grind (arith, nat_tests)))
      ]
    ]

lies : (n : ℕ) → Lies n (date_after n)
unfolding date_after
lies zero = first
lies (suc n) = let c = date_after n in next n c.year c.month c.day (lies n)

-- ---- the same date in the library's form

-- the date that has these parts
record IsMade (n : ℕ) (c : Civil) (d : Date) : Type 0 where
  year : d.year ≡ pos c.year
  month : d.month ≡ c.month
  day : d.day ≡ c.day
  number : epoch_day d +ℤ pos 719_162 ≡ pos n

year_bound : (n : ℕ) (c : Civil) → Lies n c → n ≤ 3_652_058 → c.year ≤ 9999
year_bound n c h bound =
    elim (cases_lt 9999 c.year) [
      | inl late ↦
          let civil : IsCivilDate (pos 9999) 12 31 = search rules in
          absurd (omega (arith, h.count, day_count-lt_year (pos 9999) 12 31 (pos c.year) c.month c.day civil h.day (omega (arith, signed_arith)), day_count-last_of_year (pos 9999), day_count-next_year (pos 9999) (pos 10000) (search rules) refl, day_count-end))
      | inr early ↦ early
    ]

made : (n : ℕ) (c : Civil) → Lies n c → n ≤ 3_652_058 → (d : Date) × IsMade n c d
made n c h bound =
    let early = year_bound n c h bound in
    let d : Date = record {
      year = pos c.year;
      month = c.month;
      day = c.day;
      year_in = (omega (arith, signed_arith), omega (arith, signed_arith));
      month_in = (h.month, h.months);
      day_in = (h.day, h.days);
    } in (
      d,
      record {
        year = refl;
        month = refl;
        day = refl;
        number = omega (arith, signed_arith, days_from_civil-day_count (pos c.year) c.month c.day, h.count);
      },
    )

-- a day of the range lies so many days after the first
record Counts (day : ℤ) (n : ℕ) : Type 0 where
  bound : n ≤ 3_652_058
  number : day +ℤ pos 719_162 ≡ pos n

counts : (day : ℤ) → is_day day ≡ true → Counts day (unsigned_abs (day +ℤ pos 719_162))
counts day h =
    let parts = and_parts (int_le (neg_ℤ (pos 719_162)) day) (int_le day (pos 2_932_896)) h in
    record {
      bound = grind (arith, ints, parts);
      number = grind (arith, ints, parts);
    }

-- a day of the range is that of a date of the library, with the same text
pub date_of_day : (day : ℤ) → is_day day ≡ true → (d : Date) × (epoch_day d ≡ day) × (date_text d ≡ day_text day)
date_of_day day h =
    let n = unsigned_abs (day +ℤ pos 719_162) in
    let counted = counts day h in
    let found = made n (date_after n) (lies n) counted.bound in
    let d = found.0 in
    let is = found.1 in
    (d, omega (arith, signed_arith, is.number, counted.number), rw (is.year, is.month, is.day) refl)

same_parts : (a b : Date) → a.year ≡ b.year → a.month ≡ b.month → a.day ≡ b.day → (date_text a ≡ date_text b) × (epoch_day a ≡ epoch_day b)
same_parts a b year month day = (rw (year, month, day) refl, epoch_day_same a b year month day)

pub text_of_date : (d : Date) → is_day (epoch_day d) ≡ true → date_text d ≡ day_text (epoch_day d)
text_of_date d h =
    let found = date_of_day (epoch_day d) h in
    let same = epoch_day_injective found.0 d found.1 in
    sym (same_parts found.0 d same.0 same.1 same.2).0 ∙ found.2

-- ---- reading

-- the text of a day is read as a date
pub is_read : (day : ℤ) (text : List ℕ) → is_day day ≡ true → day_text day ≡ text → (parts : DateParts) × (parse_date text ≡ Ok parts)
is_read day text h e =
    let found = date_of_day day h in
    (date_parts found.0, rw (sym e ∙ sym found.2) (parse_date-date_text found.0))

-- and the date that is read has that text and is that day
pub read_as : (day : ℤ) (text : List ℕ) (d : Date) → is_day day ≡ true → day_text day ≡ text → parse_date text ≡ Ok (date_parts d)
    → (date_text d ≡ text) × (epoch_day d ≡ day)
read_as day text d h e read =
    let found = date_of_day day h in
    let back : parse_date text ≡ Ok (date_parts found.0) = rw (sym e ∙ sym found.2) (parse_date-date_text found.0) in
    let parts : date_parts d ≡ date_parts found.0 = cc (read, back) in
    let same = same_parts d found.0 (ap (λ p. p.year) parts) (ap (λ p. p.month) parts) (ap (λ p. p.day) parts) in
    (same.0 ∙ found.2 ∙ e, same.1 ∙ found.1)
