-- Each text is that of one value, and values of one variant are in order.
use Rattle.std.proofs.Common.{◌≡◌, ℕ, ℤ, List, Bool, true, false, Some, Ok, refl, sym, ap, ◌∙◌, arith}
use Rattle.std.specs.declared.cmp.Ordering.TheVariants.{Equal}
use Rattle.std.specs.Cmp.{bool_cmp_total}
use Rattle.std.specs.Fmt.{signed_decimal}
use Rattle.std.specs.Ordering.{ordering_reverse, bool_cmp}
use Rattle.std.proofs.lemmas.Cmp.{int_cmp_total, nat_list_cmp_total}
use Rattle.std.proofs.lemmas.Fmt.{signed_decimal_injective}
use Rattle.std.proofs.lemmas.Map.Lookups.{exact_signed, exact_bytes}
use Rattle.jiff_fmt.specs.Temporal.{parse_date, date_parts}
use Rattle.jiff_fmt.proofs.RoundTrip.{parse_date-date_text}
use Rattle.lake_types.specs.declared.value.ColType.{ColType}
use Rattle.lake_types.specs.declared.value.ColType.TheVariants as ty
use Rattle.lake_types.specs.declared.value.Value.TheVariants as value
use Rattle.lake_types.specs.Calendar.{is_day, day_text}
use Rattle.lake_types.specs.Fits.{reach, reaches}
use Rattle.lake_types.specs.Laws.{Flips, HasOneValue, IsTransitive, OnlyEqualsTie}
use Rattle.lake_types.specs.Texts.{bool_text}
use Rattle.lake_types.proofs.CalendarLemmas.{date_of_day, read_as}
use Rattle.lake_types.proofs.TextLemmas.{i64_within, decodes}

-- ---- two values with one text, variant by variant

one_truth : (a b : Bool) → bool_text a ≡ bool_text b → a ≡ b
one_truth true true e = refl
one_truth false false e = refl
one_truth true false e = absurd (cc e)
one_truth false true e = absurd (cc e)

one_integer : (t : ColType) (a b : ℤ) → reaches (reach t) a ≡ true → reaches (reach t) b ≡ true → signed_decimal a ≡ signed_decimal b → a ≡ b
one_integer t a b f g e = signed_decimal_injective a b (i64_within t a f).small (i64_within t b g).small e

pub one_day : (a b : ℤ) (text : List ℕ) → is_day a ≡ true → is_day b ≡ true → day_text a ≡ text → day_text b ≡ text → a ≡ b
one_day a b text f g d e =
    let found = date_of_day b g in
    let read : parse_date text ≡ Ok (date_parts found.0) = rw (sym e ∙ sym found.2) (parse_date-date_text found.0) in
    sym (read_as a text found.0 f d read).1 ∙ found.1

pub one_value : HasOneValue
one_value t value.Null b text h k = absurd (h.0 refl)
one_value t a value.Null text h k = absurd (k.0 refl)
one_value t (value.Bool a) (value.Bool b) text h k = ap value.Bool (one_truth a b (h.3 ∙ sym k.3))
one_value t (value.Int a) (value.Int b) text h k = ap value.Int (one_integer t a b h.1 k.1 (h.3 ∙ sym k.3))
one_value t (value.Text a) (value.Text b) text h k = ap value.Text (h.3 ∙ sym k.3)
one_value t (value.Bytes a) (value.Bytes b) text h k = ap value.Bytes (cc (decodes a text h.2 h.3, decodes b text k.2 k.3))
one_value ty.Date (value.Date a) (value.Date b) text h k = ap value.Date (one_day a b text h.1 k.1 h.3 k.3)
one_value t a b text h k = absurd (grind (arith, h.1, k.1))

-- ---- the order

pub flips : Flips
flips (value.Bool a) (value.Bool b) o h = ap Some (bool_cmp_total.antisymm b a ∙ ap ordering_reverse (cc h))
flips (value.Int a) (value.Int b) o h = ap Some (int_cmp_total.antisymm b a ∙ ap ordering_reverse (cc h))
flips (value.Text a) (value.Text b) o h = ap Some (nat_list_cmp_total.antisymm b a ∙ ap ordering_reverse (cc h))
flips (value.Bytes a) (value.Bytes b) o h = ap Some (nat_list_cmp_total.antisymm b a ∙ ap ordering_reverse (cc h))
flips (value.Date a) (value.Date b) o h = ap Some (int_cmp_total.antisymm b a ∙ ap ordering_reverse (cc h))
flips a b o h = absurd (grind (arith, h))

pub transitive : IsTransitive
transitive (value.Bool a) (value.Bool b) (value.Bool c) h k = ap Some (bool_cmp_total.trans a b c (cc h) (cc k))
transitive (value.Int a) (value.Int b) (value.Int c) h k = ap Some (int_cmp_total.trans a b c (cc h) (cc k))
transitive (value.Text a) (value.Text b) (value.Text c) h k = ap Some (nat_list_cmp_total.trans a b c (cc h) (cc k))
transitive (value.Bytes a) (value.Bytes b) (value.Bytes c) h k = ap Some (nat_list_cmp_total.trans a b c (cc h) (cc k))
transitive (value.Date a) (value.Date b) (value.Date c) h k = ap Some (int_cmp_total.trans a b c (cc h) (cc k))
transitive a b c h k = absurd (grind (arith, h, k))

truths_tie : (a b : Bool) → bool_cmp a b ≡ Equal → a ≡ b
truths_tie true true e = refl
truths_tie false false e = refl
truths_tie true false e = absurd (cc e)
truths_tie false true e = absurd (cc e)

pub only_equals_tie : OnlyEqualsTie
only_equals_tie (value.Bool a) (value.Bool b) h = ap value.Bool (truths_tie a b (cc h))
only_equals_tie (value.Int a) (value.Int b) h = ap value.Int (exact_signed a b (cc h))
only_equals_tie (value.Text a) (value.Text b) h = ap value.Text (exact_bytes a b (cc h))
only_equals_tie (value.Bytes a) (value.Bytes b) h = ap value.Bytes (exact_bytes a b (cc h))
only_equals_tie (value.Date a) (value.Date b) h = ap value.Date (exact_signed a b (cc h))
only_equals_tie a b h = absurd (grind (arith, h))
