-- The day that a text names is the one with this text.
use Rattle.std.proofs.Common.{◌≡◌, ◌≢◌, ℕ, zero, suc, ◌≤◌, ◌<◌, ℤ, pos, neg_ℤ, ◌+ℤ◌, unsigned_abs, int_le, Bool, true, false, cond, List, Some, None, inl, inr, refl, sym, ap, ◌∙◌, arith}
use Rattle.std.specs.Prelude.{option_map}
use Rattle.std.specs.Str.{bytes_eq}
use Rattle.std.proofs.lemmas.Bool.{and_parts, cases_lt}
use Rattle.std.proofs.lemmas.Int.{ints}
use Rattle.std.proofs.lemmas.Slice.Eq.{bytes_eq-Decides}
use Rattle.lake_types.specs.declared.value.ColType.TheVariants as ty
use Rattle.lake_types.specs.declared.value.Value.{Value}
use Rattle.lake_types.specs.declared.value.Value.TheVariants as value
use Rattle.lake_types.specs.Calendar.{is_day, day_text}
use Rattle.lake_types.specs.Texts.{HasText}
use Rattle.lake_types.proofs.ValueLemmas.{one_day}
use Rattle.stmt_reader.specs.Dates.{day_number, day_among, date_of}
use Rattle.stmt_reader.specs.Rules.{day_of}

pub in_calendar : (i : ℕ) → i < 3652059 → is_day (day_number i) ≡ true
in_calendar i h = grind (arith, ints)

place_of : (d : ℤ) → is_day d ≡ true → (i : ℕ) × (i < 3652059) × (day_number i ≡ d)
place_of d h =
    let parts = and_parts (int_le (neg_ℤ (pos 719162)) d) (int_le d (pos 2932896)) h in
    (unsigned_abs (d +ℤ pos 719162), grind (arith, ints, parts), grind (arith, ints, parts))

found_one : (n i : ℕ) (text : List ℕ) → suc n ≤ 3652059 → i < suc n → day_text (day_number i) ≡ text → (t : Bool) → bytes_eq (day_text (day_number n)) text ≡ t
    → (i < n → day_among n text ≡ Some (day_number i)) → cond t (Some (day_number n)) (day_among n text) ≡ Some (day_number i)
found_one n i text h l e true k ih =
    let same : day_text (day_number n) ≡ text = (bytes_eq-Decides (day_text (day_number n)) text).0 k in
    ap Some (one_day (day_number n) (day_number i) text (in_calendar n (omega arith)) (in_calendar i (omega arith)) same e)
found_one n i text h l e false k ih =
    elim (cases_lt i n) [
      | inl below ↦ ih below
      | inr above ↦
          let is : i ≡ n = omega arith in
          let same : day_text (day_number n) ≡ text = ap (λ j. day_text (day_number j)) (sym is) ∙ e in
          let no : true ≡ false = sym ((bytes_eq-Decides (day_text (day_number n)) text).1 same) ∙ k in
          absurd (cc no)
    ]

found : (n : ℕ) → n ≤ 3652059 → (i : ℕ) → i < n → (text : List ℕ) → day_text (day_number i) ≡ text → day_among n text ≡ Some (day_number i)
unfolding day_among
found zero h i l text e = absurd (omega arith)
found (suc n) h i l text e =
    found_one n i text h l e (bytes_eq (day_text (day_number n)) text) refl (λ g. found n (omega arith) i g text e)

pub day_found : (d : ℤ) (text : List ℕ) → is_day d ≡ true → day_text d ≡ text → date_of text ≡ Some d
day_found d text h e =
    let p = place_of d h in
    found 3652059 (omega arith) p.0 p.1 text (ap day_text p.2 ∙ e) ∙ ap Some p.2

none_one : (n : ℕ) (text : List ℕ) → suc n ≤ 3652059 → ((d : ℤ) → is_day d ≡ true → day_text d ≢ text) → (t : Bool) → bytes_eq (day_text (day_number n)) text ≡ t
    → day_among n text ≡ None → cond t (Some (day_number n)) (day_among n text) ≡ None
none_one n text h nay true k ih = absurd (nay (day_number n) (in_calendar n (omega arith)) ((bytes_eq-Decides (day_text (day_number n)) text).0 k))
none_one n text h nay false k ih = ih

none_among : (n : ℕ) → n ≤ 3652059 → (text : List ℕ) → ((d : ℤ) → is_day d ≡ true → day_text d ≢ text) → day_among n text ≡ None
unfolding day_among
none_among zero h text nay = refl
none_among (suc n) h text nay = none_one n text h nay (bytes_eq (day_text (day_number n)) text) refl (none_among n (omega arith) text nay)

pub day_known : (v : Value) (text : List ℕ) → HasText ty.Date v text → Some v ≡ day_of text
unfolding day_of
day_known value.Null text h = absurd (h.0 refl)
day_known (value.Date d) text h = sym (ap (option_map value.Date) (day_found d text h.1 h.3))
day_known v text h = absurd (grind (arith, h.1))

has_text : (d : ℤ) (text : List ℕ) → is_day d ≡ true → day_text d ≡ text → HasText ty.Date (value.Date d) text
has_text d text h e = ((λ n. cc), h, tt, e)

pub day_none : (text : List ℕ) → ((v : Value) → HasText ty.Date v text → ⊥) → None ≡ day_of text
unfolding day_of
day_none text nay = sym (ap (option_map value.Date) (none_among 3652059 (omega arith) text (λ d h e. nay (value.Date d) (has_text d text h e))))

pub ruleset days = (day_none)
