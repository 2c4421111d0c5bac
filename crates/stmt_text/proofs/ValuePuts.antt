-- Printed values are read as themselves.
use Rattle.std.proofs.Common.{◌≡◌, ℕ, zero, suc, ◌+◌, ◌-◌, ◌*◌, ◌/◌, ◌%◌, ◌^◌, ◌<◌, ◌≤◌, ◌==◌, ℤ, pos, negsuc, neg_ℤ, Bool, true, false, ◌&&◌, List, [], ◌∷◌, length, slice_index, fold, refl, ap, sym, ◌∙◌, subst, arith, Some}
use Rattle.std.specs.Prelude.{nat_le, nat_lt, int_le, int_lt}
use Rattle.std.specs.Fmt.{decimal, signed_decimal}
use Rattle.std.specs.List.{list_all}
use Rattle.std.specs.Str.{is_utf8}
use Rattle.std.proofs.Common.{inl, inr}
use Rattle.std.proofs.lemmas.Bool.{and_parts, cases_lt, eqb-true, eq-eqb}
use Rattle.std.proofs.lemmas.List.{get_or_past}
use Rattle.std.proofs.lemmas.Fmt.{digits_decimal, digits_value-decimal, decimal_nonempty}
use Rattle.std.proofs.lemmas.Int.{ints}
use Rattle.std.proofs.lemmas.Str.Parse.{IsDigitsTest, FoldsDigits, IsNumeralModel, numerals_by_fold}
use Rattle.hex.specs.Hex.{encode_lower, encode_with, lower_digits}
use Rattle.hex.proofs.HexLemmas.{length-encode_with}
use Rattle.stmt_tokens.specs.Tokens.{is_digit, is_hex}
use Rattle.stmt_tokens.specs.declared.token.Kind.TheVariants as k
use Rattle.stmt_tokens.proofs.CutLemmas.{cut_digits, cut_minus}
use Rattle.stmt_tokens.specs.Laws.{token_of}
use Rattle.stmt_tokens.specs.Spelled.{IsCut}
use Rattle.stmt_reader.specs.Values.{natural, is_negative, magnitude, signed, integer_of, count_of, session_of, numbered, counted, unhex, hex_digit}

-- ---- digits

-- digits, and the number that they write, in the words of the grammar
abbrev AreDigits : List ℕ → Type 0
AreDigits ds = list_all is_digit ds ≡ true

abbrev number_after : ℕ → List ℕ → ℕ
number_after = fold (λ n b. n * 10 + (b - 48))

tells : IsDigitsTest AreDigits
tells = record {
  empty = refl;
  parts = λ c cs e. let p = and_parts (is_digit c) (list_all is_digit cs) e in (grind (arith, p.0), p.1);
  more = λ c cs h e. let d : is_digit c ≡ true = grind (arith, h) in rw d e;
}

folds : FoldsDigits number_after
folds = record { empty = λ n. refl; more = λ n c cs h. refl }

own : IsNumeralModel AreDigits (number_after 0)
own = numerals_by_fold AreDigits tells number_after folds

-- a number from 0 on
record IsDecimal (n : ℕ) : Type 0 where
  pub first : ℕ
  pub rest : List ℕ
  pub same : decimal n ≡ first ∷ rest
  pub is : is_digit first ≡ true
  pub all : list_all is_digit rest ≡ true
  pub value : natural (first ∷ rest) ≡ n

decimal_of : (n : ℕ) → n < 2 ^ 64 → IsDecimal n
decimal_of n h = go (decimal n) refl (digits_decimal own n h) (decimal_nonempty n h) (digits_value-decimal own n h)
  where
    go : (ds : List ℕ) → decimal n ≡ ds → AreDigits (decimal n) → 0 < length (decimal n) → number_after 0 (decimal n) ≡ n → IsDecimal n
    go [] e d l v = absurd (omega (arith, ap length e))
    go (c ∷ cs) e d l v =
        let p = and_parts (is_digit c) (list_all is_digit cs) (subst AreDigits e d) in
        record { first = c; rest = cs; same = e; is = p.0; all = p.1; value = subst (λ x. number_after 0 x ≡ n) e v }

no_minus : (c : ℕ) → is_digit c ≡ true → (c == 45) ≡ false
no_minus c h = grind arith

-- digits have no sign
is_positive : (c : ℕ) (cs : List ℕ) → is_digit c ≡ true → is_negative (c ∷ cs) ≡ false
is_positive c cs h = no_minus c h

whole_magnitude : (c : ℕ) (cs : List ℕ) → is_digit c ≡ true → magnitude (c ∷ cs) ≡ natural (c ∷ cs)
whole_magnitude c cs h = rw (no_minus c h) refl

-- what digits say of a sign and a number
read_decimal : {A : Type 0} (f : Bool → ℕ → A) (n : ℕ) → n < 2 ^ 64 → f (is_negative (decimal n)) (magnitude (decimal n)) ≡ f false n
read_decimal f n h =
    let d = decimal_of n h in
    ap (λ ds. f (is_negative ds) (magnitude ds)) d.same
    ∙ ap (λ b. f b (magnitude (d.first ∷ d.rest))) (is_positive d.first d.rest d.is)
    ∙ ap (f false) (whole_magnitude d.first d.rest d.is ∙ d.value)

pub read_session : (n : ℕ) → nat_le 1 n ≡ true → nat_le n 16 ≡ true → session_of (decimal n) ≡ Some n
read_session n h k = read_decimal numbered n (grind arith) ∙ (rw h (rw k refl))

pub read_count : (n : ℕ) → nat_le n (2 ^ 62) ≡ true → count_of (decimal n) ≡ Some n
read_count n h = read_decimal counted n (grind arith) ∙ rw h refl

signed_pos : (n : ℕ) → n < 2 ^ 63 → signed false n ≡ Some (pos n)
signed_pos n h = let e : nat_lt n (2 ^ 63) ≡ true = grind arith in rw e refl

signed_neg : (n : ℕ) → suc n ≤ 2 ^ 63 → signed true (suc n) ≡ Some (negsuc n)
signed_neg n h = let e : nat_le (suc n) (2 ^ 63) ≡ true = grind arith in rw e refl

negative_digits : (n : ℕ) → suc n < 2 ^ 64 → natural (decimal (suc n)) ≡ suc n
negative_digits n h = digits_value-decimal own (suc n) h

pub read_integer : (z : ℤ) → (int_le (neg_ℤ (pos 9223372036854775808)) z && int_lt z (pos 9223372036854775808)) ≡ true → integer_of (signed_decimal z) ≡ Some z
read_integer (pos n) h =
    let small : n < 2 ^ 63 = grind (arith, ints, h) in
    read_decimal signed n (omega arith) ∙ signed_pos n small
read_integer (negsuc n) h =
    let small : suc n ≤ 2 ^ 63 = grind (arith, ints, h) in
    ap (signed true) (negative_digits n (omega arith)) ∙ signed_neg n small

-- ---- numbers are cut off again

pub cut_decimal : (n : ℕ) → n < 2 ^ 64 → is_utf8 (decimal n) ≡ true → IsCut (token_of k.Number (decimal n))
cut_decimal n h u =
    let d = decimal_of n h in
    subst (λ ds. IsCut (token_of k.Number ds)) (sym d.same) (cut_digits d.first d.rest d.is d.all (subst (λ ds. is_utf8 ds ≡ true) d.same u))

cut_negative : (n : ℕ) → n < 2 ^ 64 → is_utf8 (45 ∷ decimal n) ≡ true → IsCut (token_of k.Number (45 ∷ decimal n))
cut_negative n h u =
    let d = decimal_of n h in
    subst (λ ds. IsCut (token_of k.Number (45 ∷ ds))) (sym d.same) (cut_minus d.first d.rest d.is d.all (subst (λ ds. is_utf8 (45 ∷ ds) ≡ true) d.same u))

pub cut_integer : (z : ℤ) → (int_le (neg_ℤ (pos 9223372036854775808)) z && int_lt z (pos 9223372036854775808)) ≡ true → is_utf8 (signed_decimal z) ≡ true → IsCut (token_of k.Number (signed_decimal z))
cut_integer (pos n) h u = let small : n < 2 ^ 63 = grind (arith, ints, h) in cut_decimal n (omega arith) u
cut_integer (negsuc n) h u = let small : suc n ≤ 2 ^ 63 = grind (arith, ints, h) in cut_negative (suc n) (omega arith) u

-- ---- bytes

-- past the table's end there is no digit
is_byte : (b : ℕ) → is_hex (slice_index lower_digits (b / 16)) ≡ true → b < 256
is_byte b h =
    elim (cases_lt b 256) [
      | inl below ↦ below
      | inr above ↦
          let none : slice_index lower_digits (b / 16) ≡ 0 = get_or_past lower_digits (b / 16) 0 (omega arith) in
          let no : false ≡ true = ap is_hex (sym none) ∙ h in
          absurd (cc no)
    ]

abbrev all_read : ℕ → Bool
all_read zero = true
all_read (suc n) = (hex_digit (slice_index lower_digits n) == n) && all_read n

read_at : (n d : ℕ) → all_read n ≡ true → d < n → hex_digit (slice_index lower_digits d) ≡ d
read_at zero d h l = absurd (omega arith)
read_at (suc n) d h l =
    let parts = and_parts (hex_digit (slice_index lower_digits n) == n) (all_read n) h in
    elim (cases_lt d n) [
      | inl below ↦ read_at n d parts.1 below
      | inr top ↦
          let e : d ≡ n = omega arith in
          let f : hex_digit (slice_index lower_digits n) ≡ n = eqb-true (hex_digit (slice_index lower_digits n)) n parts.0 in
          rw e f
    ]

digit_read : (d : ℕ) → d < 16 → hex_digit (slice_index lower_digits d) ≡ d
digit_read d l = read_at 16 d refl l

-- digits that are those of bytes are read as these bytes
pub unhex_encoded : (bytes : List ℕ) → list_all is_hex (encode_lower bytes) ≡ true → unhex (encode_lower bytes) ≡ bytes
unfolding encode_with
unhex_encoded [] h = refl
unhex_encoded (b ∷ rest) h =
    let high = and_parts (is_hex (slice_index lower_digits (b / 16))) (is_hex (slice_index lower_digits (b % 16)) && list_all is_hex (encode_with lower_digits rest)) h in
    let low = and_parts (is_hex (slice_index lower_digits (b % 16))) (list_all is_hex (encode_with lower_digits rest)) high.1 in
    let byte : b < 256 = is_byte b high.0 in
    let one = digit_read (b / 16) (omega arith) in
    let two = digit_read (b % 16) (omega arith) in
    let whole : b / 16 * 16 + b % 16 ≡ b = omega arith in
    rw one (rw two (rw whole (ap (λ x. b ∷ x) (unhex_encoded rest low.1))))

pub even_digits : (bytes : List ℕ) → (length (encode_lower bytes) % 2 == 0) ≡ true
even_digits bytes =
    let e = length-encode_with lower_digits bytes in
    let even : length (encode_lower bytes) % 2 ≡ 0 = omega (arith, e) in
    eq-eqb (length (encode_lower bytes) % 2) 0 even
