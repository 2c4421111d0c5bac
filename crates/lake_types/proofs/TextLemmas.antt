-- Texts of values read back, and quotes that are doubled.
use Rattle.std.proofs.Common.{◌≡◌, ℕ, ℤ, suc, ◌<◌, ◌^◌, ◌==◌, ◌∷◌, [], ◌++◌, List, length, true, Result, Ok, inl, inr, FitsSigned, w64, refl, sym, ap, ◌∙◌, arith}
use Rattle.std.specs.Fmt.{signed_decimal}
use Rattle.std.specs.Int.Signed.{mag}
use Rattle.std.specs.List.{position_or_len, before_first, after_first}
use Rattle.std.specs.Str.Parse.{ParsesSigned}
use Rattle.std.proofs.lemmas.Bool.{cases_Bool}
use Rattle.std.proofs.lemmas.Fmt.{parse-signed_decimal}
use Rattle.std.proofs.lemmas.Int.{ints}
use Rattle.hex.specs.Hex.{IsBytes, encode_lower, decode_of}
use Rattle.hex.proofs.HexLemmas.{decode_of-encode_lower}
use native.Mathlib.Numerals.{unary_clauses}
use Rattle.lake_types.specs.declared.value.ColType.{ColType}
use Rattle.lake_types.specs.declared.value.ColType.TheVariants as ty
use Rattle.lake_types.specs.Fits.{reach, reaches}
use Rattle.lake_types.specs.Texts.{all_doubled}

-- ---- quotes

pub doubled_none : (quote : ℕ) (s : List ℕ) → position_or_len (λ b. b == quote) s ≡ length s → all_doubled quote s ≡ s
doubled_none quote [] h = refl
doubled_none quote (b ∷ s) h =
    elim (cases_Bool (b == quote)) [
      | inl is ↦ absurd (grind (arith, is))
      | inr other ↦ rw (other, doubled_none quote s (grind (arith, other))) refl
    ]

pub doubled_first : (quote : ℕ) (s : List ℕ) → position_or_len (λ b. b == quote) s < length s
    → all_doubled quote s ≡ before_first (λ b. b == quote) s ++ quote ∷ quote ∷ all_doubled quote (after_first (λ b. b == quote) s)
doubled_first quote [] h = absurd (omega arith)
doubled_first quote (b ∷ s) h =
    elim (cases_Bool (b == quote)) [
      | inl is ↦ rw is refl
      | inr other ↦
          let place : position_or_len (λ x. x == quote) (b ∷ s) ≡ suc (position_or_len (λ x. x == quote) s) = grind (arith, other) in
          let below : position_or_len (λ x. x == quote) s < length s = omega (arith, place) in
          let rest : all_doubled quote (b ∷ s) ≡ b ∷ all_doubled quote s = rw other refl in
          rest ∙ ap (λ t. b ∷ t) (doubled_first quote s below) ∙ rw place (simp unary_clauses refl)
    ]

-- ---- numbers

pub record IsI64 (n : ℤ) : Type 0 where
  pub fits : FitsSigned w64 n
  pub small : mag n < 2 ^ 63

pub i64_within : (t : ColType) (n : ℤ) → reaches (reach t) n ≡ true → IsI64 n
i64_within ty.Bool n h = absurd (grind (arith, h))
i64_within ty.Int8 n h = record { fits = grind (arith, ints, h); small = grind (arith, ints, h) }
i64_within ty.Int16 n h = record { fits = grind (arith, ints, h); small = grind (arith, ints, h) }
i64_within ty.Int32 n h = record { fits = grind (arith, ints, h); small = grind (arith, ints, h) }
i64_within ty.Int64 n h = record { fits = grind (arith, ints, h); small = grind (arith, ints, h) }
i64_within ty.Varchar n h = absurd (grind (arith, h))
i64_within ty.Blob n h = absurd (grind (arith, h))
i64_within ty.Date n h = absurd (grind (arith, h))

-- the text of an integer that fits an integer type is read as that integer
pub parses : {E : Type 0} (t : ColType) (n : ℤ) (text : List ℕ) (r : Result ℤ E) → reaches (reach t) n ≡ true → signed_decimal n ≡ text
    → ParsesSigned w64 10 text r → r ≡ Ok n
parses t n text r h e read =
    let is = i64_within t n h in
    parse-signed_decimal w64 n text r is.fits is.small (sym e) read

-- ---- bytes

-- the text of bytes decodes to them, and what decodes is bytes
pub decodes : (bytes text : List ℕ) → IsBytes bytes → encode_lower bytes ≡ text → decode_of text ≡ Ok bytes
decodes bytes text h e = rw (sym e) (decode_of-encode_lower bytes h)
