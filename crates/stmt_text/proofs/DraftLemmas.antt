-- What is known of a token's text by its type.
use Rattle.std.proofs.Common.{◌≡◌, ℕ, ◌<◌, ◌/◌, ◌%◌, Bool, true, ◌&&◌, List, [], ◌∷◌, ◌++◌, slice_index, suc, zero, refl, ap, ◌∙◌, arith}
use Rattle.std.proofs.Common.{inl, inr}
use Rattle.std.proofs.lemmas.Bool.{and_parts, cases_lt}
use Rattle.std.specs.Prelude.{Result, Ok, Err, OnOk, OnErr}
use Rattle.std.specs.List.{list_all}
use Rattle.std.specs.Str.{IsUtf8}
use Rattle.std.proofs.lemmas.Str.{is_utf8-from_IsUtf8}
use Rattle.std.proofs.lemmas.List.Folds.{list_all-append}
use Rattle.hex.specs.Hex.{IsBytes, encode_lower, encode_with, lower_digits}
use Rattle.stmt_tokens.specs.Tokens.{is_hex}
use Rattle.stmt_tokens.specs.declared.token.Kind.{Kind}
use Rattle.stmt_tokens.specs.declared.token.Kind.TheVariants as k
use Rattle.stmt_tokens.specs.declared.token.Token.{Token}
use Rattle.stmt_tokens.specs.Laws.{token_of}
use Rattle.stmt_text.specs.Printed.{has_digits, is_typed}

-- a digit of the table is a digit
abbrev all_hex : ℕ → Bool
all_hex zero = true
all_hex (suc n) = is_hex (slice_index lower_digits n) && all_hex n

hex_at : (n d : ℕ) → all_hex n ≡ true → d < n → is_hex (slice_index lower_digits d) ≡ true
hex_at zero d h l = absurd (omega arith)
hex_at (suc n) d h l =
    let parts = and_parts (is_hex (slice_index lower_digits n)) (all_hex n) h in
    elim (cases_lt d n) [
      | inl below ↦ hex_at n d parts.1 below
      | inr top ↦ let e : d ≡ n = omega arith in rw e parts.0
    ]

digit_hex : (d : ℕ) → d < 16 → is_hex (slice_index lower_digits d) ≡ true
digit_hex d l = hex_at 16 d refl l

pub bytes_digits : (bytes : List ℕ) → IsBytes bytes → has_digits k.Bytes (encode_lower bytes) ≡ true
unfolding encode_with
bytes_digits [] h = refl
bytes_digits (b ∷ rest) h =
    let fits : b < 256 = h 0 in
    rw (digit_hex (b / 16) (omega arith)) (rw (digit_hex (b % 16) (omega arith)) (bytes_digits rest (λ i. h (suc i))))

pub ruleset typed = (bytes_digits)

pub pushed : (ts : List Token) (a : Kind) (text : List ℕ) → list_all is_typed ts ≡ true → IsUtf8 text → has_digits a text ≡ true → list_all is_typed (ts ++ token_of a text ∷ []) ≡ true
pushed ts a text h u d = list_all-append is_typed ts (token_of a text ∷ []) ∙ rw h (rw (is_utf8-from_IsUtf8 text u) (rw d refl))

-- one token more, or none where memory is wanted
pub kept : {E : Type 0} (r : Result (Unit {0}) E) (ts new : List Token) (a : Kind) (text given : List ℕ)
    → OnOk r (new ≡ ts ++ token_of a text ∷ []) → OnErr r (new ≡ ts) → text ≡ given
    → list_all is_typed ts ≡ true → IsUtf8 given → has_digits a given ≡ true → list_all is_typed new ≡ true
kept (Ok x) ts new a text given ok err same h u d = ap (list_all is_typed) ok ∙ ap (λ s. list_all is_typed (ts ++ token_of a s ∷ [])) same ∙ pushed ts a given h u d
kept (Err e) ts new a text given ok err same h u d = ap (list_all is_typed) err ∙ h
