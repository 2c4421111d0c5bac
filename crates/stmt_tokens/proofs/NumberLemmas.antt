-- The number at the front of a line.
use Rattle.std.proofs.Common.{◌≡◌, ℕ, zero, suc, ◌+◌, ◌==◌, Bool, true, false, cond, not, ◌&&◌, inl, inr, List, [], ◌∷◌, take, Option, Some, None, refl, ap, sym, ◌∙◌, arith}
use Rattle.std.specs.Prelude.{nat_le, option_map}
use Rattle.std.specs.List.{list_all, prefix_len}
use Rattle.std.specs.Str.{is_utf8, str_eq_ignore_ascii_case}
use Rattle.std.proofs.lemmas.Bool.{eqb-true, or_cases, and_parts, not-true}
use Rattle.stmt_tokens.proofs.AsciiLemmas.{ascii_text, is_low}
use Rattle.stmt_tokens.specs.Tokens.{bytes_at, closing, digits_len, hex_len, is_bytes, is_digit, is_letter, is_number, keyword, keywords, long_sign, lookup, begins_number, made, number_at, number_at_front, number_in, number_text, opens, plain, quoted_at, quoted_of, quoted_to, sign_at, sign_of, sign_to, taken, text_at, text_to, token_at, undouble, word_at, word_len, word_of}
use Rattle.stmt_tokens.specs.declared.token.Keyword.{Keyword}
use Rattle.stmt_tokens.specs.declared.token.Kind.{Kind}
use Rattle.stmt_tokens.specs.declared.token.Kind.TheVariants as k
use Rattle.stmt_tokens.specs.declared.token.Sign.{Sign}
use Rattle.stmt_tokens.specs.declared.token.Token.{Token}
use Rattle.std.specs.Prelude.{◌-◌, length, drop}

-- ---- tokens that are no number

abbrev NoNumber : Option Token → Type 0
NoNumber None = Unit {0}
NoNumber (Some t) = number_text t.kind t.text ≡ None

taken_none : (o : Option Token) (len : ℕ) (rest : List ℕ) → NoNumber o → number_in (Some (taken o len rest).0) ≡ None
taken_none None len rest h = refl
taken_none (Some t) len rest h = h

made_none : (a : Kind) (text : List ℕ) (u : Bool) → number_text a text ≡ None → NoNumber (cond u (Some (record { kind = a; text = text })) None)
made_none a text true h = h
made_none a text false h = tt

lookup_none : (es : List (List ℕ × Keyword)) (word text : List ℕ) → number_text (lookup es word) text ≡ None
lookup_none [] word text = refl
lookup_none (e ∷ es) word text = one (str_eq_ignore_ascii_case e.0 word) (lookup_none es word text)
  where
    one : (t : Bool) → number_text (lookup es word) text ≡ None → number_text (cond t (k.Keyword e.1) (lookup es word)) text ≡ None
    one true h = refl
    one false h = h

keyword_none : (word text : List ℕ) → number_text (keyword word) text ≡ None
unfolding keyword
keyword_none word text = lookup_none keywords word text

word_none : (b : ℕ) (rest : List ℕ) → number_in (Some (word_at b rest).0) ≡ None
word_none b rest =
    let text : List ℕ = b ∷ take (word_len rest) rest in
    taken_none (word_of text) (word_len rest) rest (by_length (nat_le (length text) 255) text)
  where
    by_length : (t : Bool) (text : List ℕ) → NoNumber (cond t (made (keyword text) text) None)
    by_length true text = made_none (keyword text) text (is_utf8 text) (keyword_none text text)
    by_length false text = tt

bytes_none : (rest : List ℕ) → number_in (Some (bytes_at rest).0) ≡ None
bytes_none rest =
    let digits : List ℕ = take (hex_len (drop 1 rest)) (drop 1 rest) in
    taken_none (made k.Bytes digits) (hex_len (drop 1 rest) + 2) rest (made_none k.Bytes digits (is_utf8 digits) refl)

text_none : (rest : List ℕ) (o : Option ℕ) → number_in (Some (text_to rest o).0) ≡ None
text_none rest None = refl
text_none rest (Some n) =
    let text : List ℕ = undouble 39 false (take (n - 1) rest) in taken_none (made k.Text text) n rest (made_none k.Text text (is_utf8 text) refl)

quoted_none : (rest : List ℕ) (o : Option ℕ) → number_in (Some (quoted_to rest o).0) ≡ None
quoted_none rest None = refl
quoted_none rest (Some n) =
    let text : List ℕ = undouble 34 false (take (n - 1) rest) in
    taken_none (quoted_of text) n rest (by_length (nat_le 1 (length text) && nat_le (length text) 255) text)
  where
    by_length : (t : Bool) (text : List ℕ) → NoNumber (cond t (made k.Quoted text) None)
    by_length true text = made_none k.Quoted text (is_utf8 text) refl
    by_length false text = tt

sign_none : (b : ℕ) (rest : List ℕ) (o : Option Sign) → number_in (Some (sign_to b rest o).0) ≡ None
sign_none b rest (Some a) = refl
sign_none b rest None = taken_none (option_map plain (sign_of b)) 0 rest (short (sign_of b))
  where
    short : (o : Option Sign) → NoNumber (option_map plain o)
    short None = tt
    short (Some a) = refl

-- ---- numbers

digit_low : (b : ℕ) → is_digit b ≡ true → is_low b ≡ true
digit_low b h = grind arith

number_low : (b : ℕ) (rest : List ℕ) → is_number b rest ≡ true → is_low b ≡ true
number_low b rest h =
    elim (or_cases (is_digit b) (b == 45 && opens is_digit rest) h) [
      | inl digit ↦ digit_low b digit
      | inr minus ↦ let e : b ≡ 45 = eqb-true b 45 (and_parts (b == 45) (opens is_digit rest) minus).0 in rw e refl
    ]

front_low : (rest : List ℕ) → list_all is_low (take (prefix_len is_digit rest) rest) ≡ true
front_low [] = refl
front_low (b ∷ rest) = one (is_digit b) refl (front_low rest)
  where
    one : (t : Bool) → is_digit b ≡ t → list_all is_low (take (prefix_len is_digit rest) rest) ≡ true → list_all is_low (take (cond t (1 + prefix_len is_digit rest) 0) (b ∷ rest)) ≡ true
    one false e h = refl
    one true e h =
        let next : 1 + prefix_len is_digit rest ≡ suc (prefix_len is_digit rest) = omega arith in
        ap (λ n. list_all is_low (take n (b ∷ rest))) next ∙ rw (digit_low b e) h

-- as many bytes of a list as a front of it has are this front
front_again : (n : ℕ) (rest : List ℕ) → take (length (take n rest)) rest ≡ take n rest
front_again zero rest = refl
front_again (suc n) [] = refl
front_again (suc n) (b ∷ rest) = ap (λ x. b ∷ x) (front_again n rest)

digits_low : (rest : List ℕ) → list_all is_low (take (digits_len rest) rest) ≡ true
digits_low rest = ap (λ x. list_all is_low x) (front_again (prefix_len is_digit rest) rest) ∙ front_low rest

number_is_text : (b : ℕ) (rest : List ℕ) → is_number b rest ≡ true → is_utf8 (b ∷ take (digits_len rest) rest) ≡ true
number_is_text b rest h = ascii_text (b ∷ take (digits_len rest) rest) (rw (number_low b rest h) (digits_low rest))

-- ---- the front of a line

number_there : (b : ℕ) (rest : List ℕ) → is_bytes b rest ≡ false → is_letter b ≡ false → is_number b rest ≡ true
    → number_in (Some (token_at b rest).0) ≡ Some (take (digits_len rest + 1) (b ∷ rest))
number_there b rest h g n =
    let size : digits_len rest + 1 ≡ suc (digits_len rest) = omega arith in
    rw h (rw g (rw n (rw (number_is_text b rest n) (ap (λ m. Some (take m (b ∷ rest))) (sym size)))))

pub front_number : (b : ℕ) (rest : List ℕ) → begins_number b rest ≡ true → number_at_front b rest ≡ Some (take (digits_len rest + 1) (b ∷ rest))
unfolding begins_number number_at_front
front_number b rest h =
    let all = and_parts (not (is_bytes b rest) && not (is_letter b)) (is_number b rest) h in
    let two = and_parts (not (is_bytes b rest)) (not (is_letter b)) all.0 in
    number_there b rest (not-true (is_bytes b rest) two.0) (not-true (is_letter b) two.1) all.1

pub front_other : (b : ℕ) (rest : List ℕ) → begins_number b rest ≡ false → number_at_front b rest ≡ None
unfolding begins_number number_at_front
front_other b rest h = one_of_six (is_bytes b rest) (is_letter b) (is_number b rest) (b == 39) (b == 34) h
  where
    one_of_six : (p q r s t : Bool) → (not p && not q && r) ≡ false
        → number_in (Some (cond p (bytes_at rest) (cond q (word_at b rest) (cond r (number_at b rest) (cond s (text_at rest) (cond t (quoted_at rest) (sign_at b rest)))))).0) ≡ None
    one_of_six true q r s t h = bytes_none rest
    one_of_six false true r s t h = word_none b rest
    one_of_six false false true s t h = cc
    one_of_six false false false true t h = text_none rest (closing 39 false 0 rest)
    one_of_six false false false false true h = quoted_none rest (closing 34 false 0 rest)
    one_of_six false false false false false h = sign_none b rest (long_sign b rest)

pub ruleset fronts = (front_number, front_other)
