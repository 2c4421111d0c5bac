-- What is cut off as a text, a quoted name or bytes is spelled so in the line.
use Rattle.std.proofs.Common.{◌≡◌, ℕ, suc, zero, ◌+◌, ◌-◌, ◌==◌, ◌%◌, Bool, true, false, cond, ◌&&◌, ◌||◌, ◌⊎◌, inl, inr, List, [], ◌∷◌, ◌++◌, length, take, drop, Option, Some, None, refl, ap, sym, ◌∙◌, subst, arith}
use Rattle.std.specs.Prelude.{nat_le, option_map}
use Rattle.std.specs.Str.{is_utf8, str_eq_ignore_ascii_case}
use Rattle.std.proofs.lemmas.Bool.{and_parts, eqb-true}
use Rattle.lake_types.specs.Texts.{quoted_by}
use Rattle.stmt_tokens.specs.declared.token.Kind.{Kind}
use Rattle.stmt_tokens.specs.declared.token.Keyword.{Keyword}
use Rattle.stmt_tokens.specs.declared.token.Kind.TheVariants as k
use Rattle.stmt_tokens.specs.declared.token.Sign.{Sign}
use Rattle.stmt_tokens.specs.declared.token.Token.{Token}
use Rattle.stmt_tokens.specs.Tokens.{Lexed, bytes_at, closing, digits_len, hex_len, is_bytes, is_letter, is_number, is_quote, keyword, keywords, long_sign, lookup, made, number_at, opens, plain, quoted_at, quoted_to, sign_at, sign_of, sign_to, taken, text_at, text_to, token_at, undouble, word_at, word_len, word_of}
use Rattle.stmt_tokens.proofs.CutLemmas.{double, double_is, take_all, undouble_double}
use Rattle.stmt_tokens.specs.Laws.{Stands, StandsAs, token_of}

-- ---- quotes

-- a text with its quotes doubled, a quote, and what begins with none; m counts to behind the quote, with n before
record IsClosed (quote n m : ℕ) (rest : List ℕ) : Type 0 where
  text : List ℕ
  tail : List ℕ
  cut : rest ≡ double quote text ++ quote ∷ tail
  count : m ≡ n + length (double quote text) + 1
  ends : opens (λ b. b == quote) tail ≡ false

-- the same behind a quote, which is the closing one or the first of two
abbrev Closes : ℕ → Bool → ℕ → ℕ → List ℕ → Type 0
Closes quote false n m rest = IsClosed quote n m rest
Closes quote true n m rest = ((m ≡ n) × (opens (λ b. b == quote) rest ≡ false)) ⊎ ((more : List ℕ) × (rest ≡ quote ∷ more) × IsClosed quote (n + 1) m more)

after_byte : (quote b n m : ℕ) (rest : List ℕ) (t : Bool) → b == quote ≡ t → Closes quote t (n + 1) m rest → IsClosed quote n m (b ∷ rest)
unfolding double
after_byte quote b n m rest false e i = record {
  text = b ∷ i.text;
  tail = i.tail;
  cut = rw e (ap (λ x. b ∷ x) i.cut);
  count = let c = i.count in rw e (omega (arith, c));
  ends = i.ends;
}
after_byte quote b n m rest true e (inl h) = record {
  text = [];
  tail = rest;
  cut = ap (λ x. x ∷ rest) (eqb-true b quote e);
  count = let c = h.0 in omega (arith, c);
  ends = h.1;
}
after_byte quote b n m rest true e (inr h) =
    let i = h.2 in
    let same : quote ≡ b = sym (eqb-true b quote e) in
    record {
      text = b ∷ i.text;
      tail = i.tail;
      cut = rw e (ap (λ x. b ∷ x) (h.1 ∙ ap (λ x. x ∷ h.0) same ∙ ap (λ x. b ∷ x) i.cut));
      count = let c = i.count in rw e (omega (arith, c));
      ends = i.ends;
    }

after_quote : (quote b n m : ℕ) (rest : List ℕ) (t : Bool) → b == quote ≡ t → cond t (closing quote false (n + 1) rest) (Some n) ≡ Some m
    → (closing quote false (n + 1) rest ≡ Some m → IsClosed quote (n + 1) m rest) → Closes quote true n m (b ∷ rest)
after_quote quote b n m rest true e h go = inr (rest, ap (λ x. x ∷ rest) (eqb-true b quote e), go h)
after_quote quote b n m rest false e h go = inl ((let i : n ≡ m = cc in sym i), e)

closes : (quote : ℕ) (second : Bool) (rest : List ℕ) (n m : ℕ) → closing quote second n rest ≡ Some m → Closes quote second n m rest
closes quote false [] n m h = cc
closes quote true [] n m h = inl ((let i : n ≡ m = cc in sym i), refl)
closes quote false (b ∷ rest) n m h = after_byte quote b n m rest (b == quote) refl (closes quote (b == quote) rest (n + 1) m h)
closes quote true (b ∷ rest) n m h = after_quote quote b n m rest (b == quote) refl h (λ g. closes quote false rest (n + 1) m g)

take_past : (a : List ℕ) (t : ℕ) (b : List ℕ) → take (suc (length a)) (a ++ t ∷ b) ≡ a ++ t ∷ []
take_past [] t b = refl
take_past (x ∷ a) t b = ap (λ y. x ∷ y) (take_past a t b)

drop_past : (a : List ℕ) (t : ℕ) (b : List ℕ) → drop (suc (length a)) (a ++ t ∷ b) ≡ b
drop_past [] t b = refl
drop_past (x ∷ a) t b = drop_past a t b

-- what stands behind a quote to its closing one
record IsInside (quote n : ℕ) (rest : List ℕ) : Type 0 where
  front : quote ∷ take n rest ≡ quoted_by quote (undouble quote false (take (n - 1) rest))
  ends : opens (λ b. b == quote) (drop n rest) ≡ false

inside_of : (quote n : ℕ) (rest : List ℕ) → IsClosed quote 0 n rest → IsInside quote n rest
inside_of quote n rest i =
    let c = i.count in
    let d : List ℕ = double quote i.text in
    let size : n ≡ suc (length d) = omega (arith, c) in
    let less : n - 1 ≡ length d = omega (arith, c) in
    let all : take n rest ≡ d ++ quote ∷ [] = ap (λ x. take n x) i.cut ∙ ap (λ x. take x (d ++ quote ∷ i.tail)) size ∙ take_past d quote i.tail in
    let behind : drop n rest ≡ i.tail = ap (λ x. drop n x) i.cut ∙ ap (λ x. drop x (d ++ quote ∷ i.tail)) size ∙ drop_past d quote i.tail in
    let text : take (n - 1) rest ≡ d = ap (λ x. take (n - 1) x) i.cut ∙ ap (λ x. take x (d ++ quote ∷ i.tail)) less ∙ take_all d (quote ∷ i.tail) in
    let plain : undouble quote false (take (n - 1) rest) ≡ i.text = ap (λ x. undouble quote false x) text ∙ undouble_double quote i.text in
    record {
      front = ap (λ x. quote ∷ x) (all ∙ ap (λ x. x ++ quote ∷ []) (sym (double_is quote i.text))) ∙ ap (λ x. quoted_by quote x) (sym plain);
      ends = ap (λ x. opens (λ b. b == quote) x) behind ∙ i.ends;
    }

text_stands : (rest : List ℕ) (o : Option ℕ) → closing 39 false 0 rest ≡ o → Stands 39 rest (text_to rest o)
text_stands rest None h = tt
text_stands rest (Some n) h = by_text (undouble 39 false (take (n - 1) rest)) (is_utf8 (undouble 39 false (take (n - 1) rest))) (inside_of 39 n rest (closes 39 false rest 0 n h)).front (inside_of 39 n rest (closes 39 false rest 0 n h)).ends
  where
    by_text : (text : List ℕ) (u : Bool) → 39 ∷ take n rest ≡ quoted_by 39 text → opens (λ b. b == 39) (drop n rest) ≡ false → Stands 39 rest (taken (cond u (Some (token_of k.Text text)) None) n rest)
    by_text text true h g = (h, g)
    by_text text false h g = tt

name_stands : (rest : List ℕ) (o : Option ℕ) → closing 34 false 0 rest ≡ o → Stands 34 rest (quoted_to rest o)
name_stands rest None h = tt
name_stands rest (Some n) h =
    let text : List ℕ = undouble 34 false (take (n - 1) rest) in
    by_text text (nat_le 1 (length text) && nat_le (length text) 255) (is_utf8 text) (inside_of 34 n rest (closes 34 false rest 0 n h)).front (inside_of 34 n rest (closes 34 false rest 0 n h)).ends
  where
    by_text : (text : List ℕ) (t u : Bool) → 34 ∷ take n rest ≡ quoted_by 34 text → opens (λ b. b == 34) (drop n rest) ≡ false → Stands 34 rest (taken (cond t (cond u (Some (token_of k.Quoted text)) None) None) n rest)
    by_text text true true h g = (h, g)
    by_text text true false h g = tt
    by_text text false u h g = tt

-- ---- bytes

take_quote : (n : ℕ) (more : List ℕ) → opens is_quote (drop n more) ≡ true → take (suc n) more ≡ take n more ++ 39 ∷ []
take_quote zero [] h = cc
take_quote zero (c ∷ more) h = ap (λ x. x ∷ []) (eqb-true c 39 h)
take_quote (suc n) [] h = cc
take_quote (suc n) (c ∷ more) h = ap (λ x. c ∷ x) (take_quote n more h)

bytes_stand : (b : ℕ) (rest : List ℕ) → is_bytes b rest ≡ true → Stands b rest (bytes_at rest)
bytes_stand b [] h = cc
bytes_stand b (quote ∷ more) h =
    let digits : List ℕ = take (hex_len more) more in
    let whole = and_parts ((b == 120 || b == 88) && quote == 39 && hex_len more % 2 == 0) (opens is_quote (drop (hex_len more) more)) h in
    let front = and_parts ((b == 120 || b == 88) && quote == 39) (hex_len more % 2 == 0) whole.0 in
    let marks = and_parts (b == 120 || b == 88) (quote == 39) front.0 in
    let size : hex_len more + 2 ≡ suc (suc (hex_len more)) = omega arith in
    let all : take (hex_len more + 2) (quote ∷ more) ≡ 39 ∷ (digits ++ 39 ∷ []) =
    ap (λ x. take x (quote ∷ more)) size ∙ ap (λ x. x ∷ take (suc (hex_len more)) more) (eqb-true quote 39 marks.1) ∙ ap (λ x. 39 ∷ x) (take_quote (hex_len more) more whole.1) in
    by_text digits (is_utf8 digits) (ap (λ x. b ∷ x) all) (b == 120) (b == 88) refl refl marks.0
  where
    by_text : (text : List ℕ) (u : Bool) → b ∷ take (hex_len more + 2) (quote ∷ more) ≡ b ∷ 39 ∷ (text ++ 39 ∷ []) → (x y : Bool) → b == 120 ≡ x → b == 88 ≡ y → (x || y) ≡ true
        → Stands b (quote ∷ more) (taken (cond u (Some (token_of k.Bytes text)) None) (hex_len more + 2) (quote ∷ more))
    by_text text false h x y e f g = tt
    by_text text true h true y e f g = inl (h ∙ ap (λ z. z ∷ 39 ∷ (text ++ 39 ∷ [])) (eqb-true b 120 e))
    by_text text true h false true e f g = inr (h ∙ ap (λ z. z ∷ 39 ∷ (text ++ 39 ∷ [])) (eqb-true b 88 f))
    by_text text true h false false e f g = cc

-- ---- other tokens

abbrev is_plain : Kind → Bool
is_plain k.Text = false
is_plain k.Quoted = false
is_plain k.Bytes = false
is_plain _ = true

plain_stands : (a : Kind) → is_plain a ≡ true → (text front behind : List ℕ) → StandsAs a text front behind
plain_stands = elim [ k.Text ↦ λ h. cc | k.Quoted ↦ λ h. cc | k.Bytes ↦ λ h. cc | _ ↦ λ h text front behind. tt ]

abbrev PlainIfAny : Option Token → Type 0
PlainIfAny None = Unit {0}
PlainIfAny (Some t) = is_plain t.kind ≡ true

taken_plain : (b : ℕ) (rest : List ℕ) (o : Option Token) (len : ℕ) → PlainIfAny o → Stands b rest (taken o len rest)
taken_plain b rest None len h = tt
taken_plain b rest (Some t) len h = plain_stands t.kind h t.text (b ∷ take len rest) (drop len rest)

made_plain : (a : Kind) (text : List ℕ) (u : Bool) → is_plain a ≡ true → PlainIfAny (cond u (Some (token_of a text)) None)
made_plain a text true h = h
made_plain a text false h = tt

lookup_plain : (es : List (List ℕ × Keyword)) (word : List ℕ) → is_plain (lookup es word) ≡ true
lookup_plain [] word = refl
lookup_plain (e ∷ es) word = one (str_eq_ignore_ascii_case e.0 word) (lookup_plain es word)
  where
    one : (t : Bool) → is_plain (lookup es word) ≡ true → is_plain (cond t (k.Keyword e.1) (lookup es word)) ≡ true
    one true g = refl
    one false g = g

keyword_plain : (word : List ℕ) → is_plain (keyword word) ≡ true
unfolding keyword
keyword_plain word = lookup_plain keywords word

word_stands : (b : ℕ) (rest : List ℕ) → Stands b rest (word_at b rest)
word_stands b rest =
    let text : List ℕ = b ∷ take (word_len rest) rest in
    taken_plain b rest (word_of text) (word_len rest) (by_length (nat_le (length text) 255) text)
  where
    by_length : (t : Bool) (text : List ℕ) → PlainIfAny (cond t (made (keyword text) text) None)
    by_length true text = made_plain (keyword text) text (is_utf8 text) (keyword_plain text)
    by_length false text = tt

number_stands : (b : ℕ) (rest : List ℕ) → Stands b rest (number_at b rest)
number_stands b rest =
    let text : List ℕ = b ∷ take (digits_len rest) rest in
    taken_plain b rest (made k.Number text) (digits_len rest) (made_plain k.Number text (is_utf8 text) refl)

sign_stands : (b : ℕ) (rest : List ℕ) (o : Option Sign) → Stands b rest (sign_to b rest o)
sign_stands b rest (Some a) = plain_stands (k.Sign a) refl [] (b ∷ take 1 rest) (drop 1 rest)
sign_stands b rest None = taken_plain b rest (option_map plain (sign_of b)) 0 (short (sign_of b))
  where
    short : (o : Option Sign) → PlainIfAny (option_map plain o)
    short None = tt
    short (Some a) = refl

-- ---- tokens

at_quote : (quote b : ℕ) (rest : List ℕ) (lexed : Lexed) → Stands quote rest lexed → b == quote ≡ true → Stands b rest lexed
at_quote quote b rest lexed h e = subst (λ (x : ℕ). Stands x rest lexed) (sym (eqb-true b quote e)) h

pub token_stands : (b : ℕ) (rest : List ℕ) → Stands b rest (token_at b rest)
token_stands b rest =
    one_of_six (is_bytes b rest) (is_letter b) (is_number b rest) (b == 39) (b == 34) (bytes_at rest) (word_at b rest) (number_at b rest) (text_at rest) (quoted_at rest) (sign_at b rest)
    (bytes_stand b rest) (word_stands b rest) (number_stands b rest) (at_quote 39 b rest (text_at rest) (text_stands rest (closing 39 false 0 rest) refl))
    (at_quote 34 b rest (quoted_at rest) (name_stands rest (closing 34 false 0 rest) refl)) (sign_stands b rest (long_sign b rest))
  where
    one_of_six : (p q r s t : Bool) (u v w x y z : Lexed) → (p ≡ true → Stands b rest u) → Stands b rest v → Stands b rest w → (s ≡ true → Stands b rest x) → (t ≡ true → Stands b rest y) → Stands b rest z
        → Stands b rest (cond p u (cond q v (cond r w (cond s x (cond t y z)))))
    one_of_six true q r s t u v w x y z hu hv hw hx hy hz = hu refl
    one_of_six false true r s t u v w x y z hu hv hw hx hy hz = hv
    one_of_six false false true s t u v w x y z hu hv hw hx hy hz = hw
    one_of_six false false false true t u v w x y z hu hv hw hx hy hz = hx refl
    one_of_six false false false false true u v w x y z hu hv hw hx hy hz = hy refl
    one_of_six false false false false false u v w x y z hu hv hw hx hy hz = hz
