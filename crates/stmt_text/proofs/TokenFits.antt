-- A line's names have 1 to 255 bytes.
use Rattle.std.proofs.Common.{◌≡◌, ℕ, zero, suc, ◌+◌, ◌-◌, Bool, true, false, cond, List, [], ◌∷◌, ◌++◌, length, take, drop, ◌==◌, ◌∙◌, refl, sym, arith, Option, Some, None}
use Rattle.std.specs.Prelude.{nat_le, option_map}
use Rattle.std.specs.Str.{is_utf8}
use Rattle.stmt_tokens.specs.Tokens.{bad, bytes_at, closing, is_blank, is_bytes, is_letter, is_number, keyword, long_sign, made, number_at, plain, quoted_at, quoted_of, quoted_to, sign_at, sign_of, sign_to, taken, text_at, text_to, token_at, tokens_in, tokens_of, undouble, word_at, word_of, hex_len, digits_len, word_len}
use Rattle.stmt_tokens.specs.declared.token.Kind.{Kind}
use Rattle.stmt_tokens.specs.declared.token.Kind.TheVariants as k
use Rattle.stmt_tokens.specs.declared.token.Sign.{Sign}
use Rattle.stmt_tokens.specs.declared.token.Token.{Token}
use Rattle.stmt_reader.specs.Rules as rules
use Rattle.stmt_text.specs.Printable.{is_name}
use Rattle.stmt_tokens.specs.Laws.{token_of}

-- what stands for a name is one
abbrev pub Fits : Token → Type 0
Fits t = rules.is_name t.kind ≡ true → is_name t.text ≡ true

abbrev pub AllFit : List Token → Type 0
AllFit [] = Unit {0}
AllFit (t ∷ ts) = Fits t × AllFit ts

pub fit_parts : (a b : List Token) → AllFit (a ++ b) → AllFit a × AllFit b
fit_parts [] b h = (tt, h)
fit_parts (t ∷ a) b h = let p = fit_parts a b h.1 in ((h.0, p.0), p.1)

abbrev FitsIfAny : Option Token → Type 0
FitsIfAny None = Unit {0}
FitsIfAny (Some t) = Fits t

bad_fits : Fits bad
bad_fits h = cc

taken_fits : (o : Option Token) (len : ℕ) (rest : List ℕ) → FitsIfAny o → Fits (taken o len rest).0
taken_fits None len rest h = bad_fits
taken_fits (Some t) len rest h = h

-- a token of another kind is no name
made_other : (a : Kind) (text : List ℕ) (u : Bool) → rules.is_name a ≡ false → FitsIfAny (cond u (Some (token_of a text)) None)
made_other a text true h = λ e. absurd (let no : false ≡ true = sym h ∙ e in cc no)
made_other a text false h = tt

made_name : (a : Kind) (text : List ℕ) (u : Bool) → is_name text ≡ true → FitsIfAny (cond u (Some (token_of a text)) None)
made_name a text true h = λ e. h
made_name a text false h = tt

word_fits : (b : ℕ) (more : List ℕ) (t : Bool) → nat_le (length (b ∷ more)) 255 ≡ t → FitsIfAny (cond t (made (keyword (b ∷ more)) (b ∷ more)) None)
word_fits b more true h =
    let one : nat_le 1 (length (b ∷ more)) ≡ true = grind arith in
    let is : is_name (b ∷ more) ≡ true = rw one h in
    made_name (keyword (b ∷ more)) (b ∷ more) (is_utf8 (b ∷ more)) is
word_fits b more false h = tt

quoted_fits : (text : List ℕ) (t : Bool) → is_name text ≡ t → FitsIfAny (cond t (made k.Quoted text) None)
quoted_fits text true h = made_name k.Quoted text (is_utf8 text) h
quoted_fits text false h = tt

text_to_fits : (rest : List ℕ) (o : Option ℕ) → Fits (text_to rest o).0
text_to_fits rest None = taken_fits None 0 rest tt
text_to_fits rest (Some n) = taken_fits (made k.Text (undouble 39 false (take (n - 1) rest))) n rest (made_other k.Text (undouble 39 false (take (n - 1) rest)) (is_utf8 (undouble 39 false (take (n - 1) rest))) refl)

quoted_to_fits : (rest : List ℕ) (o : Option ℕ) → Fits (quoted_to rest o).0
quoted_to_fits rest None = taken_fits None 0 rest tt
quoted_to_fits rest (Some n) = taken_fits (quoted_of (undouble 34 false (take (n - 1) rest))) n rest (quoted_fits (undouble 34 false (take (n - 1) rest)) (is_name (undouble 34 false (take (n - 1) rest))) refl)

-- ---- signs

plain_fits : (o : Option Sign) → FitsIfAny (option_map plain o)
plain_fits None = tt
plain_fits (Some a) = λ e. cc

sign_to_fits : (b : ℕ) (rest : List ℕ) (o : Option Sign) → Fits (sign_to b rest o).0
sign_to_fits b rest None = taken_fits (option_map plain (sign_of b)) 0 rest (plain_fits (sign_of b))
sign_to_fits b rest (Some a) = λ e. cc

-- ---- tokens

bytes_fit : (rest : List ℕ) → Fits (bytes_at rest).0
bytes_fit rest =
    let digits : List ℕ = take (hex_len (drop 1 rest)) (drop 1 rest) in
    taken_fits (made k.Bytes digits) (hex_len (drop 1 rest) + 2) rest (made_other k.Bytes digits (is_utf8 digits) refl)

number_fits : (b : ℕ) (rest : List ℕ) → Fits (number_at b rest).0
number_fits b rest =
    let text : List ℕ = b ∷ take (digits_len rest) rest in
    taken_fits (made k.Number text) (digits_len rest) rest (made_other k.Number text (is_utf8 text) refl)

word_at_fits : (b : ℕ) (rest : List ℕ) → Fits (word_at b rest).0
word_at_fits b rest =
    let more : List ℕ = take (word_len rest) rest in
    taken_fits (word_of (b ∷ more)) (word_len rest) rest (word_fits b more (nat_le (length (b ∷ more)) 255) refl)

token_fits : (b : ℕ) (rest : List ℕ) → Fits (token_at b rest).0
token_fits b rest =
    one_of_six (is_bytes b rest) (is_letter b) (is_number b rest) (b == 39) (b == 34) (bytes_at rest) (word_at b rest) (number_at b rest) (text_at rest) (quoted_at rest) (sign_at b rest)
    (bytes_fit rest) (word_at_fits b rest) (number_fits b rest) (text_to_fits rest (closing 39 false 0 rest)) (quoted_to_fits rest (closing 34 false 0 rest)) (sign_to_fits b rest (long_sign b rest))
  where
    one_of_six : (a b c d e : Bool) (u v w x y z : Token × ℕ) → Fits u.0 → Fits v.0 → Fits w.0 → Fits x.0 → Fits y.0 → Fits z.0 → Fits (cond a u (cond b v (cond c w (cond d x (cond e y z))))).0
    one_of_six true b c d e u v w x y z fu fv fw fx fy fz = fu
    one_of_six false true c d e u v w x y z fu fv fw fx fy fz = fv
    one_of_six false false true d e u v w x y z fu fv fw fx fy fz = fw
    one_of_six false false false true e u v w x y z fu fv fw fx fy fz = fx
    one_of_six false false false false true u v w x y z fu fv fw fx fy fz = fy
    one_of_six false false false false false u v w x y z fu fv fw fx fy fz = fz

tokens_fit_in : (most : ℕ) (bytes : List ℕ) → AllFit (tokens_in most bytes)
tokens_fit_in zero bytes = tt
tokens_fit_in (suc most) [] = tt
tokens_fit_in (suc most) (b ∷ rest) = one (is_blank b) (tokens_fit_in most rest) (tokens_fit_in most (drop (token_at b rest).1 rest))
  where
    one : (t : Bool) → AllFit (tokens_in most rest) → AllFit (tokens_in most (drop (token_at b rest).1 rest)) → AllFit (cond t (tokens_in most rest) ((token_at b rest).0 ∷ tokens_in most (drop (token_at b rest).1 rest)))
    one true h g = h
    one false h g = (token_fits b rest, g)

pub tokens_fit : (line : List ℕ) → AllFit (tokens_of line)
tokens_fit line = tokens_fit_in (length line) line
