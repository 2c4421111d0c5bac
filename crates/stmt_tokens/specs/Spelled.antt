-- How tokens are spelled in a line: one behind the other, with a blank behind each.
use Rattle.std.specs.Prelude.{ℕ, ◌≡◌, false, List, [], ◌∷◌, ◌++◌, length}
use Rattle.lake_types.specs.Texts.{quoted_by}
use Rattle.stmt_tokens.specs.declared.token.Keyword.{Keyword}
use Rattle.stmt_tokens.specs.declared.token.Kind.{Kind}
use Rattle.stmt_tokens.specs.declared.token.Kind.TheVariants as k
use Rattle.stmt_tokens.specs.declared.token.Sign.{Sign}
use Rattle.stmt_tokens.specs.declared.token.Sign.TheVariants as signs
use Rattle.stmt_tokens.specs.declared.token.Token.{Token}
use Rattle.stmt_tokens.specs.Tokens.{is_blank, the_word, token_at}

abbrev pub sign_text : Sign → List ℕ
sign_text signs.LeftParen = 40 ∷ []
sign_text signs.RightParen = 41 ∷ []
sign_text signs.Comma = 44 ∷ []
sign_text signs.Dot = 46 ∷ []
sign_text signs.Semicolon = 59 ∷ []
sign_text signs.Star = 42 ∷ []
sign_text signs.Eq = 61 ∷ []
sign_text signs.Ne = 60 ∷ 62 ∷ []
sign_text signs.Lt = 60 ∷ []
sign_text signs.Le = 60 ∷ 61 ∷ []
sign_text signs.Gt = 62 ∷ []
sign_text signs.Ge = 62 ∷ 61 ∷ []
sign_text signs.Arrow = 61 ∷ 62 ∷ []

-- a word and a number stand as they are
abbrev pub spelling_of : Kind → List ℕ → List ℕ
spelling_of k.Quoted text = quoted_by 34 text
spelling_of k.Text text = quoted_by 39 text
spelling_of k.Bytes text = 120 ∷ 39 ∷ (text ++ 39 ∷ [])
spelling_of (k.Sign sign) text = sign_text sign
spelling_of a text = text

abbrev pub spelling : Token → List ℕ
spelling t = spelling_of t.kind t.text

abbrev pub spelled : List Token → List ℕ
spelled [] = []
spelled (t ∷ ts) = spelling t ++ 32 ∷ spelled ts

-- where a blank is behind its spelling, a token is cut off again
abbrev pub IsCutAt : Token → List ℕ → Type 0
IsCutAt t [] = ⊥
IsCutAt t (b ∷ rest) = (is_blank b ≡ false) × ((more : List ℕ) → token_at b (rest ++ 32 ∷ more) ≡ (t, length rest))

abbrev pub IsCut : Token → Type 0
IsCut t = IsCutAt t (spelling t)

abbrev pub AllCut : List Token → Type 0
AllCut [] = Unit {0}
AllCut (t ∷ ts) = IsCut t × AllCut ts

-- the text of a keyword as it is printed; a sign has none
abbrev pub fixed_text : Kind → List ℕ
fixed_text (k.Keyword a) = the_word a
fixed_text _ = []

-- the token of a keyword as it is printed, or of a sign
abbrev pub fixed : Kind → Token
fixed a = record { kind = a; text = fixed_text a }

abbrev pub word : Keyword → Token
word a = fixed (k.Keyword a)

abbrev pub mark : Sign → Token
mark a = fixed (k.Sign a)
