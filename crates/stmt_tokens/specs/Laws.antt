-- What holds of tokens that are spelled.
use Rattle.std.specs.Prelude.{ℕ, ◌≡◌, ◌&&◌, ◌==◌, ◌%◌, nat_le, true, false, ◌⊎◌, List, [], ◌∷◌, ◌++◌, length, take, drop}
use Rattle.std.specs.List.{list_all}
use Rattle.std.specs.Str.{is_utf8}
use Rattle.lake_types.specs.declared.limits.TheConstants.{MAX_NAME_BYTES}
use Rattle.lake_types.specs.Texts.{quoted_by}
use Rattle.stmt_tokens.specs.Tokens.{Lexed, is_digit, is_hex, is_quote, opens, token_at, tokens_of}
use Rattle.stmt_tokens.specs.declared.token.Keyword.{Keyword}
use Rattle.stmt_tokens.specs.declared.token.Kind.{Kind}
use Rattle.stmt_tokens.specs.declared.token.Kind.TheVariants as k
use Rattle.stmt_tokens.specs.declared.token.Sign.{Sign}
use Rattle.stmt_tokens.specs.declared.token.Token.{Token}
use Rattle.stmt_tokens.specs.Spelled.{AllCut, IsCut, mark, spelled, word}

abbrev pub token_of : Kind → List ℕ → Token
token_of a text = record { kind = a; text = text }

-- tokens of which each is cut off before a blank are the tokens of the line that spells them
abbrev pub AreCutAgain : Type 0
AreCutAgain = (tokens : List Token) → AllCut tokens → tokens_of (spelled tokens) ≡ tokens

abbrev pub KeywordsAreCut : Type 0
KeywordsAreCut = (keyword : Keyword) → IsCut (word keyword)

abbrev pub SignsAreCut : Type 0
SignsAreCut = (sign : Sign) → IsCut (mark sign)

abbrev pub NamesAreCut : Type 0
NamesAreCut = (name : List ℕ) → is_utf8 name ≡ true → (nat_le 1 (length name) && nat_le (length name) MAX_NAME_BYTES) ≡ true → IsCut (token_of k.Quoted name)

abbrev pub TextsAreCut : Type 0
TextsAreCut = (text : List ℕ) → is_utf8 text ≡ true → IsCut (token_of k.Text text)

abbrev pub BytesAreCut : Type 0
BytesAreCut = (digits : List ℕ) → list_all is_hex digits ≡ true → (length digits % 2 == 0) ≡ true → is_utf8 digits ≡ true → IsCut (token_of k.Bytes digits)

abbrev pub NumbersAreCut : Type 0
NumbersAreCut = (first : ℕ) (digits : List ℕ) → is_digit first ≡ true → list_all is_digit digits ≡ true → is_utf8 (first ∷ digits) ≡ true
    → IsCut (token_of k.Number (first ∷ digits))

abbrev pub NegativesAreCut : Type 0
NegativesAreCut = (first : ℕ) (digits : List ℕ) → is_digit first ≡ true → list_all is_digit digits ≡ true → is_utf8 (45 ∷ first ∷ digits) ≡ true
    → IsCut (token_of k.Number (45 ∷ first ∷ digits))

-- ---- what is cut off is spelled

-- the bytes of a text or a quoted name are its spelling, which no quote follows, and those of bytes are theirs, with x or X
abbrev pub StandsAs : Kind → List ℕ → List ℕ → List ℕ → Type 0
StandsAs k.Text text front behind = (front ≡ quoted_by 39 text) × (opens is_quote behind ≡ false)
StandsAs k.Quoted text front behind = (front ≡ quoted_by 34 text) × (opens (λ b. b == 34) behind ≡ false)
StandsAs k.Bytes text front behind = (front ≡ 120 ∷ 39 ∷ (text ++ 39 ∷ [])) ⊎ (front ≡ 88 ∷ 39 ∷ (text ++ 39 ∷ []))
StandsAs _ text front behind = Unit {0}

-- this token stands before the rest, of which it takes so many bytes
abbrev pub Stands : ℕ → List ℕ → Lexed → Type 0
Stands b rest lexed = StandsAs lexed.0.kind lexed.0.text (b ∷ take lexed.1 rest) (drop lexed.1 rest)

-- what is cut off as a text, a quoted name or bytes is spelled so in the line
abbrev pub QuotedTokensStand : Type 0
QuotedTokensStand = (b : ℕ) (rest : List ℕ) → Stands b rest (token_at b rest)
