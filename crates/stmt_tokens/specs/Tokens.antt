-- The tokens of a line, each with the offset of its first byte. Between them stand any blanks, and a token runs as far
-- as it can. Where the bytes are no token, the rest of the line is one bad token.
use Rattle.std.specs.Prelude.{ℕ, ◌+◌, ◌-◌, ◌%◌, ◌==◌, ◌||◌, ◌&&◌, nat_le, Bool, true, false, not, List, [], ◌∷◌, zero, suc, length, take_while, drop, take, ◌++◌, ◌≡◌, if◌then◌else◌, Option, Some, None, option_map, codes}
use Rattle.std.specs.Str.{is_utf8, str_eq_ignore_ascii_case}
use denote.Enum.Bare.{sameb}
use Rattle.lake_types.specs.declared.limits.TheConstants.{MAX_NAME_BYTES}
use Rattle.stmt_tokens.specs.contracts.token.Keyword.{the_type}
use Rattle.stmt_tokens.specs.declared.token.Keyword.{Keyword}
use Rattle.stmt_tokens.specs.declared.token.Keyword.TheVariants as words
use Rattle.stmt_tokens.specs.declared.token.Kind.{Kind}
use Rattle.stmt_tokens.specs.declared.token.Kind.TheVariants as k
use Rattle.stmt_tokens.specs.declared.token.Sign.{Sign}
use Rattle.stmt_tokens.specs.declared.token.Sign.TheVariants as signs
use Rattle.stmt_tokens.specs.declared.token.Token.{Token}
use Rattle.stmt_tokens.specs.declared.cut.Cut.{Cut}

-- ---- bytes

abbrev pub is_blank : ℕ → Bool
is_blank b = b == 32 || b == 9

abbrev pub is_digit : ℕ → Bool
is_digit b = nat_le 48 b && nat_le b 57

-- A to Z, a to z and _
abbrev pub is_letter : ℕ → Bool
is_letter b = (nat_le 65 b && nat_le b 90) || (nat_le 97 b && nat_le b 122) || b == 95

abbrev pub is_word_byte : ℕ → Bool
is_word_byte b = is_letter b || is_digit b

abbrev pub is_hex : ℕ → Bool
is_hex b = is_digit b || (nat_le 65 b && nat_le b 70) || (nat_le 97 b && nat_le b 102)

abbrev pub is_quote : ℕ → Bool
is_quote b = b == 39

-- whether the first byte is one of these
abbrev pub opens : (ℕ → Bool) → List ℕ → Bool
opens is [] = false
opens is (b ∷ rest) = is b

-- how many bytes at the front go on a word, a number, and hexadecimal digits
abbrev pub word_len : List ℕ → ℕ
word_len rest = length (take_while is_word_byte rest)

abbrev pub digits_len : List ℕ → ℕ
digits_len rest = length (take_while is_digit rest)

abbrev pub hex_len : List ℕ → ℕ
hex_len rest = length (take_while is_hex rest)

-- ---- quotes

-- how many bytes there are to behind the closing quote, with n so far; a doubled quote is an inner one
abbrev pub closing : ℕ → Bool → ℕ → List ℕ → Option ℕ
closing quote false n [] = None
closing quote true n [] = Some n
closing quote false n (b ∷ rest) = closing quote (b == quote) (n + 1) rest
closing quote true n (b ∷ rest) = if b == quote then closing quote false (n + 1) rest else Some n

-- each doubled quote once
abbrev pub undouble : ℕ → Bool → List ℕ → List ℕ
undouble quote second [] = []
undouble quote true (b ∷ rest) = undouble quote false rest
undouble quote false (b ∷ rest) = b ∷ undouble quote (b == quote) rest

-- ---- words

abbrev pub lookup : List (List ℕ × Keyword) → List ℕ → Kind
lookup [] word = k.Word
lookup (e ∷ es) word = if str_eq_ignore_ascii_case e.0 word then k.Keyword e.1 else lookup es word

abbrev pub keywords : List (List ℕ × Keyword)
keywords =
    (codes "AND", words.And) ∷
    (codes "DEFAULT", words.Default) ∷
    (codes "FALSE", words.False) ∷
    (codes "FROM", words.From) ∷
    (codes "IS", words.Is) ∷
    (codes "NOT", words.Not) ∷
    (codes "NULL", words.Null) ∷
    (codes "OR", words.Or) ∷
    (codes "ROWID", words.RowId) ∷
    (codes "SELECT", words.Select) ∷
    (codes "SET", words.Set) ∷
    (codes "TABLE", words.Table) ∷
    (codes "TO", words.To) ∷
    (codes "TRUE", words.True) ∷
    (codes "VALUES", words.Values) ∷
    (codes "WHERE", words.Where) ∷
    (codes "ADD", words.Add) ∷
    (codes "ALTER", words.Alter) ∷
    (codes "AT", words.At) ∷
    (codes "BEGIN", words.Begin) ∷
    (codes "BIGINT", words.BigInt) ∷
    (codes "BLOB", words.Blob) ∷
    (codes "BOOLEAN", words.Boolean) ∷
    (codes "CLEAN", words.Clean) ∷
    (codes "COLUMN", words.Column) ∷
    (codes "COMMIT", words.Commit) ∷
    (codes "COMPACT", words.Compact) ∷
    (codes "CREATE", words.Create) ∷
    (codes "DATA", words.Data) ∷
    (codes "DATE", words.Date) ∷
    (codes "DELETE", words.Delete) ∷
    (codes "DROP", words.Drop) ∷
    (codes "EXPIRE", words.Expire) ∷
    (codes "FLUSH", words.Flush) ∷
    (codes "INSERT", words.Insert) ∷
    (codes "INTEGER", words.Integer) ∷
    (codes "INTO", words.Into) ∷
    (codes "RENAME", words.Rename) ∷
    (codes "ROLLBACK", words.Rollback) ∷
    (codes "SCHEMA", words.Schema) ∷
    (codes "SMALLINT", words.SmallInt) ∷
    (codes "SNAPSHOTS", words.Snapshots) ∷
    (codes "TINYINT", words.TinyInt) ∷
    (codes "TYPE", words.Type) ∷
    (codes "UPDATE", words.Update) ∷
    (codes "VARCHAR", words.Varchar) ∷
    (codes "VERSION", words.Version) ∷
    []

-- what a word is: the keyword that it is without regard to case, or a plain word
unfoldable pub keyword : List ℕ → Kind
keyword = lookup keywords

abbrev pub is_same : Keyword → Keyword → Bool
is_same a b = sameb the_type a b

abbrev pub word_in : List (List ℕ × Keyword) → Keyword → List ℕ
word_in [] a = []
word_in (e ∷ es) a = if is_same a e.1 then e.0 else word_in es a

-- a keyword as it is printed
abbrev pub the_word : Keyword → List ℕ
the_word = word_in keywords

-- ---- a token and how many bytes of the rest it takes, behind its first byte

abbrev pub Lexed : Type 0
Lexed = Token × ℕ

abbrev pub bad : Token
bad = record { kind = k.Bad; text = [] }

-- a token's text is UTF-8
abbrev pub made : Kind → List ℕ → Option Token
made kind text = if is_utf8 text then Some (record { kind = kind; text = text }) else None

abbrev pub taken : Option Token → ℕ → List ℕ → Lexed
taken (Some token) len rest = (token, len)
taken None len rest = (bad, length rest)

-- a word has at most 255 bytes
abbrev pub word_of : List ℕ → Option Token
word_of text = if nat_le (length text) MAX_NAME_BYTES then made (keyword text) text else None

abbrev pub word_at : ℕ → List ℕ → Lexed
word_at b rest = taken (word_of (b ∷ take (word_len rest) rest)) (word_len rest) rest

-- digits, or a minus directly followed by digits
abbrev pub is_number : ℕ → List ℕ → Bool
is_number b rest = is_digit b || (b == 45 && opens is_digit rest)

abbrev pub number_at : ℕ → List ℕ → Lexed
number_at b rest = taken (made k.Number (b ∷ take (digits_len rest) rest)) (digits_len rest) rest

-- behind x or X a quote, an even number of hexadecimal digits, and a quote
abbrev pub is_bytes : ℕ → List ℕ → Bool
is_bytes b [] = false
is_bytes b (quote ∷ rest) =
    (b == 120 || b == 88) && quote == 39 && hex_len rest % 2 == 0 && opens is_quote (drop (hex_len rest) rest)

abbrev pub bytes_at : List ℕ → Lexed
bytes_at rest = taken (made k.Bytes (take (hex_len (drop 1 rest)) (drop 1 rest))) (hex_len (drop 1 rest) + 2) rest

abbrev pub text_to : List ℕ → Option ℕ → Lexed
text_to rest None = taken None 0 rest
text_to rest (Some n) = taken (made k.Text (undouble 39 false (take (n - 1) rest))) n rest

abbrev pub text_at : List ℕ → Lexed
text_at rest = text_to rest (closing 39 false 0 rest)

-- a quoted name has 1 to 255 bytes
abbrev pub quoted_of : List ℕ → Option Token
quoted_of text = if nat_le 1 (length text) && nat_le (length text) MAX_NAME_BYTES then made k.Quoted text else None

abbrev pub quoted_to : List ℕ → Option ℕ → Lexed
quoted_to rest None = taken None 0 rest
quoted_to rest (Some n) = taken (quoted_of (undouble 34 false (take (n - 1) rest))) n rest

abbrev pub quoted_at : List ℕ → Lexed
quoted_at rest = quoted_to rest (closing 34 false 0 rest)

-- ( ) , . ; * = < >
abbrev pub sign_of : ℕ → Option Sign
sign_of b =
    if b == 40 then Some signs.LeftParen
    else (if b == 41 then Some signs.RightParen
    else (if b == 44 then Some signs.Comma
    else (if b == 46 then Some signs.Dot
    else (if b == 59 then Some signs.Semicolon
    else (if b == 42 then Some signs.Star
    else (if b == 61 then Some signs.Eq
    else (if b == 60 then Some signs.Lt
    else (if b == 62 then Some signs.Gt else None))))))))

-- <> != <= >= =>
abbrev pub long_sign_of : ℕ → ℕ → Option Sign
long_sign_of b c =
    if b == 60 && c == 62 then Some signs.Ne
    else (if b == 33 && c == 61 then Some signs.Ne
    else (if b == 60 && c == 61 then Some signs.Le
    else (if b == 62 && c == 61 then Some signs.Ge
    else (if b == 61 && c == 62 then Some signs.Arrow else None))))

abbrev pub long_sign : ℕ → List ℕ → Option Sign
long_sign b [] = None
long_sign b (c ∷ rest) = long_sign_of b c

abbrev pub plain : Sign → Token
plain a = record { kind = k.Sign a; text = [] }

abbrev pub short_sign_at : ℕ → List ℕ → Lexed
short_sign_at b rest = taken (option_map plain (sign_of b)) 0 rest

abbrev pub sign_to : ℕ → List ℕ → Option Sign → Lexed
sign_to b rest (Some a) = (plain a, 1)
sign_to b rest None = short_sign_at b rest

abbrev pub sign_at : ℕ → List ℕ → Lexed
sign_at b rest = sign_to b rest (long_sign b rest)

-- the token that begins with b
abbrev pub token_at : ℕ → List ℕ → Lexed
token_at b rest =
    if is_bytes b rest then bytes_at rest
    else (if is_letter b then word_at b rest
    else (if is_number b rest then number_at b rest
    else (if b == 39 then text_at rest
    else (if b == 34 then quoted_at rest
    else sign_at b rest))))

-- ---- a line

-- the tokens of so many bytes at most; each takes one byte or more
abbrev pub tokens_in : ℕ → List ℕ → List Token
tokens_in zero bytes = []
tokens_in (suc most) [] = []
tokens_in (suc most) (b ∷ rest) =
    if is_blank b then tokens_in most rest else (token_at b rest).0 ∷ tokens_in most (drop (token_at b rest).1 rest)

-- the offsets of their first bytes, in a line of len bytes
abbrev pub places_in : ℕ → ℕ → List ℕ → List ℕ
places_in len zero bytes = []
places_in len (suc most) [] = []
places_in len (suc most) (b ∷ rest) =
    if is_blank b then places_in len most rest
    else (len - length (b ∷ rest)) ∷ places_in len most (drop (token_at b rest).1 rest)

abbrev pub cut_in : ℕ → ℕ → List ℕ → Cut
cut_in len most bytes = record { tokens = tokens_in most bytes; places = places_in len most bytes }

-- the tokens of a line and their offsets
unfoldable pub cut_of : List ℕ → Cut
cut_of line = cut_in (length line) (length line) line

abbrev pub tokens_of : List ℕ → List Token
tokens_of line = tokens_in (length line) line

abbrev pub places_of : List ℕ → List ℕ
places_of line = places_in (length line) (length line) line

-- ---- what is put together

infixl 20 ◌then◌
abbrev pub ◌then◌ : Cut → Cut → Cut
a then b = record { tokens = a.tokens ++ b.tokens; places = a.places ++ b.places }

-- one byte of blanks fewer is to come, or one token
abbrev pub GoesOn : ℕ → Cut → List ℕ → Cut → List ℕ → Type 0
GoesOn len old bytes new more =
    (most : ℕ) → (old then cut_in len (suc most) bytes) ≡ (new then cut_in len most more)

abbrev pub first_of : List Token → Option Token
first_of [] = None
first_of (t ∷ rest) = Some t

-- ---- the first token

-- the text of a token that is a number
abbrev pub number_text : Kind → List ℕ → Option (List ℕ)
number_text k.Number text = Some text
number_text _ text = None

abbrev pub number_in : Option Token → Option (List ℕ)
number_in None = None
number_in (Some t) = number_text t.kind t.text

-- whether the token that begins with b is a number
unfoldable pub begins_number : ℕ → List ℕ → Bool
begins_number b rest = not (is_bytes b rest) && not (is_letter b) && is_number b rest

-- of the token that begins with b
unfoldable pub number_at_front : ℕ → List ℕ → Option (List ℕ)
number_at_front b rest = number_in (Some (token_at b rest).0)

-- of a line's first token
abbrev pub number_first : List ℕ → Option (List ℕ)
number_first line = number_in (first_of (tokens_of line))
