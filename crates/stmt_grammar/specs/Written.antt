-- Tokens that a line can have.
use Rattle.std.specs.Prelude.{ℕ, ◌≡◌, List, [], ◌∷◌}
use Rattle.stmt_tokens.specs.declared.token.Token.{Token}
use Rattle.stmt_tokens.specs.Tokens.{tokens_of}

-- some line is this token alone
abbrev pub IsWritten : Token → Type 0
IsWritten t = (line : List ℕ) × (tokens_of line ≡ t ∷ [])

abbrev pub AllWritten : List Token → Type 0
AllWritten [] = Unit {0}
AllWritten (t ∷ ts) = IsWritten t × AllWritten ts
