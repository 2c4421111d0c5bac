-- The place of a fault: the first token that no line can have there.
use Rattle.std.specs.Prelude.{ℕ, ◌+◌, ◌-◌, ◌≤◌, ◌<◌, ◌≡◌, List, [], ◌∷◌, ◌++◌, length, take, Result, Ok, Err}
use Rattle.stmt_tokens.specs.declared.token.Token.{Token}
use Rattle.stmt_grammar.specs.Written.{AllWritten}
use Rattle.stmt_grammar.specs.Grammar.{Grammar, Spells, Read}

-- with tokens that a line can have behind them, these tokens are spelled
abbrev pub Begins : {A : Type 0} → Grammar A → List Token → Type 0
Begins {A} g ts = (more : List Token) × AllWritten more × (x : A) × Spells g (ts ++ more) x

-- n counts the tokens before the wrong one; it counts all where more must follow
pub record IsWrongAt {A : Type 0} (g : Grammar A) (ts : List Token) (n : ℕ) : Type 0 where
  pub within : n ≤ length ts
  pub before : Begins g (take n ts)
  pub wrong : n < length ts → (more : List Token) (x : A) → Spells g (take (n + 1) ts ++ more) x → ⊥
  pub short : n ≡ length ts → (x : A) → Spells g ts x → ⊥

-- what a whole line gives: its value, or how many tokens stand before the wrong one
abbrev pub at_end : {A : Type 0} → List Token → A → List Token → Result A ℕ
at_end ts x [] = Ok x
at_end ts x (t ∷ rest) = Err (length ts - length (t ∷ rest))

abbrev pub ended : {A : Type 0} → List Token → Read A → Result A ℕ
ended ts (Ok r) = at_end ts r.0 r.1
ended ts (Err rest) = Err (length ts - length rest)

abbrev pub IsOutcome : {A : Type 0} → Grammar A → List Token → Result A ℕ → Type 0
IsOutcome g ts (Ok x) = Spells g ts x
IsOutcome g ts (Err n) = IsWrongAt g ts n
