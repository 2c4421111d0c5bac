-- What holds of lines.
use Rattle.std.specs.Prelude.{ℕ, ◌≡◌, ◌≢◌, List, Result, Err}
use Rattle.lake_types.specs.declared.stmt.Stmt.{Stmt}
use Rattle.stmt_reader.specs.declared.line.LineNo.{LineNo}
use Rattle.stmt_reader.specs.declared.line.LineNo.TheVariants.{Memory}
use Rattle.stmt_reader.specs.Lines.{IsFaultAt, LineAnswers, Says, answer_of, session_at}

-- a line says one thing at most
abbrev pub SaysOneThing : Type 0
SaysOneThing = (line : List ℕ) (a b : ℕ × Stmt) → Says line a → Says line b → a ≡ b

-- a line that says something has no fault
abbrev pub SaysOrFails : Type 0
SaysOrFails = (line : List ℕ) (said : ℕ × Stmt) (at : ℕ) → Says line said → IsFaultAt line at → ⊥

-- a line has one fault at most
abbrev pub HasOnePlace : Type 0
HasOnePlace = (line : List ℕ) (a b : ℕ) → IsFaultAt line a → IsFaultAt line b → a ≡ b

-- a line's answer is one: what it says, that it is too long, or its one fault
abbrev pub HasAnAnswer : Type 0
HasAnAnswer = (line : List ℕ) → LineAnswers line (answer_of line) × (answer_of line ≢ Err Memory)

-- and there is no other
abbrev pub HasOneAnswer : Type 0
HasOneAnswer = (line : List ℕ) (answer : Result (ℕ × Stmt) LineNo) → LineAnswers line answer → answer ≢ Err Memory → answer ≡ answer_of line

-- the session that a line says is the line's session
abbrev pub SaysItsSession : Type 0
SaysItsSession = (line : List ℕ) (said : ℕ × Stmt) → Says line said → said.0 ≡ session_at line
