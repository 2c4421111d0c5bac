-- What a line says, and where it fails to be one.
use Rattle.std.specs.Prelude.{ℕ, ◌≤◌, ◌<◌, ◌≡◌, nat_lt, List, length, slice_index_or, Option, Some, None, Result, Ok, Err, if◌then◌else◌}
use Rattle.lake_types.specs.declared.limits.TheConstants.{MAX_LINE_BYTES}
use Rattle.lake_types.specs.declared.stmt.Stmt.{Stmt}
use Rattle.stmt_tokens.specs.declared.token.Token.{Token}
use Rattle.stmt_tokens.specs.Tokens.{tokens_of, places_of, number_first}
use Rattle.stmt_grammar.specs.Grammar.{Spells, read}
use Rattle.stmt_grammar.specs.Places.{IsWrongAt, ended}
use Rattle.stmt_reader.specs.declared.line.Fault.{Fault}
use Rattle.stmt_reader.specs.declared.line.Fault.TheVariants.{WrongAt, NoMemory}
use Rattle.stmt_reader.specs.declared.line.LineNo.{LineNo}
use Rattle.stmt_reader.specs.declared.line.LineNo.TheVariants.{TooLong, Syntax, Memory}
use Rattle.stmt_reader.specs.Rules as rules
use Rattle.stmt_reader.specs.Values.{session_of}

-- the session and the statement that a line spells
abbrev pub Says : List ℕ → ℕ × Stmt → Type 0
Says line said = Spells rules.line (tokens_of line) said

-- ---- faults

abbrev pub or_zero : Option ℕ → ℕ
or_zero None = 0
or_zero (Some n) = n

-- the session that a number's text names
abbrev pub session_named : Option (List ℕ) → ℕ
session_named None = 0
session_named (Some text) = or_zero (session_of text)

-- the first token's session, or 0 where it is none
abbrev pub session_at : List ℕ → ℕ
session_at line = session_named (number_first line)

-- the offset of a token, or the line's length behind the last one
abbrev pub place : List ℕ → ℕ → ℕ
place line n = slice_index_or (places_of line) n (length line)

-- the offset of the first token with which no line goes on; the line's length where more must follow
abbrev pub IsFaultAt : List ℕ → ℕ → Type 0
IsFaultAt line at = (n : ℕ) × IsWrongAt rules.line (tokens_of line) n × (at ≡ place line n)

-- what is answered of a line
abbrev pub LineAnswers : List ℕ → Result (ℕ × Stmt) LineNo → Type 0
LineAnswers line (Ok said) = (length line ≤ MAX_LINE_BYTES) × Says line said
LineAnswers line (Err (TooLong session)) = (MAX_LINE_BYTES < length line) × (session ≡ session_at line)
LineAnswers line (Err (Syntax session at)) = (length line ≤ MAX_LINE_BYTES) × (session ≡ session_at line) × IsFaultAt line at
LineAnswers line (Err Memory) = Unit {0}

-- ---- the answer as a function

-- what is answered where the tokens say something, or so many stand before the wrong one
abbrev pub answer_in : List ℕ → Result (ℕ × Stmt) ℕ → Result (ℕ × Stmt) LineNo
answer_in line (Ok said) = Ok said
answer_in line (Err n) = Err (Syntax (session_at line) (place line n))

-- the answer of a line
unfoldable pub answer_of : List ℕ → Result (ℕ × Stmt) LineNo
answer_of line =
    if nat_lt MAX_LINE_BYTES (length line) then Err (TooLong (session_at line))
    else answer_in line (ended (tokens_of line) (read rules.line (tokens_of line)))

-- this is the line's answer, or want of memory
abbrev pub IsAnswer : List ℕ → Result (ℕ × Stmt) LineNo → Type 0
IsAnswer line (Err Memory) = Unit {0}
IsAnswer line answer = answer ≡ answer_of line

-- ---- tokens

-- a whole line's answer is this one, but for want of memory
abbrev pub Gives : Result (ℕ × Stmt) ℕ → Result (ℕ × Stmt) Fault → Type 0
Gives found (Ok x) = found ≡ Ok x
Gives found (Err (WrongAt n)) = found ≡ Err n
Gives found (Err NoMemory) = Unit {0}

abbrev pub TokensAnswer : List Token → Result (ℕ × Stmt) Fault → Type 0
TokensAnswer ts (Ok said) = Spells rules.line ts said
TokensAnswer ts (Err (WrongAt n)) = IsWrongAt rules.line ts n
TokensAnswer ts (Err NoMemory) = Unit {0}

abbrev pub located : List ℕ → List ℕ → Fault → LineNo
located line places (WrongAt n) = Syntax (session_at line) (slice_index_or places n (length line))
located line places NoMemory = Memory
