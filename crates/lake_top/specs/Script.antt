-- The counted lines of a script.
use Rattle.std.specs.Prelude.{ℕ, ◌+◌, ◌-◌, ◌==◌, ◌||◌, Bool, List, [], ◌∷◌, ◌++◌, length, replicate, slice_index, slice_set, take, Result, Ok, Err, if◌then◌else◌}
use Rattle.std.specs.List.{list_all}
use Rattle.lake_types.specs.declared.limits.TheConstants.{MAX_SCRIPT_BYTES}
use Rattle.lake_types.specs.declared.stmt.Stmt.{Stmt}
use Rattle.lake_model.specs.Replay.{IsTooLong, IsUnbuilt, IsWrongAt, Line, Saying, ended_lines}
use Rattle.stmt_reader.specs.Lines.{answer_of, session_at}
use Rattle.stmt_reader.specs.declared.line.LineNo.{LineNo}
use Rattle.stmt_reader.specs.declared.line.LineNo.TheVariants as line_no
use Rattle.lake_top.specs.Sixteen.{saying_of}

-- ---- one line

-- without a carriage return at its end
abbrev pub shorn : List ℕ → List ℕ
shorn line = if slice_index line (length line - 1) == 13 then take (length line - 1) line else line

abbrev pub is_blank : ℕ → Bool
is_blank b = b == 32 || b == 9

-- an empty line, one of blanks alone, and one that begins with a number sign are skipped
abbrev pub is_skipped : List ℕ → Bool
is_skipped line = slice_index line 0 == 35 || list_all is_blank line

-- what an answer of reading a line makes of it; no line's answer is want of memory
abbrev pub saying_in : Result (ℕ × Stmt) LineNo → Saying
saying_in (Ok said) = saying_of said.1
saying_in (Err (line_no.TooLong session)) = IsTooLong
saying_in (Err (line_no.Syntax session at)) = IsWrongAt at
saying_in (Err line_no.Memory) = IsUnbuilt

abbrev pub numbered : ℕ → List ℕ → Line
numbered number line = record { session = session_at line; number = number; saying = saying_in (answer_of line) }

-- ---- lines in order

-- a line is numbered within its session; counts has how many lines each session had before
abbrev pub line_at : List ℕ → List ℕ → Line
line_at counts line = numbered (slice_index counts (session_at line) + 1) line

abbrev pub counts_after : List ℕ → List ℕ → List ℕ
counts_after counts line = slice_set counts (session_at line) (slice_index counts (session_at line) + 1)

-- skipped lines are not counted
abbrev pub counted : List ℕ → List (List ℕ) → List Line
counted counts [] = []
counted counts (line ∷ lines) =
    if is_skipped (shorn line) then counted counts lines else line_at counts (shorn line) ∷ counted (counts_after counts (shorn line)) lines

-- the counted lines that a line feed ends
abbrev pub lines_from : List ℕ → List ℕ → List Line
lines_from counts bytes = counted counts (ended_lines bytes)

-- ---- a script

-- sessions 1 to 16, and 0 for lines of no session
abbrev pub no_counts : List ℕ
no_counts = replicate 17 0

abbrev pub lines_of : List ℕ → List Line
lines_of bytes = lines_from no_counts bytes

-- The end of a script ends its last line, as a line feed does. Where the script ends with a line feed, that adds
-- an empty line, which is skipped.
abbrev pub script_lines : List ℕ → List Line
script_lines script = lines_of (script ++ 10 ∷ [])

-- the lines that end in the bytes that a script may have
abbrev pub lines_within_most : List ℕ → List Line
lines_within_most bytes = lines_of (take MAX_SCRIPT_BYTES bytes)
