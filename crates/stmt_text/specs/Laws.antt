-- What holds of printed lines.
use Rattle.std.specs.Prelude.{ℕ, ◌≡◌, ◌≤◌, true, List, length, Ok}
use Rattle.std.specs.List.{list_all}
use Rattle.lake_types.specs.declared.stmt.Stmt.{Stmt}
use Rattle.lake_types.specs.declared.limits.TheConstants.{MAX_LINE_BYTES}
use Rattle.stmt_reader.specs.Lines.{Says, answer_of}
use Rattle.stmt_tokens.specs.Spelled.{spelled}
use Rattle.stmt_text.specs.Printable.{IsPrintable}
use Rattle.stmt_text.specs.Printed.{is_typed, printed}

-- where the line is no longer than a line may be, this is its answer
abbrev pub IsAnswered : List ℕ → ℕ × Stmt → Type 0
IsAnswered line said = length line ≤ MAX_LINE_BYTES → answer_of line ≡ Ok said

abbrev pub AnswersWhatIsSaid : Type 0
AnswersWhatIsSaid = (line : List ℕ) (said : ℕ × Stmt) → Says line said → IsAnswered line said

abbrev pub WhatIsSaidIsPrintable : Type 0
WhatIsSaidIsPrintable = (line : List ℕ) (session : ℕ) (stmt : Stmt) → Says line (session, stmt) → IsPrintable session stmt

-- its texts are UTF-8 and its bytes are bytes
abbrev pub IsTyped : ℕ → Stmt → Type 0
IsTyped session stmt = list_all is_typed (printed session stmt) ≡ true

-- the line that spells its tokens says it
abbrev pub WhatIsPrintableIsSaid : Type 0
WhatIsPrintableIsSaid = (session : ℕ) (stmt : Stmt) → IsPrintable session stmt → IsTyped session stmt → Says (spelled (printed session stmt)) (session, stmt)
