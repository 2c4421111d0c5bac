-- What is answered of a line that says something.
use Rattle.std.proofs.Common.{◌≡◌, ℕ, true, sym}
use Rattle.std.specs.List.{list_all}
use Rattle.std.specs.Prelude.{Ok}
use Rattle.lake_types.specs.declared.stmt.Stmt.{Stmt}
use Rattle.stmt_reader.proofs.AnswerLemmas.{has_one_answer}
use Rattle.stmt_text.specs.Laws.{AnswersWhatIsSaid, IsAnswered}
use Rattle.stmt_text.specs.Printable.{IsPrintable}
use Rattle.stmt_text.specs.Printed.{is_typed, printed}
use Rattle.stmt_text.proofs.StmtPuts.{says}
use Rattle.stmt_tokens.specs.Spelled.{spelled}

pub answers : AnswersWhatIsSaid
answers line said h l = sym (has_one_answer line (Ok said) (l, h) (λ e. cc))

pub again : (s : ℕ) (x : Stmt) → IsPrintable s x → list_all is_typed (printed s x) ≡ true → IsAnswered (spelled (printed s x)) (s, x)
again s x h t = answers (spelled (printed s x)) (s, x) (says s x h t)

pub ruleset printing = (says, again)
