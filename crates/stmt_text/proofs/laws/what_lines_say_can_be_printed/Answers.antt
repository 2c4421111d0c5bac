use Rattle.stmt_text.proofs.Said.{printable}
use Rattle.stmt_text.proofs.StmtPuts.{says}
use Rattle.stmt_text.proofs.laws.what_lines_say_can_be_printed.Goals as goal

pub returns : goal.returns
returns c = record { printable = printable; said = says }
