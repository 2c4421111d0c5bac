use Rattle.stmt_text.proofs.AnswerLemmas.{answers}
use Rattle.stmt_text.proofs.laws.a_line_answers_what_it_says.Goals as goal

pub returns : goal.returns
returns c = answers
