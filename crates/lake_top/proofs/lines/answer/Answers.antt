use Rattle.stmt_reader.proofs.AnswerLemmas.{says_its_session}
use Rattle.lake_top.proofs.LineLemmas.{goes_said}
use Rattle.lake_top.proofs.lines.answer.Goals as goal

pub returns-in-Ok-clause-goes : goal.returns-in-Ok-clause-goes
returns-in-Ok-clause-goes g c = λ number.
    goes_said _ _ c.args.line.now c.in-Ok.session number c.in-Ok.stmt c.answer_stmt.result c.in-Ok.ensures.total
    (says_its_session c.args.line.now (c.in-Ok.session, c.in-Ok.stmt) c.in-Ok.ensures.exact.1) (c.answer_stmt.ensures.goes number)
