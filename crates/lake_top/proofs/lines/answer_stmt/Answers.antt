use Rattle.lake_top.proofs.LineLemmas.{goes_one}
use Rattle.lake_top.specs.Sixteen.{line_of}
use Rattle.lake_top.proofs.lines.answer_stmt.Goals as goal

pub returns-then-is_sized-clause-goes : goal.returns-then-is_sized-clause-goes
returns-then-is_sized-clause-goes g c = λ number.
    let e = c.answer_line.ensures in
    goes_one _ _ (line_of c.args.session number c.args.stmt.now) c.answer_line.result (e.said number) e.later e.keeper e.disk_later e.disk
