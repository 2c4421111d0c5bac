use Rattle.stmt_reader.proofs.DateLemmas.{day_known}
use Rattle.stmt_reader.proofs.literals.day_of.Goals as goal

pub returns-in-Ok : goal.returns-in-Ok
returns-in-Ok c = day_known c.in-Ok.day c.args.text.now c.in-Ok.ensures.ok
