use Rattle.row_files.proofs.OwnLemmas.{stays_at}
use Rattle.row_files.proofs.own.taken.Goals as goal

pub returns-in-Some-clause-rest : goal.returns-in-Some-clause-rest
returns-in-Some-clause-rest c = stays_at c.args.tables.now c.insert.new.self c.args.at _ c.in_ok-table.ensures.updates.0

pub returns-in-None-clause-rest : goal.returns-in-None-clause-rest
returns-in-None-clause-rest c = stays_at c.args.tables.now c.insert.new.self c.args.at _ c.in_ok-table.ensures.updates.0
