use Rattle.row_files.proofs.OwnLemmas.{stays_at}
use Rattle.row_files.proofs.own.add_creation.Goals as goal

pub returns-clause-rest : goal.returns-clause-rest
returns-clause-rest c = stays_at c.args.tables.now c.insert.new.self c.args.at _ c.in_ok-insert.ensures.updates.0
