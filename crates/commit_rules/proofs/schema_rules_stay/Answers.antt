use Rattle.commit_rules.proofs.SchemaLemmas.{columns-stay, schemas-stay, tables-stay}
use Rattle.commit_rules.proofs.schema_rules_stay.Goals as goal

pub returns-clause-schemas : goal.returns-clause-schemas
returns-clause-schemas c = schemas-stay

pub returns-clause-tables : goal.returns-clause-tables
returns-clause-tables c = tables-stay

pub returns-clause-columns : goal.returns-clause-columns
returns-clause-columns c = columns-stay
