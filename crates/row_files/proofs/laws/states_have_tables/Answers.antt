use Rattle.row_files.proofs.JoinLemmas.{tables_of_states}
use Rattle.row_files.proofs.laws.states_have_tables.Goals as goal

pub returns : goal.returns
returns c files next_catalog v = tables_of_states files v.tables
