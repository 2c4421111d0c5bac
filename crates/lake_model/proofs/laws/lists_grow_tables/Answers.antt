use Rattle.lake_model.proofs.GrowthLemmas.{grows_by_table, new_ids_rise}
use Rattle.lake_model.proofs.laws.lists_grow_tables.Goals as goal

pub returns-clause-state : goal.returns-clause-state
returns-clause-state c = grows_by_table

pub returns-clause-ids : goal.returns-clause-ids
returns-clause-ids c = new_ids_rise
