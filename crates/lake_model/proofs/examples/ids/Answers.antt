use Rattle.lake_model.proofs.ExampleLemmas.{field_ids_and_defaults, fresh_row_keeps_its_place, fresh_rows_updated, update_keeps_the_id}
use Rattle.lake_model.proofs.examples.ids.Goals as goal

pub returns-clause-update_keeps_the_id : goal.returns-clause-update_keeps_the_id
returns-clause-update_keeps_the_id c = update_keeps_the_id

pub returns-clause-field_ids_and_defaults : goal.returns-clause-field_ids_and_defaults
returns-clause-field_ids_and_defaults c = field_ids_and_defaults

pub returns-clause-fresh_rows_updated : goal.returns-clause-fresh_rows_updated
returns-clause-fresh_rows_updated c = fresh_rows_updated

pub returns-clause-fresh_row_keeps_its_place : goal.returns-clause-fresh_row_keeps_its_place
returns-clause-fresh_row_keeps_its_place c = fresh_row_keeps_its_place
