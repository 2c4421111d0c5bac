use Rattle.lake_model.proofs.ExampleLemmas.{dropped_table_has_one_kind, update_inserts_and_deletes, what_goes_again_has_no_kind}
use Rattle.lake_model.proofs.examples.kinds.Goals as goal

pub returns-clause-update_inserts_and_deletes : goal.returns-clause-update_inserts_and_deletes
returns-clause-update_inserts_and_deletes c = update_inserts_and_deletes

pub returns-clause-what_goes_again_has_no_kind : goal.returns-clause-what_goes_again_has_no_kind
returns-clause-what_goes_again_has_no_kind c = what_goes_again_has_no_kind

pub returns-clause-dropped_table_has_one_kind : goal.returns-clause-dropped_table_has_one_kind
returns-clause-dropped_table_has_one_kind c = dropped_table_has_one_kind
