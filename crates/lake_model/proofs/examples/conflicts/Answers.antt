use Rattle.lake_model.proofs.ExampleLemmas.{compaction_after_delete, drop_after_insert, insert_after_alteration, lowest_snapshot, rename_still_conflicts, two_deletes_clash, two_inserts_renumber}
use Rattle.lake_model.proofs.examples.conflicts.Goals as goal

pub returns-clause-two_inserts_renumber : goal.returns-clause-two_inserts_renumber
returns-clause-two_inserts_renumber c = two_inserts_renumber

pub returns-clause-rename_still_conflicts : goal.returns-clause-rename_still_conflicts
returns-clause-rename_still_conflicts c = rename_still_conflicts

pub returns-clause-two_deletes_clash : goal.returns-clause-two_deletes_clash
returns-clause-two_deletes_clash c = two_deletes_clash

pub returns-clause-drop_after_insert : goal.returns-clause-drop_after_insert
returns-clause-drop_after_insert c = drop_after_insert

pub returns-clause-insert_after_alteration : goal.returns-clause-insert_after_alteration
returns-clause-insert_after_alteration c = insert_after_alteration

pub returns-clause-compaction_after_delete : goal.returns-clause-compaction_after_delete
returns-clause-compaction_after_delete c = compaction_after_delete

pub returns-clause-lowest_snapshot : goal.returns-clause-lowest_snapshot
returns-clause-lowest_snapshot c = lowest_snapshot
