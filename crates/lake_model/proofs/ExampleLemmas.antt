-- The examples compute.
use Rattle.std.proofs.Common.{refl}
use Rattle.lake_model.specs.Examples.{CompactionAfterDelete, DropAfterInsert, DroppedTableHasOneKind, FieldIdsAndDefaults, FreshRowKeepsItsPlace, FreshRowsUpdated, InsertAfterAlteration, LowestSnapshot, RenameStillConflicts, TwoDeletesClash, TwoInsertsRenumber, UpdateInsertsAndDeletes, UpdateKeepsTheId, WhatGoesAgainHasNoKind}

pub two_inserts_renumber : TwoInsertsRenumber
two_inserts_renumber = refl

pub rename_still_conflicts : RenameStillConflicts
rename_still_conflicts = refl

pub two_deletes_clash : TwoDeletesClash
two_deletes_clash = refl

pub drop_after_insert : DropAfterInsert
drop_after_insert = refl

pub insert_after_alteration : InsertAfterAlteration
insert_after_alteration = refl

pub update_keeps_the_id : UpdateKeepsTheId
update_keeps_the_id = refl

pub field_ids_and_defaults : FieldIdsAndDefaults
field_ids_and_defaults = refl

pub fresh_rows_updated : FreshRowsUpdated
fresh_rows_updated = refl

pub compaction_after_delete : CompactionAfterDelete
compaction_after_delete = refl

pub lowest_snapshot : LowestSnapshot
lowest_snapshot = refl

pub fresh_row_keeps_its_place : FreshRowKeepsItsPlace
fresh_row_keeps_its_place = refl

pub update_inserts_and_deletes : UpdateInsertsAndDeletes
update_inserts_and_deletes = refl

pub what_goes_again_has_no_kind : WhatGoesAgainHasNoKind
what_goes_again_has_no_kind = refl

pub dropped_table_has_one_kind : DroppedTableHasOneKind
dropped_table_has_one_kind = refl
