use Rattle.std.proofs.Common.{◌≡◌, ◌⊎◌, ◌∙◌, ℕ, List, true, ap, subst, is_lt}
use Rattle.cat_tables.specs.Table.{IsBelow, RisesByKey}
use Rattle.cat_rows.specs.Batches.{tables_of}
use Rattle.cat_rows.specs.Keys.{data_file_key, delete_file_key, scheduled_file_key}
use Rattle.cat_rows.specs.declared.batch.Key.{Key}
use Rattle.cat_rows.specs.declared.files.DataFileRow.{DataFileRow}
use Rattle.cat_rows.specs.declared.files.DeleteFileRow.{DeleteFileRow}
use Rattle.cat_rules.specs.Places.{is_sooner, of_data_file, of_delete_file, of_scheduled}
use Rattle.cat_rules.specs.Rows.{Names}
use Rattle.cat_rules.proofs.FirstLemmas.{ascends_like, first_or}
use Rattle.file_rules.specs.Ids.{first_id, id_at}
use Rattle.cat_rules.specs.DataFileRule.{IsLong, IsDataPath, IsDeletePath, IsDataPathBefore, IsDeletePathBefore}
use Rattle.file_rules.proofs.PathLemmas.{first_data, first_delete, first_scheduled}
use Rattle.file_rules.proofs.path_rule.first_bad_path.Goals as goal

pub first_checked-requires : goal.first_checked-requires
first_checked-requires c =
    ascends_like (IsBelow data_file_key) (λ a b. is_sooner (of_data_file a) (of_data_file b) ≡ true) (λ a b below. ap is_lt below) c.data_file-2.result.now c.data_file-2.ensures.rises

pub first_checked-requires-2 : goal.first_checked-requires-2
first_checked-requires-2 c =
    ascends_like (IsBelow delete_file_key) (λ a b. is_sooner (of_delete_file a) (of_delete_file b) ≡ true) (λ a b below. ap is_lt below) c.delete_file-2.result.now c.delete_file-2.ensures.rises

pub first_checked-requires-3 : goal.first_checked-requires-3
first_checked-requires-3 c =
    ascends_like (IsBelow scheduled_file_key) (λ a b. is_sooner (of_scheduled a) (of_scheduled b) ≡ true) (λ a b below. ap is_lt below) c.scheduled_file.result.now c.scheduled_file.ensures.rises

pub returns : goal.returns
returns c =
    let t = tables_of c.args.rows.now in
    let data_ids = id_at c.in_ok-first_ids.field-0 in
    let delete_ids = id_at c.in_ok-first_ids-2.field-0 in
    let data_is : (p : List ℕ) → data_ids p ≡ first_id (λ (r : DataFileRow). r.path) (λ r. r.data_file_id) t.data_file p =
    λ p. c.in_ok-first_ids.ensures (record { ref_ptr = (0, 0); now = p }) ∙ ap (λ (rows : List DataFileRow). first_id (λ r. r.path) (λ r. r.data_file_id) rows p) c.data_file.ensures.rows in
    let delete_is : (p : List ℕ) → delete_ids p ≡ first_id (λ (r : DeleteFileRow). r.path) (λ r. r.delete_file_id) t.delete_file p =
    λ p. c.in_ok-first_ids-2.ensures (record { ref_ptr = (0, 0); now = p }) ∙ ap (λ (rows : List DeleteFileRow). first_id (λ r. r.path) (λ r. r.delete_file_id) rows p) c.delete_file.ensures.rows in
    let DataUp : List DataFileRow → Type 0 = RisesByKey data_file_key in
    let DeleteUp : List DeleteFileRow → Type 0 = RisesByKey delete_file_key in
    let data_up = subst DataUp c.data_file.ensures.rows c.data_file.ensures.rises in
    let delete_up = subst DeleteUp c.delete_file.ensures.rows c.delete_file.ensures.rises in
    let Data : Key → Type 0 = Names of_data_file (λ r. IsLong r.path ⊎ IsDataPathBefore t r) t.data_file in
    let Delete : Key → Type 0 = Names of_delete_file (λ r. IsLong r.path ⊎ (IsDataPath t r.path ⊎ IsDeletePathBefore t r)) t.delete_file in
    let Scheduled : Key → Type 0 = Names of_scheduled (λ r. IsLong r.path ⊎ (IsDataPath t r.path ⊎ IsDeletePath t r.path)) t.scheduled_file in
    first_or Data (λ k. Delete k ⊎ Scheduled k) _ _ _ c.sooner-2.ensures
    (first_data t data_ids delete_ids data_is delete_is data_up delete_up c.data_file-2.result.now c.data_file-2.ensures.rows _ c.in_ok-data_file.ensures)
    (first_or Delete Scheduled _ _ _ c.sooner.ensures
    (first_delete t data_ids delete_ids data_is delete_is data_up delete_up c.delete_file-2.result.now c.delete_file-2.ensures.rows _ c.in_ok-delete_file.ensures)
    (first_scheduled t data_ids delete_ids data_is delete_is data_up delete_up c.scheduled_file.result.now c.scheduled_file.ensures.rows _ c.in_ok-scheduled.ensures))
