use Rattle.std.proofs.Common.{◌≡◌, Bool, true, List, [], ◌∷◌, ap, ◌∙◌, subst}
use Rattle.file_rules.proofs.DeleteFileLemmas.{first_wrong}
use Rattle.cat_tables.specs.Table.{RisesByKey}
use Rattle.cat_rows.specs.Batches.{tables_of}
use Rattle.cat_rows.specs.Keys.{data_file_key, snapshot_key}
use Rattle.cat_rows.specs.Validities.{delete_file_validity, data_file_validity}
use Rattle.cat_rows.specs.declared.files.DeleteFileRow.{DeleteFileRow}
use Rattle.cat_rules.specs.First.{FirstBad}
use Rattle.cat_rules.specs.Kept.{kept_of}
use Rattle.cat_rules.specs.Places.{of_delete_file}
use Rattle.cat_rules.specs.Rows.{Names}
use Rattle.cat_rules.specs.Sight.{IsSeen, IsUnmatched, IsUnmatchedBy}
use Rattle.cat_rules.specs.declared.kept.Kept.{Kept}
use Rattle.cat_rules.proofs.DatedLemmas.{dated_data_files, dated_delete_files, found_dated}
use Rattle.cat_rules.proofs.FirstLemmas.{first_in, first_or}
use Rattle.cat_rules.specs.DeleteFileRule.{differs_from, data_file_of, file_id_of}
use Rattle.cat_rules.proofs.ReferLemmas.{first_seen, first_unmatched}
use Rattle.file_rules.proofs.delete_file_rule.first_wrong_delete_file.Goals as goal

pub returns : goal.returns
returns c =
    let t = tables_of c.args.rows.now in
    let up = subst (RisesByKey snapshot_key) c.snapshot.ensures.rows c.snapshot.ensures.rises in
    let is : c.kept_of-kept.result ≡ kept_of t.snapshot = c.kept_of-kept.ensures ∙ ap kept_of c.snapshot.ensures.rows in
    let history = c.requires.history in
    let intervals = c.requires.intervals in
    let is_bad : DeleteFileRow → Bool = λ r. differs_from (data_file_of t r) r in
    let Found : Kept → List DeleteFileRow → Type 0 = λ kept rows. FirstBad (IsUnmatchedBy t delete_file_validity data_file_validity (data_file_of t) file_id_of of_delete_file rows kept.first) c.first_unmatched-unmatched.result in
    let found = subst (Found (kept_of t.snapshot)) c.delete_file.ensures.rows (subst (λ kept. Found kept c.delete_file.result.now) is c.first_unmatched-unmatched.ensures) in
    let files = subst (RisesByKey data_file_key) c.data_file-files.ensures.rows c.data_file-files.ensures.rises in
    first_wrong t files _ (first_or (IsUnmatched t delete_file_validity data_file_validity (data_file_of t) file_id_of of_delete_file t.delete_file) (Names of_delete_file (λ r. IsSeen t delete_file_validity r × (is_bad r ≡ true)) t.delete_file) _ _ _ c.sooner.ensures
    (first_unmatched t up history delete_file_validity data_file_validity (data_file_of t) file_id_of of_delete_file t.delete_file _
    (dated_delete_files t intervals)
    (λ r q e. found_dated t data_file_key (r.data_file_id ∷ []) data_file_validity t.data_file (dated_data_files t intervals) q e)
    found)
    (first_seen t up history delete_file_validity of_delete_file is_bad t.delete_file _ (dated_delete_files t intervals)
    (first_in of_delete_file is_bad t.delete_file _ _ c.delete_file-2.ensures.rows c.first_bad-differing.ensures)))
