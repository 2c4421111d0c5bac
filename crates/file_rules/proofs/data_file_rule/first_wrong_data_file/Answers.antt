use Rattle.std.proofs.Common.{◌≡◌, Bool, Option, refl, List, [], ◌∷◌, ap, ◌∙◌, subst}
use Rattle.cat_rules.proofs.SeenLemmas.{first_at_or, first_if, first_without}
use Rattle.cat_rules.specs.EachKept.{AtKept, missing_or_own}
use Rattle.cat_rows.specs.declared.schemas.TableRow.{TableRow}
use Rattle.cat_tables.specs.Table.{RisesByKey}
use Rattle.cat_rows.specs.Batches.{tables_of}
use Rattle.cat_rows.specs.Keys.{table_key, snapshot_key}
use Rattle.cat_rows.specs.Validities.{data_file_validity, table_laws, table_validity}
use Rattle.cat_rows.specs.declared.files.DataFileRow.{DataFileRow}
use Rattle.cat_rules.specs.First.{FirstBad}
use Rattle.cat_rules.specs.Kept.{kept_of}
use Rattle.cat_rules.specs.Places.{of_data_file}
use Rattle.cat_rules.specs.Rows.{NamesIf}
use Rattle.cat_rules.specs.Sight.{IsUnmatchedBy}
use Rattle.cat_rules.specs.declared.kept.Kept.{Kept}
use Rattle.cat_rules.proofs.DatedLemmas.{dated_tables, dated_data_files, found_dated}
use Rattle.cat_rules.proofs.FirstLemmas.{first_in, first_or}
use Rattle.cat_rules.specs.DataFileRule.{IsDataFileUnmatched, has_wrong_numbers, table_id_of}
use Rattle.cat_rules.specs.Lookups.{table_of}
use Rattle.cat_rules.proofs.ReferLemmas.{first_seen, first_unmatched}
use Rattle.file_rules.proofs.data_file_rule.first_wrong_data_file.Goals as goal

pub returns : goal.returns
returns c =
    let t = tables_of c.args.rows.now in
    let up = subst (RisesByKey snapshot_key) c.snapshot.ensures.rows c.snapshot.ensures.rises in
    let is : c.kept_of-kept.result ≡ kept_of t.snapshot = c.kept_of-kept.ensures ∙ ap kept_of c.snapshot.ensures.rows in
    let history = c.requires.history in
    let intervals = c.requires.intervals in
    let is_bad : DataFileRow → Bool = has_wrong_numbers t in
    let Found : Kept → List DataFileRow → Type 0 = λ kept rows. FirstBad (IsUnmatchedBy t data_file_validity table_validity (λ (r : DataFileRow). table_of t r.table_id) table_id_of of_data_file rows kept.first) c.first_unmatched-unmatched.result in
    let found = subst (Found (kept_of t.snapshot)) c.data_file.ensures.rows (subst (λ kept. Found kept c.data_file.result.now) is c.first_unmatched-unmatched.ensures) in
    let tables = subst (RisesByKey table_key) c.table-tables.ensures.rows c.table-tables.ensures.rises in
    let other : DataFileRow → Option TableRow = λ r. table_of t r.table_id in
    let unmatched =
    first_without t data_file_validity table_validity table_key table_laws t.table tables (λ r. r.table_id ∷ []) (λ r. refl) table_id_of of_data_file (missing_or_own other table_id_of of_data_file) (λ r. refl) t.data_file _
    (first_unmatched t up history data_file_validity table_validity other table_id_of of_data_file t.data_file _
    (dated_data_files t intervals)
    (λ r q e. found_dated t table_key (r.table_id ∷ []) table_validity t.table (dated_tables t intervals) q e)
    found) in
    let wrong =
    first_if t data_file_validity of_data_file is_bad (λ r. refl) (λ r. refl) t.data_file _
    (first_seen t up history data_file_validity of_data_file is_bad t.data_file _ (dated_data_files t intervals)
    (first_in of_data_file is_bad t.data_file _ _ c.data_file-2.ensures.rows c.first_bad-wrong.ensures)) in
    first_at_or (IsDataFileUnmatched t) (λ seen. NamesIf of_data_file is_bad seen.data_file) t _
    (first_or (AtKept (IsDataFileUnmatched t) t) (AtKept (λ seen. NamesIf of_data_file is_bad seen.data_file) t) _ _ _ c.sooner.ensures unmatched wrong)
