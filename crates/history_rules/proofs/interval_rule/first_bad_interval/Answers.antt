use Rattle.std.proofs.Common.{◌≡◌, ◌⊎◌, ◌∙◌, ap, subst}
use Rattle.cat_rows.specs.Batches.{tables_of}
use Rattle.cat_rows.specs.Validities.{schema_validity, table_validity, data_file_validity, delete_file_validity, inlined_row_validity}
use Rattle.cat_rows.specs.declared.batch.Key.{Key}
use Rattle.cat_rules.specs.First.{FirstBad}
use Rattle.cat_rules.specs.IntervalRule.{IsWronglyDated, is_misdated}
use Rattle.cat_rules.specs.Kept.{kept_of}
use Rattle.cat_rules.specs.Places.{of_schema, of_table, of_column, of_data_file, of_delete_file, of_inlined}
use Rattle.cat_rules.specs.Rows.{Names, NamesIf}
use Rattle.cat_rules.specs.declared.kept.Kept.{Kept}
use Rattle.cat_rules.proofs.FirstLemmas.{first_in, first_or}
use Rattle.history_rules.proofs.interval_rule.first_bad_interval.Goals as goal

pub returns : goal.returns
returns c =
    let t = tables_of c.args.rows.now in
    let kept = c.kept_of-kept.result in
    let is : kept ≡ kept_of t.snapshot = c.kept_of-kept.ensures ∙ ap kept_of c.snapshot.ensures.rows in
    let Schema : Kept → Key → Type 0 = λ k. NamesIf of_schema (is_misdated k schema_validity) t.schema in
    let Table : Kept → Key → Type 0 = λ k. NamesIf of_table (is_misdated k table_validity) t.table in
    let Column : Kept → Key → Type 0 = λ k. Names of_column (IsWronglyDated k t.column) t.column in
    let DataFile : Kept → Key → Type 0 = λ k. NamesIf of_data_file (is_misdated k data_file_validity) t.data_file in
    let DeleteFile : Kept → Key → Type 0 = λ k. NamesIf of_delete_file (is_misdated k delete_file_validity) t.delete_file in
    let Inlined : Kept → Key → Type 0 = λ k. NamesIf of_inlined (is_misdated k inlined_row_validity) t.inlined_row in
    let All : Kept → Key → Type 0 = λ k j. Schema k j ⊎ (Table k j ⊎ (Column k j ⊎ (DataFile k j ⊎ (DeleteFile k j ⊎ Inlined k j)))) in
    let columns = subst (λ rows. FirstBad (Names of_column (IsWronglyDated kept rows) rows) c.first_wrong-column.result) c.column.ensures.rows c.first_wrong-column.ensures in
    let files = first_or (DataFile kept) (λ j. DeleteFile kept j ⊎ Inlined kept j) _ _ _ c.sooner-file.ensures
    (first_in of_data_file (is_misdated kept data_file_validity) t.data_file _ _ c.data_file.ensures.rows c.first_bad-data_file.ensures)
    (first_or (DeleteFile kept) (Inlined kept) _ _ _ c.sooner.ensures
    (first_in of_delete_file (is_misdated kept delete_file_validity) t.delete_file _ _ c.delete_file.ensures.rows c.first_bad-delete_file.ensures)
    (first_in of_inlined (is_misdated kept inlined_row_validity) t.inlined_row _ _ c.inlined_row.ensures.rows c.first_bad-inlined.ensures)) in
    subst (λ k. FirstBad (All k) c.sooner-4.result) is
    (first_or (Schema kept) (λ j. Table kept j ⊎ (Column kept j ⊎ (DataFile kept j ⊎ (DeleteFile kept j ⊎ Inlined kept j)))) _ _ _ c.sooner-4.ensures
    (first_in of_schema (is_misdated kept schema_validity) t.schema _ _ c.schema.ensures.rows c.first_bad-schema.ensures)
    (first_or (Table kept) (λ j. Column kept j ⊎ (DataFile kept j ⊎ (DeleteFile kept j ⊎ Inlined kept j))) _ _ _ c.sooner-3.ensures
    (first_in of_table (is_misdated kept table_validity) t.table _ _ c.table.ensures.rows c.first_bad-table.ensures)
    (first_or (Column kept) (λ j. DataFile kept j ⊎ (DeleteFile kept j ⊎ Inlined kept j)) _ _ _ c.sooner-2.ensures columns files)))
