use Rattle.std.proofs.Common.{◌≡◌, ◌⊎◌, ◌||◌, Bool, Some, sym, ap, ◌∙◌}
use Rattle.std.specs.Option.{option_copied}
use Rattle.cat_rows.specs.Batches.{tables_of}
use Rattle.cat_rows.specs.declared.batch.Key.{Key}
use Rattle.cat_rows.specs.declared.schemas.SchemaRow.{SchemaRow}
use Rattle.cat_rows.specs.declared.schemas.TableRow.{TableRow}
use Rattle.cat_rows.specs.declared.schemas.ColumnRow.{ColumnRow}
use Rattle.cat_rows.specs.declared.files.DataFileRow.{DataFileRow}
use Rattle.cat_rows.specs.declared.files.DeleteFileRow.{DeleteFileRow}
use Rattle.cat_rows.specs.declared.files.FileColumnStatsRow.{FileColumnStatsRow}
use Rattle.cat_rows.specs.declared.files.TableStatsRow.{TableStatsRow}
use Rattle.cat_rows.specs.declared.inlined.InlinedRow.{InlinedRow}
use Rattle.cat_rules.specs.CounterRule.{IsTooLarge, is_not_past}
use Rattle.cat_rules.specs.Places.{of_schema, of_table, of_column, of_data_file, of_delete_file, of_column_stats, of_table_stats, of_inlined}
use Rattle.cat_rules.specs.Rows.{NamesIf}
use Rattle.cat_rules.specs.Kept.{newest}
use Rattle.cat_rules.proofs.FirstLemmas.{first_in, first_or}
use Rattle.history_rules.proofs.CounterLemmas.{first_of_newest}
use Rattle.history_rules.proofs.counter_rule.first_bad_id.Goals as goal

pub returns : goal.returns
returns c =
    let t = tables_of c.args.rows.now in
    let n = c.in_ok-newest.newest.now in
    let is : newest t.snapshot ≡ Some n = ap newest (sym c.snapshot.ensures.rows) ∙ sym c.newest_of.ensures ∙ ap option_copied c.in_ok-newest.was in
    let schema_test : SchemaRow → Bool = λ r. is_not_past n.next_catalog_id r.schema_id in
    let table_test : TableRow → Bool = λ r. is_not_past n.next_catalog_id r.table_id || is_not_past n.next_catalog_id r.schema_id in
    let column_test : ColumnRow → Bool = λ r. is_not_past n.next_catalog_id r.table_id in
    let data_file_test : DataFileRow → Bool = λ r. is_not_past n.next_file_id r.data_file_id || is_not_past n.next_catalog_id r.table_id in
    let delete_file_test : DeleteFileRow → Bool = λ r. is_not_past n.next_file_id r.delete_file_id || (is_not_past n.next_file_id r.data_file_id || is_not_past n.next_catalog_id r.table_id) in
    let column_stats_test : FileColumnStatsRow → Bool = λ r. is_not_past n.next_file_id r.data_file_id in
    let table_stats_test : TableStatsRow → Bool = λ r. is_not_past n.next_catalog_id r.table_id in
    let inlined_test : InlinedRow → Bool = λ r. is_not_past n.next_catalog_id r.table_id in
    let Schema : Key → Type 0 = NamesIf of_schema schema_test t.schema in
    let Table : Key → Type 0 = NamesIf of_table table_test t.table in
    let Column : Key → Type 0 = NamesIf of_column column_test t.column in
    let DataFile : Key → Type 0 = NamesIf of_data_file data_file_test t.data_file in
    let DeleteFile : Key → Type 0 = NamesIf of_delete_file delete_file_test t.delete_file in
    let ColumnStats : Key → Type 0 = NamesIf of_column_stats column_stats_test t.file_column_stats in
    let TableStats : Key → Type 0 = NamesIf of_table_stats table_stats_test t.table_stats in
    let Inlined : Key → Type 0 = NamesIf of_inlined inlined_test t.inlined_row in
    first_of_newest t n _ is
    (first_or (IsTooLarge n) (λ j. Schema j ⊎ (Table j ⊎ (Column j ⊎ (DataFile j ⊎ (DeleteFile j ⊎ (ColumnStats j ⊎ (TableStats j ⊎ Inlined j))))))) _ _ _ c.sooner-7.ensures c.large_counter-own.ensures
    (first_or Schema (λ j. Table j ⊎ (Column j ⊎ (DataFile j ⊎ (DeleteFile j ⊎ (ColumnStats j ⊎ (TableStats j ⊎ Inlined j)))))) _ _ _ c.sooner-6.ensures
    (first_in of_schema schema_test t.schema _ _ c.schema.ensures.rows c.first_bad-schema.ensures)
    (first_or Table (λ j. Column j ⊎ (DataFile j ⊎ (DeleteFile j ⊎ (ColumnStats j ⊎ (TableStats j ⊎ Inlined j))))) _ _ _ c.sooner-5.ensures
    (first_in of_table table_test t.table _ _ c.table.ensures.rows c.first_bad-table.ensures)
    (first_or Column (λ j. DataFile j ⊎ (DeleteFile j ⊎ (ColumnStats j ⊎ (TableStats j ⊎ Inlined j)))) _ _ _ c.sooner-4.ensures
    (first_in of_column column_test t.column _ _ c.column.ensures.rows c.first_bad-column.ensures)
    (first_or DataFile (λ j. DeleteFile j ⊎ (ColumnStats j ⊎ (TableStats j ⊎ Inlined j))) _ _ _ c.sooner-files.ensures
    (first_in of_data_file data_file_test t.data_file _ _ c.data_file.ensures.rows c.first_bad-data_file.ensures)
    (first_or DeleteFile (λ j. ColumnStats j ⊎ (TableStats j ⊎ Inlined j)) _ _ _ c.sooner-3.ensures
    (first_in of_delete_file delete_file_test t.delete_file _ _ c.delete_file.ensures.rows c.first_bad-delete_file.ensures)
    (first_or ColumnStats (λ j. TableStats j ⊎ Inlined j) _ _ _ c.sooner-2.ensures
    (first_in of_column_stats column_stats_test t.file_column_stats _ _ c.file_column_stats.ensures.rows c.first_bad-column_stats.ensures)
    (first_or TableStats Inlined _ _ _ c.sooner.ensures
    (first_in of_table_stats table_stats_test t.table_stats _ _ c.table_stats.ensures.rows c.first_bad-table_stats.ensures)
    (first_in of_inlined inlined_test t.inlined_row _ _ c.inlined_row.ensures.rows c.first_bad-inlined.ensures)))))))))
