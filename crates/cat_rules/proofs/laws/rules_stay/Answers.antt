use Rattle.std.proofs.Common.{◌≡◌, ◌⊎◌, inl, inr, ⊎_elim, [], ◌∷◌, None}
use Rattle.cat_tables.specs.Table.{row_of}
use Rattle.cat_rows.specs.Keys.{data_file_key, schema_key, table_key}
use Rattle.cat_rows.specs.Seen.{Seen}
use Rattle.cat_rows.specs.Tables.{Tables}
use Rattle.cat_rows.specs.declared.files.DataFileRow.{DataFileRow}
use Rattle.cat_rows.specs.declared.files.DeleteFileRow.{DeleteFileRow}
use Rattle.cat_rows.specs.declared.schemas.TableRow.{TableRow}
use Rattle.cat_rules.specs.ColumnRule.{IsColumnless, IsCrowdedColumn}
use Rattle.cat_rules.specs.DataFileRule.{IsDataFileUnmatched, table_id_of}
use Rattle.cat_rules.specs.DeleteFileRule.{IsDeleteFileDiffering, IsDeleteFileUnmatched, IsSecondDeleteFile, data_file_of, file_id_of}
use Rattle.cat_rules.specs.EachKept.{missing_or_own}
use Rattle.cat_rules.specs.First.{Holds}
use Rattle.cat_rules.specs.Lookups.{table_of}
use Rattle.cat_rules.specs.Places.{of_data_file, of_delete_file, of_table}
use Rattle.cat_rules.specs.SchemaRule.{IsSchemaNameUsed}
use Rattle.cat_rules.specs.TableRule.{IsTableNameUsed, IsTableUnmatched, schema_id_of, schema_of}
use Rattle.cat_rules.proofs.LawLemmas.{names-alike, stays-after}
use Rattle.cat_rules.proofs.laws.rules_stay.Goals as goal

pub returns-clause-schema_names : goal.returns-clause-schema_names
returns-clause-schema_names c = stays-after (λ _. IsSchemaNameUsed) (λ t u seen h. h)

pub returns-clause-tables : goal.returns-clause-tables
returns-clause-tables c =
    stays-after IsTableUnmatched
    (λ t u seen h. names-alike (missing_or_own (schema_of t) schema_id_of of_table) (missing_or_own (schema_of u) schema_id_of of_table) (λ (r : TableRow). row_of schema_key (r.schema_id ∷ []) seen.schema ≡ None) seen.table h)

pub returns-clause-table_names : goal.returns-clause-table_names
returns-clause-table_names c = stays-after (λ _. IsTableNameUsed) (λ t u seen h. h)

pub returns-clause-columnless : goal.returns-clause-columnless
returns-clause-columnless c = stays-after (λ _. IsColumnless) (λ t u seen h. h)

pub returns-clause-crowded : goal.returns-clause-crowded
returns-clause-crowded c = stays-after (λ _. IsCrowdedColumn) (λ t u seen h. h)

pub returns-clause-data_files : goal.returns-clause-data_files
returns-clause-data_files c =
    stays-after IsDataFileUnmatched
    (λ t u seen h. names-alike (missing_or_own (λ (r : DataFileRow). table_of t r.table_id) table_id_of of_data_file) (missing_or_own (λ (r : DataFileRow). table_of u r.table_id) table_id_of of_data_file)
    (λ (r : DataFileRow). row_of table_key (r.table_id ∷ []) seen.table ≡ None) seen.data_file h)

-- the part that names by whole tables
unmatched : (t u : Tables) (seen : Seen) → Holds (IsDeleteFileUnmatched t seen) → Holds (IsDeleteFileUnmatched u seen)
unmatched t u seen h =
    names-alike (missing_or_own (data_file_of t) file_id_of of_delete_file) (missing_or_own (data_file_of u) file_id_of of_delete_file)
    (λ (r : DeleteFileRow). row_of data_file_key (r.data_file_id ∷ []) seen.data_file ≡ None) seen.delete_file h

pub returns-clause-delete_files : goal.returns-clause-delete_files
returns-clause-delete_files c =
    stays-after (λ t seen k. IsDeleteFileUnmatched t seen k ⊎ IsDeleteFileDiffering seen k)
    (λ t u seen h k. ⊎_elim (λ x. unmatched t u seen (λ j y. h j (inl y)) k x) (λ x. h k (inr x)))

pub returns-clause-second_delete_files : goal.returns-clause-second_delete_files
returns-clause-second_delete_files c = stays-after (λ _. IsSecondDeleteFile) (λ t u seen h. h)
