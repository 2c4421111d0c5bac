-- A batch, table by table: what its lists have for each table, and the tables after it.
use Rattle.std.specs.Prelude.{◌≡◌, ℕ, List, [], ◌∷◌, Option, Some, None, option_map}
use Rattle.std.specs.List.{filter_map}
use Rattle.cat_tables.specs.Table.{all_removed, put_all}
use Rattle.cat_tables.specs.Validity.{all_ended}
use Rattle.cat_rows.specs.Batches.{applied}
use Rattle.cat_rows.specs.Keys.{metadata_key, snapshot_key, snapshot_changes_key, schema_key, table_key, column_key, data_file_key, delete_file_key, file_column_stats_key, table_stats_key, inlined_row_key, scheduled_file_key}
use Rattle.cat_rows.specs.Validities.{schema_validity, table_validity, column_validity, data_file_validity, delete_file_validity, inlined_row_validity}
use Rattle.cat_rows.specs.Tables.{Tables}
use Rattle.cat_rows.specs.declared.history.MetadataRow.{MetadataRow}
use Rattle.cat_rows.specs.declared.history.SnapshotRow.{SnapshotRow}
use Rattle.cat_rows.specs.declared.history.SnapshotChangesRow.{SnapshotChangesRow}
use Rattle.cat_rows.specs.declared.schemas.SchemaRow.{SchemaRow}
use Rattle.cat_rows.specs.declared.schemas.TableRow.{TableRow}
use Rattle.cat_rows.specs.declared.schemas.ColumnRow.{ColumnRow}
use Rattle.cat_rows.specs.declared.files.DataFileRow.{DataFileRow}
use Rattle.cat_rows.specs.declared.files.DeleteFileRow.{DeleteFileRow}
use Rattle.cat_rows.specs.declared.files.FileColumnStatsRow.{FileColumnStatsRow}
use Rattle.cat_rows.specs.declared.files.TableStatsRow.{TableStatsRow}
use Rattle.cat_rows.specs.declared.inlined.InlinedRow.{InlinedRow}
use Rattle.cat_rows.specs.declared.files.ScheduledFileRow.{ScheduledFileRow}
use Rattle.cat_rows.specs.declared.batch.Batch.{Batch}
use Rattle.cat_rows.specs.declared.batch.CatRow.{CatRow}
use Rattle.cat_rows.specs.declared.batch.CatRow.TheVariants as row
use Rattle.cat_rows.specs.declared.batch.Key.{Key}
use Rattle.cat_rows.specs.declared.batch.Key.TheVariants as key

-- ---- the rows of one table

abbrev pub metadata_in : CatRow → Option MetadataRow
metadata_in (row.Metadata r) = Some r
metadata_in r = None

abbrev pub snapshot_in : CatRow → Option SnapshotRow
snapshot_in (row.Snapshot r) = Some r
snapshot_in r = None

abbrev pub snapshot_changes_in : CatRow → Option SnapshotChangesRow
snapshot_changes_in (row.SnapshotChanges r) = Some r
snapshot_changes_in r = None

abbrev pub schema_in : CatRow → Option SchemaRow
schema_in (row.Schema r) = Some r
schema_in r = None

abbrev pub table_in : CatRow → Option TableRow
table_in (row.Table r) = Some r
table_in r = None

abbrev pub column_in : CatRow → Option ColumnRow
column_in (row.Column r) = Some r
column_in r = None

abbrev pub data_file_in : CatRow → Option DataFileRow
data_file_in (row.DataFile r) = Some r
data_file_in r = None

abbrev pub delete_file_in : CatRow → Option DeleteFileRow
delete_file_in (row.DeleteFile r) = Some r
delete_file_in r = None

abbrev pub file_column_stats_in : CatRow → Option FileColumnStatsRow
file_column_stats_in (row.FileColumnStats r) = Some r
file_column_stats_in r = None

abbrev pub table_stats_in : CatRow → Option TableStatsRow
table_stats_in (row.TableStats r) = Some r
table_stats_in r = None

abbrev pub inlined_row_in : CatRow → Option InlinedRow
inlined_row_in (row.Inlined r) = Some r
inlined_row_in r = None

abbrev pub scheduled_file_in : CatRow → Option ScheduledFileRow
scheduled_file_in (row.ScheduledFile r) = Some r
scheduled_file_in r = None

-- ---- the keys of one table, by what they are compared by

abbrev pub metadata_parts : Key → Option (List ℕ)
metadata_parts (key.Metadata a) = Some a
metadata_parts k = None

abbrev pub snapshot_parts : Key → Option (List ℕ)
snapshot_parts (key.Snapshot a) = Some (a ∷ [])
snapshot_parts k = None

abbrev pub snapshot_changes_parts : Key → Option (List ℕ)
snapshot_changes_parts (key.SnapshotChanges a) = Some (a ∷ [])
snapshot_changes_parts k = None

abbrev pub schema_parts : Key → Option (List ℕ)
schema_parts (key.Schema a) = Some (a ∷ [])
schema_parts k = None

abbrev pub table_parts : Key → Option (List ℕ)
table_parts (key.Table a) = Some (a ∷ [])
table_parts k = None

abbrev pub column_parts : Key → Option (List ℕ)
column_parts (key.Column a b c) = Some (a ∷ b ∷ c ∷ [])
column_parts k = None

abbrev pub data_file_parts : Key → Option (List ℕ)
data_file_parts (key.DataFile a) = Some (a ∷ [])
data_file_parts k = None

abbrev pub delete_file_parts : Key → Option (List ℕ)
delete_file_parts (key.DeleteFile a) = Some (a ∷ [])
delete_file_parts k = None

abbrev pub file_column_stats_parts : Key → Option (List ℕ)
file_column_stats_parts (key.FileColumnStats a b) = Some (a ∷ b ∷ [])
file_column_stats_parts k = None

abbrev pub table_stats_parts : Key → Option (List ℕ)
table_stats_parts (key.TableStats a) = Some (a ∷ [])
table_stats_parts k = None

abbrev pub inlined_row_parts : Key → Option (List ℕ)
inlined_row_parts (key.Inlined a b c) = Some (a ∷ b ∷ c ∷ [])
inlined_row_parts k = None

abbrev pub scheduled_file_parts : Key → Option (List ℕ)
scheduled_file_parts (key.ScheduledFile a) = Some a
scheduled_file_parts k = None

-- the end of a row, with what its key is compared by
abbrev pub end_in : (Key → Option (List ℕ)) → Key × ℕ → Option (List ℕ × ℕ)
end_in parts e = option_map (λ p. (p, e.1)) (parts e.0)

-- ---- the tables

abbrev pub by_table : Batch → Tables → Tables
by_table b t = record {
  metadata = put_all metadata_key (filter_map metadata_in b.adds) (all_removed metadata_key (filter_map metadata_parts b.removes) t.metadata);
  snapshot = put_all snapshot_key (filter_map snapshot_in b.adds) (all_removed snapshot_key (filter_map snapshot_parts b.removes) t.snapshot);
  snapshot_changes = put_all snapshot_changes_key (filter_map snapshot_changes_in b.adds) (all_removed snapshot_changes_key (filter_map snapshot_changes_parts b.removes) t.snapshot_changes);
  schema = put_all schema_key (filter_map schema_in b.adds) (all_ended schema_validity schema_key (filter_map (end_in schema_parts) b.ends) (all_removed schema_key (filter_map schema_parts b.removes) t.schema));
  table = put_all table_key (filter_map table_in b.adds) (all_ended table_validity table_key (filter_map (end_in table_parts) b.ends) (all_removed table_key (filter_map table_parts b.removes) t.table));
  column = put_all column_key (filter_map column_in b.adds) (all_ended column_validity column_key (filter_map (end_in column_parts) b.ends) (all_removed column_key (filter_map column_parts b.removes) t.column));
  data_file = put_all data_file_key (filter_map data_file_in b.adds) (all_ended data_file_validity data_file_key (filter_map (end_in data_file_parts) b.ends) (all_removed data_file_key (filter_map data_file_parts b.removes) t.data_file));
  delete_file = put_all delete_file_key (filter_map delete_file_in b.adds) (all_ended delete_file_validity delete_file_key (filter_map (end_in delete_file_parts) b.ends) (all_removed delete_file_key (filter_map delete_file_parts b.removes) t.delete_file));
  file_column_stats = put_all file_column_stats_key (filter_map file_column_stats_in b.adds) (all_removed file_column_stats_key (filter_map file_column_stats_parts b.removes) t.file_column_stats);
  table_stats = put_all table_stats_key (filter_map table_stats_in b.adds) (all_removed table_stats_key (filter_map table_stats_parts b.removes) t.table_stats);
  inlined_row = put_all inlined_row_key (filter_map inlined_row_in b.adds) (all_ended inlined_row_validity inlined_row_key (filter_map (end_in inlined_row_parts) b.ends) (all_removed inlined_row_key (filter_map inlined_row_parts b.removes) t.inlined_row));
  scheduled_file = put_all scheduled_file_key (filter_map scheduled_file_in b.adds) (all_removed scheduled_file_key (filter_map scheduled_file_parts b.removes) t.scheduled_file);
}

-- the tables after a batch are each the table before with its own part of the batch
abbrev pub AppliesByTable : Type 0
AppliesByTable = (b : Batch) (t : Tables) → applied b t ≡ by_table b t
