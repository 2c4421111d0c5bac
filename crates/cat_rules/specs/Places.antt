-- Which of two rows stands before the other among all rows of a catalogue, and the key of each row.
use Rattle.std.specs.Prelude.{Bool}
use Rattle.std.specs.Ordering.{is_lt}
use Rattle.cat_tables.specs.Table.{key_cmp}
use Rattle.cat_rows.specs.Places.{place}
use Rattle.cat_rows.specs.declared.batch.Key.{Key}
use Rattle.cat_rows.specs.declared.batch.Key.TheVariants as key
use Rattle.cat_rows.specs.declared.history.MetadataRow.{MetadataRow}
use Rattle.cat_rows.specs.declared.history.SnapshotRow.{SnapshotRow}
use Rattle.cat_rows.specs.declared.history.SnapshotChangesRow.{SnapshotChangesRow}
use Rattle.cat_rows.specs.declared.schemas.SchemaRow.{SchemaRow}
use Rattle.cat_rows.specs.declared.schemas.TableRow.{TableRow}
use Rattle.cat_rows.specs.declared.schemas.ColumnRow.{ColumnRow}
use Rattle.cat_rows.specs.declared.files.DataFileRow.{DataFileRow}
use Rattle.cat_rows.specs.declared.files.DeleteFileRow.{DeleteFileRow}
use Rattle.cat_rows.specs.declared.files.FileColumnStatsRow.{FileColumnStatsRow}
use Rattle.cat_rows.specs.declared.files.TableStatsRow.{TableStatsRow}
use Rattle.cat_rows.specs.declared.inlined.InlinedRow.{InlinedRow}
use Rattle.cat_rows.specs.declared.files.ScheduledFileRow.{ScheduledFileRow}

abbrev pub is_sooner : Key → Key → Bool
is_sooner j k = is_lt (key_cmp (place j) (place k))

-- the key of each row

abbrev pub of_metadata : MetadataRow → Key
of_metadata r = key.Metadata r.key

abbrev pub of_snapshot : SnapshotRow → Key
of_snapshot r = key.Snapshot r.snapshot_id

abbrev pub of_changes : SnapshotChangesRow → Key
of_changes r = key.SnapshotChanges r.snapshot_id

abbrev pub of_schema : SchemaRow → Key
of_schema r = key.Schema r.schema_id

abbrev pub of_table : TableRow → Key
of_table r = key.Table r.table_id

abbrev pub of_column : ColumnRow → Key
of_column r = key.Column r.table_id r.column_id r.begin_snapshot

abbrev pub of_data_file : DataFileRow → Key
of_data_file r = key.DataFile r.data_file_id

abbrev pub of_delete_file : DeleteFileRow → Key
of_delete_file r = key.DeleteFile r.delete_file_id

abbrev pub of_column_stats : FileColumnStatsRow → Key
of_column_stats r = key.FileColumnStats r.data_file_id r.column_id

abbrev pub of_table_stats : TableStatsRow → Key
of_table_stats r = key.TableStats r.table_id

abbrev pub of_inlined : InlinedRow → Key
of_inlined r = key.Inlined r.table_id r.row_id r.begin_snapshot

abbrev pub of_scheduled : ScheduledFileRow → Key
of_scheduled r = key.ScheduledFile r.path
