-- The keys of the tables.
use Rattle.std.specs.Prelude.{ℕ, List, [], ◌∷◌}
use Rattle.cat_rows.specs.declared.history.MetadataRow.{MetadataRow}
use Rattle.cat_rows.specs.declared.history.SnapshotRow.{SnapshotRow}
use Rattle.cat_rows.specs.declared.history.SnapshotChangesRow.{SnapshotChangesRow}
use Rattle.cat_rows.specs.declared.schemas.SchemaRow.{SchemaRow}
use Rattle.cat_rows.specs.declared.schemas.TableRow.{TableRow}
use Rattle.cat_rows.specs.declared.schemas.ColumnRow.{ColumnRow}
use Rattle.cat_rows.specs.declared.files.DataFileRow.{DataFileRow}
use Rattle.cat_rows.specs.declared.files.DeleteFileRow.{DeleteFileRow}
use Rattle.cat_rows.specs.declared.files.FileColumnStatsRow.{FileColumnStatsRow}
use Rattle.cat_rows.specs.declared.files.TableStatsRow.{TableStatsRow}
use Rattle.cat_rows.specs.declared.inlined.InlinedRow.{InlinedRow}
use Rattle.cat_rows.specs.declared.files.ScheduledFileRow.{ScheduledFileRow}

abbrev pub metadata_key : MetadataRow → List ℕ
metadata_key r = r.key

abbrev pub snapshot_key : SnapshotRow → List ℕ
snapshot_key r = r.snapshot_id ∷ []

abbrev pub snapshot_changes_key : SnapshotChangesRow → List ℕ
snapshot_changes_key r = r.snapshot_id ∷ []

abbrev pub schema_key : SchemaRow → List ℕ
schema_key r = r.schema_id ∷ []

abbrev pub table_key : TableRow → List ℕ
table_key r = r.table_id ∷ []

abbrev pub column_key : ColumnRow → List ℕ
column_key r = r.table_id ∷ r.column_id ∷ r.begin_snapshot ∷ []

abbrev pub data_file_key : DataFileRow → List ℕ
data_file_key r = r.data_file_id ∷ []

abbrev pub delete_file_key : DeleteFileRow → List ℕ
delete_file_key r = r.delete_file_id ∷ []

abbrev pub file_column_stats_key : FileColumnStatsRow → List ℕ
file_column_stats_key r = r.data_file_id ∷ r.column_id ∷ []

abbrev pub table_stats_key : TableStatsRow → List ℕ
table_stats_key r = r.table_id ∷ []

abbrev pub inlined_row_key : InlinedRow → List ℕ
inlined_row_key r = r.table_id ∷ r.row_id ∷ r.begin_snapshot ∷ []

abbrev pub scheduled_file_key : ScheduledFileRow → List ℕ
scheduled_file_key r = r.path
