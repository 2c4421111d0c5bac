-- All rows of the catalogue, those of each table rising by key.
use Rattle.std.specs.Prelude.{List, []}
use Rattle.cat_rows.specs.declared.history.MetadataRow.{MetadataRow}
use Rattle.cat_rows.specs.declared.history.SnapshotRow.{SnapshotRow}
use Rattle.cat_rows.specs.declared.history.SnapshotChangesRow.{SnapshotChangesRow}
use Rattle.cat_rows.specs.declared.schemas.SchemaRow.{SchemaRow}
use Rattle.cat_rows.specs.declared.schemas.TableRow.{TableRow}
use Rattle.cat_rows.specs.declared.schemas.ColumnRow.{ColumnRow}
use Rattle.cat_rows.specs.declared.files.DataFileRow.{DataFileRow}
use Rattle.cat_rows.specs.declared.files.DeleteFileRow.{DeleteFileRow}
use Rattle.cat_rows.specs.declared.files.FileColumnStatsRow.{FileColumnStatsRow}
use Rattle.cat_rows.specs.declared.files.TableStatsRow.{TableStatsRow}
use Rattle.cat_rows.specs.declared.inlined.InlinedRow.{InlinedRow}
use Rattle.cat_rows.specs.declared.files.ScheduledFileRow.{ScheduledFileRow}

pub record Tables : Type 0 where
  pub metadata : List MetadataRow
  pub snapshot : List SnapshotRow
  pub snapshot_changes : List SnapshotChangesRow
  pub schema : List SchemaRow
  pub table : List TableRow
  pub column : List ColumnRow
  pub data_file : List DataFileRow
  pub delete_file : List DeleteFileRow
  pub file_column_stats : List FileColumnStatsRow
  pub table_stats : List TableStatsRow
  pub inlined_row : List InlinedRow
  pub scheduled_file : List ScheduledFileRow

abbrev pub no_rows : Tables
no_rows = record { metadata = []; snapshot = []; snapshot_changes = []; schema = []; table = []; column = []; data_file = []; delete_file = []; file_column_stats = []; table_stats = []; inlined_row = []; scheduled_file = [] }
