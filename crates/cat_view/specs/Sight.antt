-- The version that a snapshot of the catalogue sees.
use Rattle.std.specs.Prelude.{◌≡◌, ◌==◌, ℕ, Bool, List, [], ◌∷◌, filter, find, map, Option, Some, option_map}
use Rattle.std.specs.List.{AllZip}
use Rattle.lake_types.specs.declared.kind.SchemaName.{SchemaName}
use Rattle.lake_types.specs.declared.value.Column.{Column}
use Rattle.lake_types.specs.declared.value.Row.{Row}
use Rattle.lake_types.specs.Cells.{laid_cells}
use Rattle.lake_model.specs.Apply.{Cells}
use Rattle.inline_rows.specs.Laws.{Spells}
use Rattle.cat_tables.specs.Table.{row_of}
use Rattle.cat_rows.specs.Keys.{table_stats_key}
use Rattle.cat_rows.specs.Seen.{Seen, seen_at}
use Rattle.cat_rows.specs.Tables.{Tables}
use Rattle.cat_rows.specs.declared.schemas.SchemaRow.{SchemaRow}
use Rattle.cat_rows.specs.declared.schemas.TableRow.{TableRow}
use Rattle.cat_rows.specs.declared.schemas.ColumnRow.{ColumnRow}
use Rattle.cat_rows.specs.declared.files.DataFileRow.{DataFileRow}
use Rattle.cat_rows.specs.declared.files.DeleteFileRow.{DeleteFileRow}
use Rattle.cat_rows.specs.declared.files.TableStatsRow.{TableStatsRow}
use Rattle.cat_rows.specs.declared.inlined.InlinedRow.{InlinedRow}
use Rattle.cat_texts.specs.Spelled.{IsColumnOf}
use Rattle.cat_view.specs.Named.{NamedDeletes, NamedFile, NamedTable, NamedVersion, ordered}

-- ---- the rows of one table that a snapshot sees

abbrev pub is_in_table : ℕ → ColumnRow → Bool
is_in_table table r = r.table_id == table

-- the columns' rows, in the columns' order
abbrev pub column_rows : ℕ → List ColumnRow → List ColumnRow
column_rows table rows = ordered (λ (r : ColumnRow). r.column_order) (filter (is_in_table table) rows)

abbrev pub data_rows : ℕ → List DataFileRow → List DataFileRow
data_rows table rows = filter (λ (f : DataFileRow). f.table_id == table) rows

abbrev pub inlined_rows : ℕ → List InlinedRow → List InlinedRow
inlined_rows table rows = filter (λ (r : InlinedRow). r.table_id == table) rows

-- the delete file of a data file
abbrev pub delete_row : List DeleteFileRow → ℕ → Option DeleteFileRow
delete_row rows id = find (λ (d : DeleteFileRow). d.data_file_id == id) rows

-- the statistics of a table
abbrev pub stats_row : Tables → ℕ → Option TableStatsRow
stats_row t id = row_of table_stats_key (id ∷ []) t.table_stats

-- ---- what they say

abbrev pub schema_of : SchemaRow → SchemaName
schema_of r = record { id = r.schema_id; name = r.schema_name }

abbrev pub deletes_of : DeleteFileRow → NamedDeletes
deletes_of d = record { id = d.delete_file_id; name = d.path; count = d.delete_count }

-- a data file, with its delete file
abbrev pub file_with : Option DeleteFileRow → DataFileRow → NamedFile
file_with d f = record {
  id = f.data_file_id;
  name = f.path;
  rows = f.record_count;
  weight = f.weight;
  first_row = f.row_id_start;
  deletes = option_map deletes_of d;
}

-- a data file, with the delete file that the snapshot sees of it
abbrev pub file_of : List DeleteFileRow → DataFileRow → NamedFile
file_of deletes f = file_with (delete_row deletes f.data_file_id) f

-- an inlined row is a row, laid into the table's columns
pub record IsInlined (columns : List Column) (r : InlinedRow) (row : Row) : Type 0 where
  pub cells : Cells
  pub spelled : Spells r.cells cells
  pub laid : row ≡ record { id = r.row_id; cells = laid_cells columns cells }

pub record IsTableAt (seen : Seen) (r : TableRow) (x : NamedTable) : Type 0 where
  pub id : x.id ≡ r.table_id
  pub schema : x.schema ≡ r.schema_id
  pub name : x.name ≡ r.table_name
  pub columns : AllZip IsColumnOf (column_rows r.table_id seen.column) x.columns
  pub files : x.files ≡ map (file_of seen.delete_file) (data_rows r.table_id seen.data_file)
  pub inlined : AllZip (IsInlined x.columns) (inlined_rows r.table_id seen.inlined_row) x.inlined

-- The version that these rows are, but for the counters of its tables.
pub record IsVersionOf (seen : Seen) (v : NamedVersion) : Type 0 where
  pub schemas : v.schemas ≡ map schema_of seen.schema
  pub tables : AllZip (IsTableAt seen) seen.table v.tables

-- what snapshot s sees
abbrev pub IsVersionAt : Tables → ℕ → NamedVersion → Type 0
IsVersionAt t s v = IsVersionOf (seen_at s t) v

-- ---- counters

-- A table has the counters of its statistics, which are those of the newest snapshot that sees it.
pub record HasCounters (t : Tables) (x : NamedTable) : Type 0 where
  pub row : TableStatsRow
  pub there : stats_row t x.id ≡ Some row
  pub next_row : x.next_row ≡ row.next_row_id
  pub next_field : x.next_field ≡ row.next_field_id
