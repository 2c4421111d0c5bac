-- What the catalogue says of a file, and when the file is so.
use Rattle.std.specs.Prelude.{◌≡◌, ◌<◌, ◌==◌, ℕ, true, List, [], ◌∷◌, filter, length, Some, None, IfSome}
use Rattle.std.specs.List.{AllByRecursion, AllZip}
use Rattle.lake_types.specs.declared.sheet.Sheet.{Sheet}
use Rattle.lake_types.specs.declared.sheet.SheetColumn.{SheetColumn}
use Rattle.lake_types.specs.declared.value.Column.{Column}
use Rattle.lake_types.specs.declared.value.Value.{Value}
use Rattle.lake_model.specs.Apply.{Cells}
use Rattle.inline_rows.specs.Laws.{Spells}
use Rattle.col_stats.specs.Stats.{IsCount}
use Rattle.field_map.specs.Laid.{first_fault}
use Rattle.sheet_rows.specs.Sheets.{is_data, sheet_weight}
use Rattle.sheet_rows.specs.Live.{deleted_in, laid_rows}
use Rattle.cat_tables.specs.Table.{row_of}
use Rattle.cat_tables.specs.Validity.{is_visible}
use Rattle.cat_rows.specs.Keys.{data_file_key}
use Rattle.cat_rows.specs.Seen.{seen_at}
use Rattle.cat_rows.specs.Tables.{Tables}
use Rattle.cat_rows.specs.Validities.{data_file_validity}
use Rattle.cat_rows.specs.declared.files.DataFileRow.{DataFileRow}
use Rattle.cat_rows.specs.declared.files.DeleteFileRow.{DeleteFileRow}
use Rattle.cat_rows.specs.declared.files.FileColumnStatsRow.{FileColumnStatsRow}
use Rattle.cat_rows.specs.declared.files.TableStatsRow.{TableStatsRow}
use Rattle.cat_rows.specs.declared.history.SnapshotRow.{SnapshotRow}
use Rattle.cat_rows.specs.declared.inlined.InlinedRow.{InlinedRow}
use Rattle.cat_texts.specs.Spelled.{IsColumnOf}
use Rattle.cat_view.specs.Files.{Filed, Files}
use Rattle.cat_view.specs.Sight.{column_rows, stats_row}

-- a file of this name is there, with this size and a sheet
pub record IsThere (files : Files) (name : List ℕ) (size : ℕ) (sheet : Sheet) : Type 0 where
  pub filed : Filed
  pub there : files name ≡ Some filed
  pub size_is : length filed.bytes ≡ size
  pub sheet_is : filed.sheet ≡ Some sheet

-- ---- statistics

abbrev pub file_stats : Tables → ℕ → List FileColumnStatsRow
file_stats t id = filter (λ (r : FileColumnStatsRow). r.data_file_id == id) t.file_column_stats

-- a statistics row counts the cells of the column that it is of
pub record Counts (c : SheetColumn) (r : FileColumnStatsRow) : Type 0 where
  pub field : c.field ≡ Some r.column_id
  pub counted : IsCount c.cells r.null_count r.min_value r.max_value

-- ---- data files

-- where a snapshot sees the file, its sheet can be laid into the columns that its table has there
abbrev pub CanBeLaid : Tables → DataFileRow → Sheet → SnapshotRow → Type 0
CanBeLaid t f sheet s =
    is_visible data_file_validity s.snapshot_id f ≡ true → (columns : List Column)
    → AllZip IsColumnOf (column_rows f.table_id (seen_at s.snapshot_id t).column) columns → first_fault sheet.columns columns ≡ None

-- a field id is below the next one of the table, where that has statistics
abbrev pub IsBelowFields : Tables → ℕ → ℕ → Type 0
IsBelowFields t table field = IfSome (stats_row t table) (λ (r : TableStatsRow). field < r.next_field_id)

abbrev pub HasFieldBelow : Tables → ℕ → SheetColumn → Type 0
HasFieldBelow t table c = IfSome c.field (IsBelowFields t table)

-- A data file is there with the stated size, rows and weight. It can be laid at each kept snapshot that sees it, and each
-- of its rows has an id. Its statistics count each of its columns but that of row ids, whose field ids are below the
-- table's next one.
pub record IsDataFile (t : Tables) (files : Files) (f : DataFileRow) : Type 0 where
  pub sheet : Sheet
  pub there : IsThere files f.path f.file_size_bytes sheet
  pub rows : sheet.rows ≡ f.record_count
  pub weight : sheet_weight sheet ≡ f.weight
  pub laid : AllByRecursion (CanBeLaid t f sheet) t.snapshot
  pub has_ids : laid_rows f.row_id_start [] sheet ≡ None → ⊥
  pub counts : AllZip Counts (filter is_data sheet.columns) (file_stats t f.data_file_id)
  pub fields : AllByRecursion (HasFieldBelow t f.table_id) (filter is_data sheet.columns)

-- ---- delete files

-- A delete file is there with the stated size, and lists as many places as stated of its data file, which is there too.
pub record IsDeleteFile (t : Tables) (files : Files) (d : DeleteFileRow) : Type 0 where
  pub sheet : Sheet
  pub there : IsThere files d.path d.file_size_bytes sheet
  pub data_file : DataFileRow
  pub of_file : row_of data_file_key (d.data_file_id ∷ []) t.data_file ≡ Some data_file
  pub places : List ℕ
  pub lists : deleted_in (record { path = data_file.path; rows = data_file.record_count; count = d.delete_count }) sheet ≡ Some places

-- ---- inlined rows

abbrev pub HasCellBelow : Tables → ℕ → ℕ × Value → Type 0
HasCellBelow t table cell = IsBelowFields t table cell.0

-- the field ids of an inlined row's cells are below the next one of its table
abbrev pub HasFields : Tables → InlinedRow → Type 0
HasFields t r = (cells : Cells) → Spells r.cells cells → AllByRecursion (HasCellBelow t r.table_id) cells
