-- How the rows of a table stand in a file, which has its cells by columns, and how a file's columns read as rows.
use Rattle.std.specs.Prelude.{◌≡◌, ℕ, ◌+◌, ◌*◌, ◌==◌, not, Bool, true, false, pos, List, [], ◌∷◌, ◌++◌, All, map, length, codes, Option, Some, None, option_map, option_and_then, unwrap_or, if◌then◌else◌}
use Rattle.std.specs.List.{filter_map, range_with_len, slice_get, sum_by}
use Rattle.col_stats.specs.Stats.{AreStats, Fits, HasTexts}
use Rattle.col_stats.specs.declared.stats.ColStats.{ColStats}
use Rattle.lake_model.specs.Apply.{Cells}
use Rattle.lake_types.specs.Cells.{cell_at}
use Rattle.lake_types.specs.Weights.{weight}
use Rattle.lake_types.specs.declared.limits.TheConstants.{MAX_FIELD}
use Rattle.lake_types.specs.declared.sheet.Sheet.{Sheet}
use Rattle.lake_types.specs.declared.sheet.SheetColumn.{SheetColumn}
use Rattle.lake_types.specs.declared.value.ColType.TheVariants as ty
use Rattle.lake_types.specs.declared.value.Column.{Column}
use Rattle.lake_types.specs.declared.value.Value.{Value}
use Rattle.lake_types.specs.declared.value.Value.TheVariants as value

-- ---- rows as a sheet

-- a row's cell in a column; the initial default where it lacks one
abbrev pub file_cell : Column → Cells → Value
file_cell column cells = unwrap_or (cell_at cells column.field) column.initial

abbrev pub file_column : List Cells → Column → SheetColumn
file_column rows column = record { field = Some column.field; name = column.name; ty = column.ty; optional = true; cells = map (file_cell column) rows }

-- the sheet of a table's rows: its columns in order, each with a cell for each row
abbrev pub sheet_of : List Column → List Cells → Sheet
sheet_of columns rows = record { columns = map (file_column rows) columns; rows = length rows }

-- the column of row ids, which has the largest field id
abbrev pub id_column : List ℕ → SheetColumn
id_column ids = record {
  field = Some MAX_FIELD;
  name = codes "_ducklake_internal_row_id";
  ty = ty.Int64;
  optional = false;
  cells = map (λ id. value.Int (pos id)) ids;
}

-- the sheet of rows that keep their ids: the column of row ids is the last
abbrev pub sheet_with_ids : List Column → List ℕ → List Cells → Sheet
sheet_with_ids columns ids rows = record { columns = map (file_column rows) columns ++ id_column ids ∷ []; rows = length rows }

-- ---- a sheet as rows

-- a column has a cell for each of so many rows
abbrev pub HasCells : ℕ → SheetColumn → Type 0
HasCells rows column = length column.cells ≡ rows

-- what a row has in a column; nothing where the column is known by no field id, or has no cell there
abbrev pub cell_of : ℕ → SheetColumn → Option (ℕ × Value)
cell_of row column = option_and_then (λ field. option_map (λ v. (field, v)) (slice_get column.cells row)) column.field

abbrev pub row_cells : List SheetColumn → ℕ → Cells
row_cells columns row = filter_map (cell_of row) columns

abbrev pub cells_of : Sheet → List Cells
cells_of sheet = map (row_cells sheet.columns) (range_with_len 0 sheet.rows)

-- ---- weights

-- All columns but that of row ids hold data.
abbrev pub is_of_ids : Option ℕ → Bool
is_of_ids None = false
is_of_ids (Some field) = field == MAX_FIELD

abbrev pub is_data : SheetColumn → Bool
is_data column = not (is_of_ids column.field)

abbrev pub column_weight : SheetColumn → ℕ
column_weight column = sum_by weight column.cells

abbrev pub data_weight : SheetColumn → ℕ
data_weight column = if is_data column then column_weight column else 0

-- a file's weight: 16 for each row, and its cells, without the row ids
abbrev pub sheet_weight : Sheet → ℕ
sheet_weight sheet = 16 * sheet.rows + sum_by data_weight sheet.columns

-- ---- statistics

-- the sheet's column is that of a table's column, and its cells fit
pub record IsColumnOf (column : Column) (laid : SheetColumn) : Type 0 where
  pub field : laid.field ≡ Some column.field
  pub cells : All (Fits column.ty) laid.cells

-- the statistics of a column's cells, whose bounds have texts
pub record AreCounts (laid : SheetColumn) (stats : ColStats) : Type 0 where
  pub field : laid.field ≡ Some stats.field
  pub counted : AreStats laid.cells stats
  pub texts : HasTexts stats
