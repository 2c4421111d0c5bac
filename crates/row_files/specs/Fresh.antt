-- A table's fresh rows, as one data file can hold them.
use Rattle.std.specs.Prelude.{◌≡◌, ◌≤◌, List, All, length}
use Rattle.std.specs.List.{sum_by}
use Rattle.lake_types.specs.Cells.{laid_cells}
use Rattle.lake_types.specs.Texts.{HoldsBytes}
use Rattle.lake_types.specs.Weights.{row_weight}
use Rattle.lake_types.specs.declared.limits.TheConstants.{MAX_FILE_ROWS, MAX_TXN_WEIGHT}
use Rattle.lake_types.specs.declared.sheet.SheetColumn.{SheetColumn}
use Rattle.lake_types.specs.declared.value.Column.{Column}
use Rattle.lake_model.specs.Apply.{Cells}
use Rattle.pq_file.specs.Writable.{IsCell}
use Rattle.sheet_rows.specs.Sheets.{file_cell}

-- cells are one for each column, in the columns' order
abbrev pub IsLaid : List Column → Cells → Type 0
IsLaid columns cells = laid_cells columns cells ≡ cells

-- a column may hold the cell that a row has in it
abbrev pub MayHold : Column → Cells → Type 0
MayHold column cells = IsCell column.ty (file_cell column cells)

-- fresh rows of a transaction, which all together may weigh no more
pub record AreFresh (columns : List Column) (rows : List Cells) : Type 0 where
  pub some : 1 ≤ length rows
  pub few : length rows ≤ MAX_FILE_ROWS
  pub laid : All (IsLaid columns) rows
  pub fit : All (λ (c : Column). All (MayHold c) rows) columns
  pub light : sum_by row_weight rows ≤ MAX_TXN_WEIGHT

-- the bytes of each cell of the columns are bytes
abbrev pub HoldAllBytes : List SheetColumn → Type 0
HoldAllBytes columns = All (λ (c : SheetColumn). All HoldsBytes c.cells) columns
