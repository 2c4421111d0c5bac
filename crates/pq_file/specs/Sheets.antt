-- What a sound sheet is.
use Rattle.std.specs.Prelude.{◌≡◌, ◌≢◌, ◌≤◌, ℕ, All, AllPairs, IfSome, false}
use Rattle.lake_types.specs.declared.limits.TheConstants.{MAX_FIELD, MAX_FILE_ROWS}
use Rattle.lake_types.specs.declared.sheet.Sheet.{Sheet}
use Rattle.lake_types.specs.declared.sheet.SheetColumn.{SheetColumn}
use Rattle.lake_types.specs.declared.value.Value.TheVariants as value
use Rattle.pq_file.specs.Writable.{HasCells, HasTexts, IsCell, OtherField}

-- a cell for each row, each of which the column may hold, and a field id that a file can state
pub record IsSoundColumn (rows : ℕ) (column : SheetColumn) : Type 0 where
  pub count : HasCells rows column
  pub cells : All (IsCell column.ty) column.cells
  pub required : column.optional ≡ false → All (λ cell. cell ≢ value.Null) column.cells
  pub field : IfSome column.field (λ id. id ≤ MAX_FIELD)

pub record IsSound (sheet : Sheet) : Type 0 where
  pub few_rows : sheet.rows ≤ MAX_FILE_ROWS
  pub columns : All (IsSoundColumn sheet.rows) sheet.columns
  pub fields : AllPairs OtherField sheet.columns
  pub texts : HasTexts sheet
