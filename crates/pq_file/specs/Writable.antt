-- Which sheets can be written.
use Rattle.std.specs.Prelude.{◌≡◌, ◌≢◌, ◌≤◌, ℕ, List, ◌⊎◌, length, All, AllPairs, IfSome, None, true, false}
use Rattle.std.specs.List.{sum_by}
use Rattle.std.specs.Str.{IsUtf8}
use Rattle.lake_types.specs.declared.limits.TheConstants.{MAX_CELL_BYTES, MAX_FIELD, MAX_FILE_ROWS, MAX_NAME_BYTES}
use Rattle.pq_meta.specs.declared.limits.TheConstants.{MAX_FILE_COLUMNS}
use Rattle.pq_file.specs.declared.limits.TheConstants.{MAX_SHEET_WEIGHT}
use Rattle.lake_types.specs.declared.sheet.Sheet.{Sheet}
use Rattle.lake_types.specs.declared.sheet.SheetColumn.{SheetColumn}
use Rattle.lake_types.specs.declared.value.ColType.{ColType}
use Rattle.lake_types.specs.declared.value.ColType.TheVariants as ty
use Rattle.lake_types.specs.declared.value.Value.{Value}
use Rattle.lake_types.specs.declared.value.Value.TheVariants as value
use Rattle.lake_types.specs.Fits.{fits}
use Rattle.lake_types.specs.Weights.{weight}

-- a cell's own bytes, where it has any, are not too many
abbrev pub IsShort : Value → Type 0
IsShort (value.Text x) = length x ≤ MAX_CELL_BYTES
IsShort (value.Bytes x) = length x ≤ MAX_CELL_BYTES
IsShort v = Unit {0}

-- a cell that a column may hold
pub record IsCell (t : ColType) (cell : Value) : Type 0 where
  pub short : IsShort cell
  pub fits : fits cell t ≡ true

-- a column that can be written
pub record IsColumn (column : SheetColumn) : Type 0 where
  pub cells : All (IsCell column.ty) column.cells
  pub required : column.optional ≡ false → All (λ cell. cell ≢ value.Null) column.cells
  pub name : length column.name ≤ MAX_NAME_BYTES
  pub field : IfSome column.field (λ id. id ≤ MAX_FIELD)

-- a column has a cell for each of so many rows
abbrev pub HasCells : ℕ → SheetColumn → Type 0
HasCells rows column = length column.cells ≡ rows

-- two columns are not known by the same field id
abbrev pub OtherField : SheetColumn → SheetColumn → Type 0
OtherField a b = (a.field ≡ None) ⊎ (a.field ≢ b.field)

-- the weight of a column's cells
abbrev pub column_weight : SheetColumn → ℕ
column_weight column = sum_by weight column.cells

-- a sheet that can be written
pub record IsWritable (sheet : Sheet) : Type 0 where
  pub few_rows : sheet.rows ≤ MAX_FILE_ROWS
  pub few_columns : length sheet.columns ≤ MAX_FILE_COLUMNS
  pub counts : All (HasCells sheet.rows) sheet.columns
  pub columns : All IsColumn sheet.columns
  pub fields : AllPairs OtherField sheet.columns
  pub light : sum_by column_weight sheet.columns ≤ MAX_SHEET_WEIGHT

-- ---- Texts are UTF-8. A contract sees a text as a list of numbers.

abbrev pub HasText : Value → Type 0
HasText (value.Text x) = IsUtf8 x
HasText v = Unit {0}

-- the cells of a column of texts
abbrev pub HoldTexts : ColType → List Value → Type 0
HoldTexts t cells = t ≡ ty.Varchar → All HasText cells

abbrev pub HasName : SheetColumn → Type 0
HasName column = IsUtf8 column.name

abbrev pub HasCellTexts : SheetColumn → Type 0
HasCellTexts column = HoldTexts column.ty column.cells

-- all texts of a sheet
pub record HasTexts (sheet : Sheet) : Type 0 where
  pub names : All HasName sheet.columns
  pub cells : All HasCellTexts sheet.columns
