-- Values of their columns' types, whose bytes are bytes.
use Rattle.std.specs.Prelude.{◌≡◌, ℕ, List, filter, length, Some, All}
use Rattle.std.specs.List.{AllByRecursion}
use Rattle.lake_types.specs.Texts.{HoldsBytes}
use Rattle.lake_types.specs.declared.sheet.Sheet.{Sheet}
use Rattle.lake_types.specs.declared.sheet.SheetColumn.{SheetColumn}
use Rattle.lake_types.specs.declared.value.ColType.{ColType}
use Rattle.lake_types.specs.declared.value.Column.{Column}
use Rattle.lake_types.specs.declared.value.Value.{Value}
use Rattle.col_stats.specs.Stats.{Fits}
use Rattle.sheet_rows.specs.Sheets.{is_data}
use Rattle.cat_view.specs.Files.{Files, sheet_at}

-- a value of the type, whose bytes, if it has any, are bytes
pub record IsOf (ty : ColType) (v : Value) : Type 0 where
  pub fits : Fits ty v
  pub bytes : HoldsBytes v

-- a column has so many cells, all of its type
pub record IsTyped (rows : ℕ) (c : SheetColumn) : Type 0 where
  pub count : length c.cells ≡ rows
  pub cells : All (IsOf c.ty) c.cells

-- what a file of this name holds is of its columns' types
abbrev pub HoldsTyped : Files → List ℕ → Type 0
HoldsTyped files name = (sheet : Sheet) → sheet_at files name ≡ Some sheet → AllByRecursion (IsTyped sheet.rows) (filter is_data sheet.columns)

-- the bytes of a column's defaults are bytes
pub record HasBytes (c : Column) : Type 0 where
  pub initial : HoldsBytes c.initial
  pub default_value : HoldsBytes c.default_value
