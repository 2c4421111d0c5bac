-- The steps by which a row is laid: what each column's cell is, where its place in the sheet is known.
use Rattle.std.specs.Prelude.{ℕ, List, Option, Some, None}
use Rattle.std.specs.Option.{unwrap_or}
use Rattle.std.specs.List.{slice_get}
use Rattle.lake_types.specs.declared.sheet.SheetColumn.{SheetColumn}
use Rattle.lake_types.specs.declared.value.Column.{Column}
use Rattle.lake_types.specs.declared.value.Value.{Value}
use Rattle.field_map.specs.Laid.{column_of}

-- what a row has in a column of the sheet; else the initial default
abbrev pub value_at : Option SheetColumn → ℕ → Value → Value
value_at None row initial = initial
value_at (Some column) row initial = unwrap_or (slice_get column.cells row) initial

-- a column's cell in a row: that of the sheet's column of its field, or the initial default where there is none
abbrev pub cell : List SheetColumn → ℕ → Column → ℕ × Value
cell sheet row column = (column.field, value_at (column_of sheet column.field) row column.initial)
