-- The rows of a sheet, laid into columns by field id.
use Rattle.std.specs.Prelude.{◌≡◌, ℕ, Bool, true, false, ◌==◌, ◌||◌, List, [], ◌∷◌, map, Option, Some, None, option_and_then, if◌then◌else◌}
use Rattle.std.specs.Option.{option_map, option_or}
use Rattle.std.specs.List.{filter_map, slice_get, range_with_len}
use Rattle.lake_types.specs.Cells.{laid_cells}
use Rattle.lake_types.specs.Fits.{promotes}
use Rattle.lake_types.specs.declared.sheet.Sheet.{Sheet}
use Rattle.lake_types.specs.declared.sheet.SheetColumn.{SheetColumn}
use Rattle.lake_types.specs.declared.value.ColType.{ColType}
use Rattle.lake_types.specs.declared.value.ColType.TheVariants as ty
use Rattle.lake_types.specs.declared.value.Column.{Column}
use Rattle.lake_types.specs.declared.value.Row.{Row}
use Rattle.lake_types.specs.declared.value.Value.{Value}
use Rattle.field_map.specs.declared.fault.LayFault.{LayFault}
use Rattle.field_map.specs.declared.fault.LayFault.TheVariants as fault

-- ---- cells

-- whether a column of a sheet is that of a field; one without a field id is that of none
abbrev pub is_of : Option ℕ → ℕ → Bool
is_of None field = false
is_of (Some id) field = id == field

-- the sheet's column of a field
abbrev pub column_of : List SheetColumn → ℕ → Option SheetColumn
column_of [] field = None
column_of (column ∷ columns) field = if is_of column.field field then Some column else column_of columns field

-- what a row, counted from 0, has in a field of the sheet
abbrev pub value_in : List SheetColumn → ℕ → ℕ → Option Value
value_in sheet row field = option_and_then (λ column. slice_get column.cells row) (column_of sheet field)

-- the cell that a row of the sheet has for a column
abbrev pub found_cell : List SheetColumn → ℕ → Column → Option (ℕ × Value)
found_cell sheet row column = option_map (λ v. (column.field, v)) (value_in sheet row column.field)

-- the cells that a row of the sheet has for the columns
abbrev pub found_cells : List SheetColumn → List Column → ℕ → List (ℕ × Value)
found_cells sheet columns row = filter_map (found_cell sheet row) columns

-- the column at a place that may be none
abbrev pub column_at : List SheetColumn → Option ℕ → Option SheetColumn
column_at sheet place = option_and_then (slice_get sheet) place

-- these are the places of the columns' fields
abbrev pub ArePlaces : List SheetColumn → List Column → List (Option ℕ) → Type 0
ArePlaces sheet columns places = map (column_at sheet) places ≡ map (λ (column : Column). column_of sheet column.field) columns

-- ---- rows

-- a row's cells, laid into the columns; its id is its place
abbrev pub laid_row : List SheetColumn → List Column → ℕ → Row
laid_row sheet columns i = record { id = i; cells = laid_cells columns (found_cells sheet columns i) }

abbrev pub laid : List Column → Sheet → List Row
laid columns sheet = map (laid_row sheet.columns columns) (range_with_len 0 sheet.rows)

-- ---- types

abbrev pub is_same : ColType → ColType → Bool
is_same ty.Bool ty.Bool = true
is_same ty.Int8 ty.Int8 = true
is_same ty.Int16 ty.Int16 = true
is_same ty.Int32 ty.Int32 = true
is_same ty.Int64 ty.Int64 = true
is_same ty.Varchar ty.Varchar = true
is_same ty.Blob ty.Blob = true
is_same ty.Date ty.Date = true
is_same have want = false

-- whether values of the first type may stand in a column of the second
abbrev pub agrees : ColType → ColType → Bool
agrees have want = is_same have want || promotes have want

-- a column's fault: the sheet has this field, and its values may not stand in the column
abbrev pub fault_of : List SheetColumn → Column → Option LayFault
fault_of sheet column =
    option_and_then (λ have. if agrees have.ty column.ty then None else Some (fault.Kind column.field have.ty column.ty))
    (column_of sheet column.field)

-- the first column in order that has a fault decides
abbrev pub first_fault : List SheetColumn → List Column → Option LayFault
first_fault sheet [] = None
first_fault sheet (column ∷ columns) = option_or (fault_of sheet column) (first_fault sheet columns)
