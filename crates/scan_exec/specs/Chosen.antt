-- Which rows of a table a SELECT tells, and which of their cells.
use Rattle.std.specs.Prelude.{ℕ, List, map, Option, Some, None, option_map, unwrap_or}
use Rattle.std.specs.List.{filter_map}
use Rattle.lake_types.specs.Cells.{cell_at, column_named}
use Rattle.lake_types.specs.declared.pred.Pred.{Pred}
use Rattle.lake_types.specs.declared.value.Column.{Column}
use Rattle.lake_types.specs.declared.value.Row.{Row}
use Rattle.lake_types.specs.declared.value.Value.{Value}
use Rattle.lake_types.specs.declared.value.Value.TheVariants as value
use Rattle.lake_model.specs.Apply.{Cells, Draft}
use Rattle.lake_model.specs.Rows.{SeenRow, chosen, places}
use Rattle.lake_model.specs.declared.change.RowRef.{RowRef}

-- ---- cells

-- the fields of the columns that are named, in the order of the names
abbrev pub field_named : List Column → List ℕ → Option ℕ
field_named columns name = option_map (λ (c : Column). c.field) (column_named columns name)

abbrev pub fields_named : List Column → List (List ℕ) → List ℕ
fields_named columns names = filter_map (field_named columns) names

-- those that are told: of the columns that are named, or of all columns
abbrev pub fields_told : List Column → Option (List (List ℕ)) → List ℕ
fields_told columns None = map (λ (c : Column). c.field) columns
fields_told columns (Some names) = fields_named columns names

-- the cells of some fields, where this gives the cell of each field; one that the row lacks is NULL
abbrev pub told_cell : (ℕ → Option Value) → ℕ → ℕ × Value
told_cell cell field = (field, unwrap_or (cell field) value.Null)

abbrev pub picked : List ℕ → (ℕ → Option Value) → Cells
picked fields cell = map (told_cell cell) fields

-- ---- rows

-- a row with these cells alone
abbrev pub told_row : List ℕ → SeenRow → Row
told_row fields r = record { id = r.id; cells = picked fields (cell_at r.cells) }

-- the rows of a table for which the test is true, with the cells of the named columns, or of all
abbrev pub rows_of : Draft → Option Pred → Option (List (List ℕ)) → List Row
rows_of d test names = map (told_row (fields_told d.columns names)) (chosen test d)

-- their references
abbrev pub refs_of : Draft → Option Pred → List RowRef
refs_of d test = places (chosen test d)
