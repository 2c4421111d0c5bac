-- How the rows that a test chooses are picked by the fields of columns.
use Rattle.std.specs.Prelude.{◌≡◌, ℕ, Bool, List, [], ◌∷◌, filter, map, Option, Some, None, option_and_then, if◌then◌else◌}
use Rattle.std.specs.List.{slice_get}
use Rattle.lake_types.specs.Cells.{cell_at, cell_named, column_named}
use Rattle.lake_types.specs.Truth.{chooses}
use Rattle.lake_types.specs.declared.pred.Pred.{Pred}
use Rattle.lake_types.specs.declared.value.Column.{Column}
use Rattle.lake_types.specs.declared.value.Row.{Row}
use Rattle.lake_types.specs.declared.value.Value.{Value}
use Rattle.lake_model.specs.Apply.{Cells}
use Rattle.lake_model.specs.Rows.{TestFault, column_fault, fault_of_test, first_of}
use Rattle.pred.specs.Bound.{bound_chooses}
use Rattle.pred.specs.declared.bound.Bound.{Bound}
use Rattle.scan_exec.specs.Chosen.{picked}

-- ---- names and tests

-- a bound test chooses the rows that the test chooses
abbrev pub IsBound : List Column → Option Pred → Option Bound → Type 0
IsBound columns test bound =
    (cells : Cells) → bound_chooses bound (cell_at cells) ≡ chooses test (cell_named columns cells)

-- what is wrong with the names of columns, and behind them with a test: the first from the left
abbrev pub name_fault : List Column → List ℕ → Option TestFault
name_fault columns name = column_fault name (column_named columns name)

abbrev pub names_fault : List Column → List (List ℕ) → Option TestFault
names_fault columns names = first_of (map (name_fault columns) names)

abbrev pub told_fault : List Column → Option (List (List ℕ)) → Option TestFault
told_fault columns None = None
told_fault columns (Some names) = names_fault columns names

abbrev pub fault_of : List Column → Option (List (List ℕ)) → Option Pred → Option TestFault
fault_of columns names test = first_of (told_fault columns names ∷ fault_of_test columns test ∷ [])

-- ---- rows

-- a row with the cells of some fields alone, where it is chosen
abbrev pub row_if_chosen : Option Bound → List ℕ → ℕ → (ℕ → Option Value) → List Row
row_if_chosen bound fields id cell =
    if bound_chooses bound cell then record { id = id; cells = picked fields cell } ∷ [] else []

-- the same of each row
abbrev pub short_row : List ℕ → Row → Row
short_row fields r = record { id = r.id; cells = picked fields (cell_at r.cells) }

abbrev pub is_chosen : Option Bound → Row → Bool
is_chosen bound r = bound_chooses bound (cell_at r.cells)

abbrev pub short_rows : Option Bound → List ℕ → List Row → List Row
short_rows bound fields rows = map (short_row fields) (filter (is_chosen bound) rows)

-- the cell of a field in a row, by its number; none past the last one
abbrev pub cell_in : List Row → ℕ → ℕ → Option Value
cell_in rows at field = option_and_then (λ (r : Row). cell_at r.cells field) (slice_get rows at)

-- the id of a row
abbrev pub id_of : Row → ℕ
id_of r = r.id
