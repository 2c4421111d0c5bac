-- The rows that an own list inserts into a table, each by its place among them.
use Rattle.std.specs.Prelude.{◌+◌, ℕ, Bool, List, [], ◌∷◌, filter, map, Option}
use Rattle.lake_types.specs.Cells.{cell_at, laid_cells}
use Rattle.lake_types.specs.declared.value.Column.{Column}
use Rattle.lake_types.specs.declared.value.Row.{Row}
use Rattle.lake_model.specs.Apply.{Cells}
use Rattle.lake_model.specs.Rows.{SeenRow, places}
use Rattle.lake_model.specs.declared.change.RowRef.{RowRef}
use Rattle.lake_model.specs.declared.change.RowRef.TheVariants as row_ref
use Rattle.pred.specs.Bound.{bound_chooses}
use Rattle.pred.specs.declared.bound.Bound.{Bound}
use Rattle.scan_exec.specs.Chosen.{told_row}

-- a row with the id that it gets behind those before it
abbrev pub own_row : List Column → ℕ → ℕ → Cells → SeenRow
own_row columns next place cells = record { at = row_ref.Fresh place; id = next + place; cells = laid_cells columns cells }

abbrev pub own_rows : List Column → ℕ → ℕ → List Cells → List SeenRow
own_rows columns next place [] = []
own_rows columns next place (cells ∷ more) = own_row columns next place cells ∷ own_rows columns next (place + 1) more

-- those that a bound test chooses
abbrev pub is_seen_chosen : Option Bound → SeenRow → Bool
is_seen_chosen bound r = bound_chooses bound (cell_at r.cells)

abbrev pub rows_told : Option Bound → List ℕ → List SeenRow → List Row
rows_told bound fields rows = map (told_row fields) (filter (is_seen_chosen bound) rows)

abbrev pub refs_told : Option Bound → List SeenRow → List RowRef
refs_told bound rows = places (filter (is_seen_chosen bound) rows)
