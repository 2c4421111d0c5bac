-- The rows of a sheet that lies by columns, one by one.
use Rattle.std.specs.Prelude.{◌+◌, ◌<◌, ◌^◌, ℕ, List, All, map, Option, option_and_then, unwrap_or}
use Rattle.std.specs.List.{range_with_len, slice_get}
use Rattle.field_map.specs.Laid.{ArePlaces}
use Rattle.field_map.specs.Steps.{cell}
use Rattle.lake_types.specs.declared.sheet.Sheet.{Sheet}
use Rattle.lake_types.specs.declared.sheet.SheetColumn.{SheetColumn}
use Rattle.lake_types.specs.declared.value.Column.{Column}
use Rattle.lake_types.specs.declared.value.Row.{Row}
use Rattle.sheet_rows.specs.Live.{number_in}
use Rattle.sheet_rows.specs.declared.ids.RowIds.{RowIds}
use Rattle.sheet_rows.specs.declared.ids.RowIds.TheVariants as ids
use Rattle.sheet_rows.specs.declared.places.Kept.{Kept}
use Rattle.sheet_rows.specs.declared.places.Kept.TheVariants as kept

-- the places of the rows that are there
abbrev pub places_of : Kept → ℕ → List ℕ
places_of kept.All rows = range_with_len 0 rows
places_of (kept.These places) rows = places

-- the number that stands in a row of the sheet's column at a place
abbrev pub number_at : List SheetColumn → ℕ → ℕ → Option ℕ
number_at sheet at row = option_and_then (λ (c : SheetColumn). option_and_then number_in (slice_get c.cells row)) (slice_get sheet at)

-- the id of a row: counted from a start, or as it stands in the column of row ids
abbrev pub id_at : RowIds → List SheetColumn → ℕ → ℕ
id_at (ids.Start first) sheet row = first + row
id_at (ids.Column at) sheet row = unwrap_or (number_at sheet at row) 0

abbrev pub row_at : RowIds → List Column → List SheetColumn → ℕ → Row
row_at from columns sheet place = record { id = id_at from sheet place; cells = map (cell sheet place) columns }

abbrev pub rows_of : RowIds → Kept → List Column → Sheet → List Row
rows_of from those columns sheet = map (row_at from columns sheet.columns) (places_of those sheet.rows)

-- ids that count from a start stay below 2 to the 64
abbrev pub AreSmall : RowIds → ℕ → Type 0
AreSmall (ids.Start first) rows = first + rows < 2 ^ 64
AreSmall (ids.Column at) rows = Unit {0}

-- where the sheet has each column is known, and each place is a row's
pub record AreKnown (sheet : Sheet) (wanted : List Column) (at : List (Option ℕ)) (from : RowIds) (those : Kept) : Type 0 where
  pub columns : ArePlaces sheet.columns wanted at
  pub ids : AreSmall from sheet.rows
  pub places : All (λ place. place < sheet.rows) (places_of those sheet.rows)
