-- The rows of a sheet, one by one.
use Rattle.std.proofs.Common.{refl, ◌≡◌, ◌<◌, ◌==◌, ℕ, suc, List, ◌∷◌, length, map, drop, get_or, All, Option, Some, drop-cons, sym, ap, subst, ◌∙◌, arith, []}
use Rattle.std.specs.List.{range_with_len, slice_index_or}
use Rattle.std.specs.Prelude.{if◌then◌else◌}
use Rattle.std.proofs.lemmas.List.{get_or-map, length-map}
use Rattle.std.proofs.lemmas.List.Elements.{All-head, All-map, All-tail}
use Rattle.std.proofs.lemmas.List.FromFn.{get_or-range_with_len, length-range_with_len}
use Rattle.field_map.proofs.LayLemmas.{same_at}
use Rattle.field_map.specs.Laid.{ArePlaces, column_at, column_of}
use Rattle.field_map.specs.Steps.{cell, value_at}
use Rattle.lake_types.specs.Cells.{cell_at}
use Rattle.lake_types.specs.declared.sheet.Sheet.{Sheet}
use Rattle.lake_types.specs.declared.sheet.SheetColumn.{SheetColumn}
use Rattle.lake_types.specs.declared.value.Column.{Column}
use Rattle.lake_types.specs.declared.value.Row.{Row}
use Rattle.sheet_rows.specs.Live.{left_from}
use Rattle.sheet_rows.specs.Rows.{AreKnown, AreSmall, places_of, row_at, rows_of}
use Rattle.sheet_rows.specs.declared.ids.RowIds.{RowIds}
use Rattle.sheet_rows.specs.declared.ids.RowIds.TheVariants as ids
use Rattle.sheet_rows.specs.declared.places.Kept.{Kept}
use Rattle.sheet_rows.specs.declared.places.Kept.TheVariants as kept
use Rattle.sheet_rows.proofs.PlaceLemmas.{All-left_from, map-left_from}

pub all_within : (rows : ℕ) → All (λ place. place < rows) (range_with_len 0 rows)
all_within rows k d lt =
    let short : k < rows = omega (arith, length-range_with_len 0 rows) in
    omega (arith, get_or-range_with_len 0 rows k d short)

pub count : (from : RowIds) (those : Kept) (columns : List Column) (sheet : Sheet) → length (rows_of from those columns sheet) ≡ length (places_of those sheet.rows)
count from those columns sheet = length-map (places_of those sheet.rows) (row_at from columns sheet.columns)

pub taken : (from : RowIds) (those : Kept) (columns : List Column) (sheet : Sheet) (at place : ℕ) (other : Row) → at < length (places_of those sheet.rows)
    → ((d : ℕ) → place ≡ slice_index_or (places_of those sheet.rows) at d) → slice_index_or (rows_of from those columns sheet) at other ≡ row_at from columns sheet.columns place
taken from those columns sheet at place other lt is =
    get_or-map (row_at from columns sheet.columns) (places_of those sheet.rows) at 0 other lt ∙ ap (row_at from columns sheet.columns) (sym (is 0))

pub small_at : (from : RowIds) (rows place : ℕ) → AreSmall from rows → place < rows → AreSmall from place
small_at (ids.Start first) rows place small lt = omega arith
small_at (ids.Column at) rows place small lt = tt

pub ruleset reads = (count, taken, small_at)

-- ---- what is left

pub left_known : (sheet : Sheet) (columns : List Column) (at : List (Option ℕ)) (from : RowIds) (those new : Kept) (gone : List ℕ) → AreKnown sheet columns at from those
    → new ≡ kept.These (left_from 0 gone (places_of those sheet.rows)) → AreKnown sheet columns at from new
left_known sheet columns at from those new gone known is = record {
  columns = known.columns;
  ids = known.ids;
  places = subst (λ k. All (λ place. place < sheet.rows) (places_of k sheet.rows)) (sym is) (All-left_from (λ place. place < sheet.rows) 0 gone (places_of those sheet.rows) known.places);
}

pub left_rows : (from : RowIds) (those new : Kept) (columns : List Column) (sheet : Sheet) (gone : List ℕ) → new ≡ kept.These (left_from 0 gone (places_of those sheet.rows))
    → rows_of from new columns sheet ≡ left_from 0 gone (rows_of from those columns sheet)
left_rows from those new columns sheet gone is =
    ap (λ k. rows_of from k columns sheet) is ∙ map-left_from (row_at from columns sheet.columns) 0 gone (places_of those sheet.rows)

pub ruleset left = (count, left_known, left_rows)

-- ---- those with some numbers

all_chosen : (places those : List ℕ) (rows : ℕ) → All (λ place. place < rows) places → All (λ at. at < length places) those → All (λ place. place < rows) (map (λ at. slice_index_or places at 0) those)
all_chosen places those rows within there = All-map (λ place. place < rows) (λ at. slice_index_or places at 0) those (λ k d lt. within (slice_index_or those k d) 0 (there k d lt))

pub only_known : (sheet : Sheet) (columns : List Column) (at : List (Option ℕ)) (from : RowIds) (those new : Kept) (numbers : List ℕ) → AreKnown sheet columns at from those
    → All (λ number. number < length (places_of those sheet.rows)) numbers → new ≡ kept.These (map (λ number. slice_index_or (places_of those sheet.rows) number 0) numbers)
    → AreKnown sheet columns at from new
only_known sheet columns at from those new numbers known there is = record {
  columns = known.columns;
  ids = known.ids;
  places = subst (λ k. All (λ place. place < sheet.rows) (places_of k sheet.rows)) (sym is) (all_chosen (places_of those sheet.rows) numbers sheet.rows known.places there);
}

each_chosen : {X : Type 0} (f : ℕ → X) (places numbers : List ℕ) (other : X) → All (λ number. number < length places) numbers
    → map f (map (λ number. slice_index_or places number 0) numbers) ≡ map (λ number. slice_index_or (map f places) number other) numbers
each_chosen f places [] other there = refl
each_chosen f places (n ∷ numbers) other there =
    let lt : n < length places = All-head (λ number. number < length places) n numbers there in
    ap (λ x. x ∷ map f (map (λ number. slice_index_or places number 0) numbers)) (sym (get_or-map f places n 0 other lt))
    ∙ ap (λ l. slice_index_or (map f places) n other ∷ l) (each_chosen f places numbers other (All-tail (λ number. number < length places) n numbers there))

pub only_rows : (from : RowIds) (those new : Kept) (columns : List Column) (sheet : Sheet) (numbers : List ℕ) (other : Row) → All (λ number. number < length (places_of those sheet.rows)) numbers
    → new ≡ kept.These (map (λ number. slice_index_or (places_of those sheet.rows) number 0) numbers)
    → rows_of from new columns sheet ≡ map (λ number. slice_index_or (rows_of from those columns sheet) number other) numbers
only_rows from those new columns sheet numbers other there is =
    ap (λ k. rows_of from k columns sheet) is ∙ each_chosen (row_at from columns sheet.columns) (places_of those sheet.rows) numbers other there

-- ---- the cell of a field

pub value_is : (sheet : List SheetColumn) (columns : List Column) (places : List (Option ℕ)) (row at : ℕ) (column : Column) (none : Option ℕ)
    → ArePlaces sheet columns places → at < length columns → at < length places → column ≡ get_or columns at column
    → value_at (column_at sheet (get_or places at none)) row column.initial ≡ (cell sheet row column).1
value_is sheet columns places row at column none are lt within is =
    let same : column_at sheet (get_or places at none) ≡ column_of sheet column.field =
    same_at (column_at sheet) (λ (c : Column). column_of sheet c.field) places columns at none column are within lt ∙ ap (λ (c : Column). column_of sheet c.field) (sym is) in
    ap (λ (has : Option SheetColumn). value_at has row column.initial) same

-- what is left begins with the cell at the place
pub left_turn : (sheet : List SheetColumn) (columns : List Column) (row at field : ℕ) (column : Column) → at < length columns → column ≡ get_or columns at column
    → cell_at (map (cell sheet row) (drop at columns)) field
    ≡ (if column.field == field then Some (cell sheet row column).1 else cell_at (map (cell sheet row) (drop (suc at) columns)) field)
left_turn sheet columns row at field column lt is =
    ap (λ (cs : List Column). cell_at (map (cell sheet row) cs) field) (drop-cons columns at column lt ∙ ap (λ (c : Column). c ∷ drop (suc at) columns) (sym is))
