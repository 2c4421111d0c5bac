-- A sheet with the column of row ids reads as its rows with these ids.
use Rattle.std.proofs.Common.{◌≡◌, ◌≢◌, ◌<◌, ◌+◌, ◌++◌, ◌==◌, ℕ, zero, suc, Bool, true, false, cond, pos, List, [], ◌∷◌, length, map, drop, get_or, All, Option, Some, option_and_then, unwrap_or, drop-cons, refl, sym, ap, ap₂, ◌∙◌, arith}
use Rattle.std.specs.List.{range_with_len, slice_get}
use Rattle.std.proofs.lemmas.List.{length-drop, length-map}
use Rattle.std.proofs.lemmas.List.Elements.{All-head, All-tail, filter_map-append}
use Rattle.std.proofs.lemmas.Option.{slice_get-get_or}
use Rattle.field_map.specs.Laid.{column_of}
use Rattle.lake_model.specs.Apply.{Cells}
use Rattle.lake_types.specs.Cells.{cell_at, laid_cells}
use Rattle.lake_types.specs.declared.limits.TheConstants.{MAX_FIELD}
use Rattle.lake_types.specs.declared.sheet.SheetColumn.{SheetColumn}
use Rattle.lake_types.specs.declared.value.Column.{Column}
use Rattle.lake_types.specs.declared.value.Value.{Value}
use Rattle.lake_types.specs.declared.value.Value.TheVariants as value
use Rattle.sheet_rows.specs.Laws.{ReadsIdsBack}
use Rattle.sheet_rows.specs.Live.{number_in, with_each, with_ids}
use Rattle.sheet_rows.specs.Sheets.{cell_of, cells_of, file_column, id_column, row_cells, sheet_with_ids}
use Rattle.sheet_rows.proofs.SheetLemmas.{reads_back}

abbrev Holds : Column → Type 0
Holds c = c.field ≢ MAX_FIELD

abbrev number : ℕ → Value
number id = value.Int (pos id)

-- ---- the column is found

id_found : (own : List Column) (ids : List ℕ) (rows : List Cells) → All Holds own → column_of (map (file_column rows) own ++ id_column ids ∷ []) MAX_FIELD ≡ Some (id_column ids)
id_found [] ids rows holds = refl
id_found (c ∷ own) ids rows holds =
    let here : c.field ≢ MAX_FIELD = All-head Holds c own holds in
    let other : (c.field == MAX_FIELD) ≡ false = grind (arith, here) in
    rw other (id_found own ids rows (All-tail Holds c own holds))

-- ---- its cells are in no column of data

extra_cell : (cells : Cells) (v : Value) (field : ℕ) → field ≢ MAX_FIELD → cell_at (cells ++ (MAX_FIELD, v) ∷ []) field ≡ cell_at cells field
extra_cell [] v field other = let apart : (MAX_FIELD == field) ≡ false = grind (arith, other) in rw apart refl
extra_cell (c ∷ cells) v field other = go (c.0 == field) (extra_cell cells v field other)
  where
    go : (b : Bool) → cell_at (cells ++ (MAX_FIELD, v) ∷ []) field ≡ cell_at cells field
        → cond b (Some c.1) (cell_at (cells ++ (MAX_FIELD, v) ∷ []) field) ≡ cond b (Some c.1) (cell_at cells field)
    go true more = refl
    go false more = more

laid_extra : (columns : List Column) (cells : Cells) (v : Value) → All Holds columns → laid_cells columns (cells ++ (MAX_FIELD, v) ∷ []) ≡ laid_cells columns cells
laid_extra [] cells v holds = refl
laid_extra (c ∷ columns) cells v holds =
    ap₂ (λ (o : Option Value) (l : Cells). (c.field, unwrap_or o c.initial) ∷ l) (extra_cell cells v c.field (All-head Holds c columns holds)) (laid_extra columns cells v (All-tail Holds c columns holds))

row_extra : (own : List SheetColumn) (ids : List ℕ) (row : ℕ) → row < length ids → row_cells (own ++ id_column ids ∷ []) row ≡ row_cells own row ++ (MAX_FIELD, get_or (map number ids) row value.Null) ∷ []
row_extra own ids row lt =
    let read : slice_get (map number ids) row ≡ Some (get_or (map number ids) row value.Null) = slice_get-get_or (map number ids) row value.Null (omega (arith, length-map ids number)) in
    filter_map-append (cell_of row) own (id_column ids ∷ []) ∙ ap (λ (l : Cells). row_cells own row ++ l) (rw read refl)

rows_extra : (columns : List Column) (own : List SheetColumn) (ids : List ℕ) (from count : ℕ) → All Holds columns → from + count ≡ length ids
    → map (laid_cells columns) (map (row_cells (own ++ id_column ids ∷ [])) (range_with_len from count)) ≡ map (laid_cells columns) (map (row_cells own) (range_with_len from count))
rows_extra columns own ids from zero holds same = refl
rows_extra columns own ids from (suc count) holds same =
    let one : laid_cells columns (row_cells (own ++ id_column ids ∷ []) from) ≡ laid_cells columns (row_cells own from) =
    ap (laid_cells columns) (row_extra own ids from (omega (arith, same))) ∙ laid_extra columns (row_cells own from) (get_or (map number ids) from value.Null) holds in
    ap₂ (λ (cells : Cells) (more : List Cells). cells ∷ more) one (rows_extra columns own ids (from + 1) count holds (omega (arith, same)))

-- ---- each row has its id

told : (cells : List Value) (place : ℕ) (ids : List ℕ) (rows : List Cells) → drop place cells ≡ map number ids → length ids ≡ length rows → with_ids cells place rows ≡ Some (with_each ids rows)
told cells place [] [] are same = refl
told cells place [] (row ∷ rows) are same = absurd (omega arith)
told cells place (id ∷ ids) [] are same = absurd (omega arith)
told cells place (id ∷ ids) (row ∷ rows) are same =
    let lt : place < length cells = omega (arith, length-drop place cells, ap length are) in
    let step : place + 1 ≡ suc place = omega arith in
    let both : get_or cells place value.Null ∷ drop (suc place) cells ≡ number id ∷ map number ids = sym (drop-cons cells place value.Null lt) ∙ are in
    let first : get_or cells place value.Null ≡ number id = cc in
    let rest : drop (suc place) cells ≡ map number ids = cc in
    let read : option_and_then number_in (slice_get cells place) ≡ Some id = ap (option_and_then number_in) (slice_get-get_or cells place value.Null lt) ∙ ap number_in first in
    let later : with_ids cells (place + 1) rows ≡ Some (with_each ids rows) = told cells (place + 1) ids rows (ap (λ k. drop k cells) step ∙ rest) (omega (arith, same)) in
    rw (read, later) refl

pub reads_ids_back : ReadsIdsBack
reads_ids_back own columns ids rows same holds kept =
    let count : length ids ≡ length (map (laid_cells columns) (map (laid_cells own) rows)) =
    omega (arith, same, length-map (map (laid_cells own) rows) (laid_cells columns), length-map rows (laid_cells own)) in
    let cells : map (laid_cells columns) (cells_of (sheet_with_ids own ids rows)) ≡ map (laid_cells columns) (map (laid_cells own) rows) =
    rows_extra columns (map (file_column rows) own) ids 0 (length rows) kept (omega (arith, same)) ∙ ap (map (laid_cells columns)) (reads_back own rows) in
    rw (id_found own ids rows holds, cells) (told (map number ids) 0 ids (map (laid_cells columns) (map (laid_cells own) rows)) refl count)
