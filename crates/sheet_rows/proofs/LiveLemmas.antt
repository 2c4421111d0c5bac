-- Rows with their ids.
use Rattle.std.proofs.Common.{◌≡◌, ◌<◌, ◌+◌, ◌&&◌, ℕ, zero, suc, Bool, true, false, List, [], ◌∷◌, length, map, drop, get_or, All, Option, Some, None, option_map, option_and_then, unwrap_or, drop-cons, refl, sym, ap, ap₂, subst, ◌∙◌, arith}
use Rattle.std.specs.List.{list_all, range_with_len, slice_get}
use Rattle.std.specs.Option.{is_some}
use Rattle.std.proofs.Math.ListN.{drop_of_length-le}
use Rattle.std.proofs.lemmas.Bool.{and_parts}
use Rattle.std.proofs.lemmas.List.{length-map}
use Rattle.std.proofs.lemmas.List.FromFn.{length-map-range_with_len}
use Rattle.std.proofs.lemmas.Option.{slice_get-get_or, slice_get_read}
use Rattle.field_map.specs.Laid.{column_of}
use Rattle.field_map.specs.Steps.{cell}
use Rattle.lake_model.specs.Apply.{Cells, numbered}
use Rattle.lake_types.specs.Cells.{laid_cells}
use Rattle.lake_types.specs.declared.limits.TheConstants.{MAX_FIELD}
use Rattle.lake_types.specs.declared.sheet.Sheet.{Sheet}
use Rattle.lake_types.specs.declared.sheet.SheetColumn.{SheetColumn}
use Rattle.lake_types.specs.declared.value.Column.{Column}
use Rattle.lake_types.specs.declared.value.Row.{Row}
use Rattle.lake_types.specs.declared.value.Value.{Value}
use Rattle.lake_types.specs.declared.value.Value.TheVariants as value
use Rattle.sheet_rows.specs.Live.{is_integer, laid_rows, number_in, with_id, with_ids}
use Rattle.sheet_rows.specs.Rows.{number_at, row_at, rows_of}
use Rattle.sheet_rows.specs.Sheets.{HasCells, cells_of, row_cells}
use Rattle.sheet_rows.specs.declared.ids.RowIds.TheVariants as ids
use Rattle.sheet_rows.specs.declared.places.Kept.TheVariants as kept
use Rattle.sheet_rows.proofs.SheetLemmas.{cells_meet}

-- ---- ids that count

counted_from : (first : ℕ) (columns : List Column) (sheet : List SheetColumn) (rows from count : ℕ) → from + count ≡ rows → All (HasCells rows) sheet
    → map (row_at (ids.Start first) columns sheet) (range_with_len from count) ≡ numbered (first + from) (map (laid_cells columns) (map (row_cells sheet) (range_with_len from count)))
counted_from first columns sheet rows from zero same has = refl
counted_from first columns sheet rows from (suc count) same has =
    let next : first + (from + 1) ≡ first + from + 1 = omega arith in
    ap (λ cells. with_id (first + from) cells ∷ map (row_at (ids.Start first) columns sheet) (range_with_len (from + 1) count)) (cells_meet columns sheet from rows (omega arith) has)
    ∙ ap (λ more. with_id (first + from) (laid_cells columns (row_cells sheet from)) ∷ more)
    (counted_from first columns sheet rows (from + 1) count (omega arith) has ∙ ap (λ n. numbered n (map (laid_cells columns) (map (row_cells sheet) (range_with_len (from + 1) count)))) next)

pub counted : (first : ℕ) (columns : List Column) (sheet : Sheet) → All (HasCells sheet.rows) sheet.columns
    → rows_of (ids.Start first) kept.All columns sheet ≡ numbered first (map (laid_cells columns) (cells_of sheet))
counted first columns sheet has =
    let none : first + 0 ≡ first = omega arith in
    counted_from first columns sheet.columns sheet.rows 0 sheet.rows (omega arith) has ∙ ap (λ n. numbered n (map (laid_cells columns) (cells_of sheet))) none

-- ---- ids that stand in a column

abbrev pub is_number : Value → Bool
is_number v = is_some (number_in v)

-- a row's id, where it has one
abbrev told : List Value → ℕ → ℕ
told cells row = unwrap_or (option_and_then number_in (slice_get cells row)) 0

there : (cells : List Value) (row : ℕ) → row < length cells → slice_get cells row ≡ Some (get_or cells row value.Null)
there cells row lt = slice_get-get_or cells row value.Null lt

all_left : (cells : List Value) (row : ℕ) → row < length cells → list_all is_number (drop row cells) ≡ (is_number (get_or cells row value.Null) && list_all is_number (drop (suc row) cells))
all_left cells row lt = ap (list_all is_number) (drop-cons cells row value.Null lt)

step : (row : ℕ) → suc row ≡ row + 1
step row = omega arith

told_from : (cells : List Value) (columns : List Column) (sheet : List SheetColumn) (rows from count : ℕ) → length cells ≡ rows → from + count ≡ rows → All (HasCells rows) sheet
    → list_all is_number (drop from cells) ≡ true
    → with_ids cells from (map (laid_cells columns) (map (row_cells sheet) (range_with_len from count)))
    ≡ Some (map (λ row. with_id (told cells row) (map (cell sheet row) columns)) (range_with_len from count))
told_from cells columns sheet rows from zero long same has all = refl
told_from cells columns sheet rows from (suc count) long same has all =
    let parts = and_parts (is_number (get_or cells from value.Null)) (list_all is_number (drop (suc from) cells)) (sym (all_left cells from (omega arith)) ∙ all) in
    let rest : list_all is_number (drop (from + 1) cells) ≡ true = ap (λ k. list_all is_number (drop k cells)) (sym (step from)) ∙ parts.1 in
    go (number_in (get_or cells from value.Null)) refl parts.0 (told_from cells columns sheet rows (from + 1) count long (omega arith) has rest)
  where
    go : (n : Option ℕ) → number_in (get_or cells from value.Null) ≡ n → is_some n ≡ true
        → with_ids cells (from + 1) (map (laid_cells columns) (map (row_cells sheet) (range_with_len (from + 1) count))) ≡ Some (map (λ row. with_id (told cells row) (map (cell sheet row) columns)) (range_with_len (from + 1) count))
        → option_and_then (λ id. option_map (λ rest. with_id id (laid_cells columns (row_cells sheet from)) ∷ rest) (with_ids cells (from + 1) (map (laid_cells columns) (map (row_cells sheet) (range_with_len (from + 1) count)))))
        (option_and_then number_in (slice_get cells from))
        ≡ Some (with_id (told cells from) (map (cell sheet from) columns) ∷ map (λ row. with_id (told cells row) (map (cell sheet row) columns)) (range_with_len (from + 1) count))
    go None e some later = absurd (cc some)
    go (Some n) e some later =
        let read : option_and_then number_in (slice_get cells from) ≡ Some n = ap (option_and_then number_in) (there cells from (omega arith)) ∙ e in
        rw (read, later) (ap (λ l. Some (with_id n l ∷ map (λ row. with_id (told cells row) (map (cell sheet row) columns)) (range_with_len (from + 1) count))) (sym (cells_meet columns sheet from rows (omega arith) has)))

-- where a cell is no number, a row has no id
none_from : (cells : List Value) (all : List Cells) (from : ℕ) → from + length all ≡ length cells → list_all is_number (drop from cells) ≡ false → with_ids cells from all ≡ None
none_from cells [] from same some =
    let empty : drop from cells ≡ [] = drop_of_length-le cells (omega (arith, same)) in
    absurd (cc (some, ap (list_all is_number) empty))
none_from cells (row ∷ all) from same some =
    go (number_in (get_or cells from value.Null)) refl (sym (all_left cells from (omega arith)) ∙ some) (none_from cells all (from + 1) (omega (arith, same)))
  where
    read : (n : Option ℕ) → number_in (get_or cells from value.Null) ≡ n → option_and_then number_in (slice_get cells from) ≡ n
    read n e = ap (option_and_then number_in) (there cells from (omega arith)) ∙ e

    go : (n : Option ℕ) → number_in (get_or cells from value.Null) ≡ n → (is_number (get_or cells from value.Null) && list_all is_number (drop (suc from) cells)) ≡ false
        → (list_all is_number (drop (from + 1) cells) ≡ false → with_ids cells (from + 1) all ≡ None)
        → option_and_then (λ id. option_map (λ rest. with_id id row ∷ rest) (with_ids cells (from + 1) all)) (option_and_then number_in (slice_get cells from)) ≡ None
    go None e missing later = rw (read None e) refl
    go (Some n) e missing later =
        let rest : list_all is_number (drop (suc from) cells) ≡ false = ap (λ o. is_some o && list_all is_number (drop (suc from) cells)) (sym e) ∙ missing in
        let none : with_ids cells (from + 1) all ≡ None = later (ap (λ k. list_all is_number (drop k cells)) (sym (step from)) ∙ rest) in
        rw (read (Some n) e, none) refl

-- ---- the column of row ids

module _ (columns : List Column) (sheet : Sheet) where
  -- without the column no row has an id
  pub none_told : column_of sheet.columns MAX_FIELD ≡ None → laid_rows None columns sheet ≡ None
  none_told none = rw none refl

  -- the column that is found at a place
  module _ (at : ℕ) (c : SheetColumn) (lt : at < length sheet.columns) (is : c ≡ get_or sheet.columns at c) (same : slice_get sheet.columns at ≡ column_of sheet.columns MAX_FIELD) where
    here : slice_get sheet.columns at ≡ Some c
    here = slice_get_read sheet.columns (length sheet.columns) at c refl lt is

    found : column_of sheet.columns MAX_FIELD ≡ Some c
    found = sym same ∙ here

    own_cells : All (HasCells sheet.rows) sheet.columns → HasCells sheet.rows c
    own_cells all = subst (HasCells sheet.rows) (sym is) (all at c lt)

    -- one of other values gives no ids
    pub others_told : is_integer c.ty ≡ false → None ≡ laid_rows None columns sheet
    others_told other = sym (rw (found, other) refl)

    pub missing_told : is_integer c.ty ≡ true → All (HasCells sheet.rows) sheet.columns → list_all is_number c.cells ≡ false → None ≡ laid_rows None columns sheet
    missing_told integer all missing =
        let count : 0 + length (map (laid_cells columns) (cells_of sheet)) ≡ length c.cells =
        omega (arith, length-map (cells_of sheet) (laid_cells columns), length-map-range_with_len (row_cells sheet.columns) 0 sheet.rows, own_cells all) in
        let none = none_from c.cells (map (laid_cells columns) (cells_of sheet)) 0 count missing in
        sym (rw (found, integer) none)

    pub all_told : is_integer c.ty ≡ true → All (HasCells sheet.rows) sheet.columns → list_all is_number c.cells ≡ true → Some (rows_of (ids.Column at) kept.All columns sheet) ≡ laid_rows None columns sheet
    all_told integer all numbers =
        let from : (row : ℕ) → number_at sheet.columns at row ≡ option_and_then number_in (slice_get c.cells row) = λ row. ap (option_and_then (λ (d : SheetColumn). option_and_then number_in (slice_get d.cells row))) here in
        let same : (row : ℕ) → row_at (ids.Column at) columns sheet.columns row ≡ with_id (told c.cells row) (map (cell sheet.columns row) columns) =
        λ row. ap (λ (n : Option ℕ). with_id (unwrap_or n 0) (map (cell sheet.columns row) columns)) (from row) in
        rw (found, integer) (ap Some (map-same same (range_with_len 0 sheet.rows)) ∙ sym (told_from c.cells columns sheet.columns sheet.rows 0 sheet.rows (own_cells all) (omega arith) all numbers))
      where
        map-same : {f g : ℕ → Row} → ((n : ℕ) → f n ≡ g n) → (ns : List ℕ) → map f ns ≡ map g ns
        map-same same [] = refl
        map-same same (n ∷ ns) = ap₂ (λ (r : Row) (rs : List Row). r ∷ rs) (same n) (map-same same ns)
