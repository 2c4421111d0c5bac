-- Cells by columns and cells by rows.
use Rattle.std.proofs.Common.{◌≡◌, ◌≢◌, ℕ, zero, suc, ◌+◌, ◌<◌, ◌==◌, true, false, cond, List, [], ◌∷◌, length, map, get_or, Option, Some, None, option_map, option_and_then, unwrap_or, All, refl, sym, ap, subst, ◌∙◌, arith}
use Rattle.std.specs.List.{cons_option, range_with_len, slice_get, sum_by}
use Rattle.std.proofs.lemmas.List.Elements.{All-head, All-tail}
use Rattle.std.proofs.lemmas.List.Sums.{sum_by-cons}
use Rattle.std.proofs.lemmas.Option.{slice_get-get_or}
use Rattle.field_map.proofs.LaidLemmas.{cells-laid}
use Rattle.field_map.specs.Laid.{column_of, is_of, laid_row}
use Rattle.field_map.specs.Steps.{cell, value_at}
use Rattle.lake_model.specs.Apply.{Cells, numbered}
use Rattle.lake_types.specs.Cells.{cell_at, laid_cell, laid_cells}
use Rattle.lake_types.specs.Weights.{weight, row_weight, cell_weight}
use Rattle.lake_types.specs.declared.limits.TheConstants.{MAX_FIELD}
use Rattle.lake_types.specs.declared.sheet.SheetColumn.{SheetColumn}
use Rattle.lake_types.specs.declared.value.Column.{Column}
use Rattle.lake_types.specs.declared.value.Value.{Value}
use Rattle.sheet_rows.specs.Laws.{LaysCells, ReadsBack, WeighsRows}
use Rattle.sheet_rows.specs.Sheets.{HasCells, cell_of, data_weight, file_cell, file_column, row_cells}

-- ---- what is laid is the sheet's rows, laid into the columns

-- a column that is found by a field has the cell that a row has of that field
value_found : (columns : List SheetColumn) (row rows field : ℕ) (initial : Value) → row < rows → All (HasCells rows) columns
    → value_at (column_of columns field) row initial ≡ unwrap_or (cell_at (row_cells columns row) field) initial
value_found [] row rows field initial lt has = refl
value_found (c ∷ columns) row rows field initial lt has = go c.field refl (value_found columns row rows field initial lt (All-tail (HasCells rows) c columns has))
  where
    there : slice_get c.cells row ≡ Some (get_or c.cells row initial)
    there = slice_get-get_or c.cells row initial (subst (λ n. row < n) (sym (All-head (HasCells rows) c columns has)) lt)

    go : (known : Option ℕ) → c.field ≡ known → value_at (column_of columns field) row initial ≡ unwrap_or (cell_at (row_cells columns row) field) initial
        → value_at (cond (is_of known field) (Some c) (column_of columns field)) row initial
        ≡ unwrap_or (cell_at (cons_option (option_and_then (λ f. option_map (λ v. (f, v)) (slice_get c.cells row)) known) (row_cells columns row)) field) initial
    go None e more = more
    go (Some f) e more =
        rw there (elim (f == field) as (λ b. value_at (cond b (Some c) (column_of columns field)) row initial ≡ unwrap_or (cond b (Some (get_or c.cells row initial)) (cell_at (row_cells columns row) field)) initial)
        [ true ↦ rw there refl | false ↦ more ])

pub cells_meet : (cs : List Column) (columns : List SheetColumn) (row rows : ℕ) → row < rows → All (HasCells rows) columns
    → map (cell columns row) cs ≡ laid_cells cs (row_cells columns row)
cells_meet [] columns row rows lt has = refl
cells_meet (c ∷ cs) columns row rows lt has =
    ap (λ v. (c.field, v) ∷ map (cell columns row) cs) (value_found columns row rows c.field c.initial lt has)
    ∙ ap (λ more. laid_cell (row_cells columns row) c ∷ more) (cells_meet cs columns row rows lt has)

-- rows from one number on
laid_from : (cs : List Column) (columns : List SheetColumn) (rows from count : ℕ) → from + count ≡ rows → All (HasCells rows) columns
    → map (laid_row columns cs) (range_with_len from count) ≡ numbered from (map (laid_cells cs) (map (row_cells columns) (range_with_len from count)))
laid_from cs columns rows from zero same has = refl
laid_from cs columns rows from (suc count) same has =
    ap (λ cells. record { id = from; cells = cells } ∷ map (laid_row columns cs) (range_with_len (from + 1) count)) (sym (cells-laid columns from cs) ∙ cells_meet cs columns from rows (omega arith) has)
    ∙ ap (λ more. record { id = from; cells = laid_cells cs (row_cells columns from) } ∷ more) (laid_from cs columns rows (from + 1) count (omega arith) has)

pub lays_cells : LaysCells
lays_cells cs sheet has = laid_from cs sheet.columns sheet.rows 0 sheet.rows (omega arith) has

-- ---- the rows of a sheet that was made of rows are those rows, laid into the columns

first_row : (columns : List Column) (r : Cells) (rows : List Cells) → row_cells (map (file_column (r ∷ rows)) columns) 0 ≡ laid_cells columns r
first_row [] r rows = refl
first_row (c ∷ columns) r rows = ap (λ more. laid_cell r c ∷ more) (first_row columns r rows)

later_row : (columns : List Column) (r : Cells) (rows : List Cells) (i : ℕ) → row_cells (map (file_column (r ∷ rows)) columns) (suc i) ≡ row_cells (map (file_column rows) columns) i
later_row [] r rows i = refl
later_row (c ∷ columns) r rows i = ap (λ more. cons_option (cell_of i (file_column rows c)) more) (later_row columns r rows i)

later_rows : (columns : List Column) (r : Cells) (rows : List Cells) (from next count : ℕ) → next ≡ suc from
    → map (row_cells (map (file_column (r ∷ rows)) columns)) (range_with_len next count) ≡ map (row_cells (map (file_column rows) columns)) (range_with_len from count)
later_rows columns r rows from next zero same = refl
later_rows columns r rows from next (suc count) same =
    ap (λ one. one ∷ map (row_cells (map (file_column (r ∷ rows)) columns)) (range_with_len (next + 1) count)) (ap (row_cells (map (file_column (r ∷ rows)) columns)) same ∙ later_row columns r rows from)
    ∙ ap (λ more. row_cells (map (file_column rows) columns) from ∷ more) (later_rows columns r rows (from + 1) (next + 1) count (omega (arith, same)))

pub reads_back : ReadsBack
reads_back columns [] = refl
reads_back columns (r ∷ rows) =
    ap (λ one. one ∷ map (row_cells (map (file_column (r ∷ rows)) columns)) (range_with_len 1 (length rows))) (first_row columns r rows)
    ∙ ap (λ more. laid_cells columns r ∷ more) (later_rows columns r rows 0 1 (length rows) refl ∙ reads_back columns rows)

-- ---- weights

-- a column of data weighs what its cells do
data-weight : (rows : List Cells) (c : Column) → c.field ≢ MAX_FIELD → data_weight (file_column rows c) ≡ sum_by weight (map (file_cell c) rows)
data-weight rows c other = let known : (c.field == MAX_FIELD) ≡ false = grind (arith, other) in rw known refl

weights_of : (columns : List Column) (r : Cells) (rows : List Cells) → All (λ (c : Column). c.field ≢ MAX_FIELD) columns
    → sum_by data_weight (map (file_column (r ∷ rows)) columns) ≡ sum_by cell_weight (laid_cells columns r) + sum_by data_weight (map (file_column rows) columns)
weights_of [] r rows fields = refl
weights_of (c ∷ columns) r rows fields =
    let here = All-head (λ (c : Column). c.field ≢ MAX_FIELD) c columns fields in
    omega (
      arith,
      sum_by-cons data_weight (file_column (r ∷ rows) c) (map (file_column (r ∷ rows)) columns),
      sum_by-cons data_weight (file_column rows c) (map (file_column rows) columns),
      sum_by-cons cell_weight (laid_cell r c) (laid_cells columns r),
      sum_by-cons weight (file_cell c r) (map (file_cell c) rows),
      data-weight (r ∷ rows) c here,
      data-weight rows c here,
      weights_of columns r rows (All-tail (λ (c : Column). c.field ≢ MAX_FIELD) c columns fields),
    )

no_weight : (columns : List Column) → All (λ (c : Column). c.field ≢ MAX_FIELD) columns → sum_by data_weight (map (file_column []) columns) ≡ 0
no_weight [] fields = refl
no_weight (c ∷ columns) fields =
    omega (
      arith,
      sum_by-cons data_weight (file_column [] c) (map (file_column []) columns),
      data-weight [] c (All-head (λ (c : Column). c.field ≢ MAX_FIELD) c columns fields),
      no_weight columns (All-tail (λ (c : Column). c.field ≢ MAX_FIELD) c columns fields),
    )

pub weighs_rows : WeighsRows
weighs_rows columns [] fields = omega (arith, no_weight columns fields)
weighs_rows columns (r ∷ rows) fields =
    omega (arith, sum_by-cons row_weight (laid_cells columns r) (map (laid_cells columns) rows), weights_of columns r rows fields, weighs_rows columns rows fields)
