-- Rows that are laid into their columns, and rows that several changes insert.
use Rattle.std.proofs.Common.{◌≡◌, ℕ, zero, suc, ◌+◌, ◌<◌, ◌==◌, true, List, [], ◌∷◌, ◌++◌, length, map, take, get_or, All, AllPairs, refl, sym, ap, ap₂, ◌∙◌, arith}
use Rattle.std.proofs.lemmas.Bool.{ne_eqb}
use Rattle.std.proofs.lemmas.Grind.{flat_map-append}
use Rattle.std.proofs.lemmas.List.{append-nil, length-append, length-map, map-append, take_more}
use Rattle.std.proofs.lemmas.List.Elements.{All-cons}
use Rattle.lake_types.specs.Cells.{laid_cells}
use Rattle.lake_types.specs.declared.sheet.SheetColumn.{SheetColumn}
use Rattle.lake_types.specs.declared.value.Column.{Column}
use Rattle.lake_model.specs.Apply.{Cells}
use Rattle.lake_model.specs.declared.change.Change.{Change}
use Rattle.sheet_rows.specs.Sheets.{file_cell, file_column, sheet_of}
use Rattle.row_files.specs.Fresh.{IsLaid}
use Rattle.cat_view.specs.Workable.{HasOtherField}
use Rattle.row_files.specs.Own.{laid_rows, own_rows, rows_at}

-- ---- a row that is laid has the same cells

pub same_number : (n : ℕ) → (n == n) ≡ true
same_number n = search arith

abbrev pub IsKept : List Column → Cells → Column → Type 0
IsKept columns cells c = file_cell c (laid_cells columns cells) ≡ file_cell c cells

pub kept : (columns : List Column) (cells : Cells) → AllPairs HasOtherField columns → All (IsKept columns cells) columns
kept [] cells apart = λ k d lt. absurd (omega (arith, lt))
kept (c ∷ columns) cells apart =
    let rest : All (IsKept columns cells) columns = kept columns cells (λ i j d lt within. apart (suc i) (suc j) d (omega (arith, lt)) (omega (arith, within))) in
    All-cons (IsKept (c ∷ columns) cells) c columns (rw (same_number c.field) refl)
    (λ k d lt. rw (ne_eqb c.field (get_or columns k d).field (apart zero (suc k) d (omega arith) (omega (arith, lt)))) (rest k d lt))

kept_cells : (columns : List Column) (rows : List Cells) (c : Column) → ((cells : Cells) → IsKept columns cells c)
    → map (file_cell c) (map (laid_cells columns) rows) ≡ map (file_cell c) rows
kept_cells columns [] c same = refl
kept_cells columns (cells ∷ rows) c same = ap₂ (λ v vs. v ∷ vs) (same cells) (kept_cells columns rows c same)

kept_columns : (columns : List Column) (rows : List Cells) (some : List Column) → ((cells : Cells) → All (IsKept columns cells) some)
    → map (file_column (map (laid_cells columns) rows)) some ≡ map (file_column rows) some
kept_columns columns rows [] same = refl
kept_columns columns rows (c ∷ some) same =
    ap₂ (λ x xs. x ∷ xs)
    (ap (λ vs. record (file_column rows c) { cells = vs }) (kept_cells columns rows c (λ cells. same cells zero c (omega arith))))
    (kept_columns columns rows some (λ cells k d lt. same cells (suc k) d (omega (arith, lt))))

-- so it stands alike in a file
pub sheet_laid : (columns : List Column) (rows : List Cells) → AllPairs HasOtherField columns → sheet_of columns (map (laid_cells columns) rows) ≡ sheet_of columns rows
sheet_laid columns rows apart =
    ap₂ (λ cs n. record { columns = cs; rows = n }) (kept_columns columns rows columns (λ cells. kept columns cells apart)) (length-map rows (laid_cells columns))

-- and laid again it stays
laid_by : (columns : List Column) (cells : Cells) (some : List Column) → All (IsKept columns cells) some → laid_cells some (laid_cells columns cells) ≡ laid_cells some cells
laid_by columns cells [] same = refl
laid_by columns cells (c ∷ some) same =
    ap₂ (λ v vs. (c.field, v) ∷ vs) (same zero c (omega arith)) (laid_by columns cells some (λ k d lt. same (suc k) d (omega (arith, lt))))

pub laid_twice : (columns : List Column) (cells : Cells) → AllPairs HasOtherField columns → IsLaid columns (laid_cells columns cells)
laid_twice columns cells apart = laid_by columns cells columns (kept columns cells apart)

-- ---- rows of changes at some places

pub rows_more : (own : List Change) (places : List ℕ) (i place : ℕ) → i < length places → place ≡ get_or places i place
    → own_rows own (take (i + 1) places) ≡ own_rows own (take i places) ++ rows_at own place
rows_more own places i place lt is =
    ap (own_rows own) (take_more places i place lt ∙ ap (λ p. take i places ++ p ∷ []) (sym is))
    ∙ flat_map-append (rows_at own) (take i places) (place ∷ []) ∙ ap (λ more. own_rows own (take i places) ++ more) (append-nil (rows_at own place))

-- one more of them in a column
pub column_more : (column : Column) (own : List Change) (places : List ℕ) (i place : ℕ) (made : SheetColumn) (rows : List Cells) → i < length places → place ≡ get_or places i place
    → made ≡ file_column (own_rows own (take i places)) column → rows ≡ rows_at own place
    → record made { cells = made.cells ++ map (file_cell column) rows } ≡ file_column (own_rows own (take (i + 1) places)) column
column_more column own places i place made rows lt is so same =
    ap₂ (λ (m : SheetColumn) rs. record m { cells = m.cells ++ map (file_cell column) rs }) so same
    ∙ ap (λ vs. record (file_column [] column) { cells = vs }) (sym (map-append (file_cell column) (own_rows own (take i places)) (rows_at own place)))
    ∙ ap (λ rs. file_column rs column) (sym (rows_more own places i place lt is))

-- and in their number
pub count_more : (own : List Change) (places : List ℕ) (i place : ℕ) → i < length places → place ≡ get_or places i place
    → length (own_rows own (take (i + 1) places)) ≡ length (own_rows own (take i places)) + length (rows_at own place)
count_more own places i place lt is = ap length (rows_more own places i place lt is) ∙ length-append (own_rows own (take i places)) (rows_at own place)

pub laid_count : (columns : List Column) (own : List Change) (places : List ℕ) → length (laid_rows columns own places) ≡ length (own_rows own places)
laid_count columns own places = length-map (own_rows own places) (laid_cells columns)
