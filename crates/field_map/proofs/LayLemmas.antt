-- The turns of the loops that find columns and lay rows.
use Rattle.std.proofs.Common.{zero, ◌≡◌, ℕ, suc, ◌+◌, ◌<◌, List, [], ◌∷◌, ◌++◌, length, map, take, drop, get_or, Option, Some, refl, sym, ap, ◌∙◌, arith, drop-cons}
use Rattle.std.specs.List.{slice_get, range_with_len}
use Rattle.std.proofs.lemmas.List.{length-map, map_more}
use Rattle.std.proofs.lemmas.List.FromFn.{map-range_with_len_more}
use Rattle.std.proofs.lemmas.Option.{slice_get_read}
use Rattle.lake_types.specs.declared.sheet.SheetColumn.{SheetColumn}
use Rattle.lake_types.specs.declared.value.Column.{Column}
use Rattle.lake_types.specs.declared.value.Row.{Row}
use Rattle.lake_types.specs.declared.value.Value.{Value}
use Rattle.lake_types.specs.Cells.{laid_cells}
use Rattle.field_map.specs.Laid.{ArePlaces, column_at, column_of, found_cells, laid_row}
use Rattle.field_map.specs.Steps.{cell, value_at}

pub place_found : (sheet : List SheetColumn) (field place : ℕ) (column : SheetColumn) → place < length sheet → column ≡ get_or sheet place column
    → column.field ≡ Some field → column_of sheet field ≡ column_of (drop place sheet) field → slice_get sheet place ≡ column_of sheet field
place_found sheet field place column lt is has left =
    let first : drop place sheet ≡ column ∷ drop (suc place) sheet = drop-cons sheet place column lt ∙ ap (λ (c : SheetColumn). c ∷ drop (suc place) sheet) (sym is) in
    let found : column_of (column ∷ drop (suc place) sheet) field ≡ Some column = grind (arith, has) in
    slice_get_read sheet (length sheet) place column refl lt is ∙ sym (left ∙ ap (λ (s : List SheetColumn). column_of s field) first ∙ found)

pub same_at : {X Y Z : Type 0} (f : X → Z) (g : Y → Z) (xs : List X) (ys : List Y) (i : ℕ) (d : X) (e : Y) → map f xs ≡ map g ys → i < length xs → i < length ys
    → f (get_or xs i d) ≡ g (get_or ys i e)
same_at f g [] ys i d e same lt short = absurd (omega arith)
same_at f g (x ∷ xs) [] i d e same lt short = absurd (omega arith)
same_at f g (x ∷ xs) (y ∷ ys) zero d e same lt short = cc same
same_at f g (x ∷ xs) (y ∷ ys) (suc i) d e same lt short = same_at f g xs ys i d e (cc same) (omega arith) (omega arith)

pub same_length : (sheet : List SheetColumn) (columns : List Column) (places : List (Option ℕ)) → ArePlaces sheet columns places → length places ≡ length columns
same_length sheet columns places h =
    sym (length-map places (column_at sheet)) ∙ ap length h ∙ length-map columns (λ (c : Column). column_of sheet c.field)

pub cell_turn : (sheet : List SheetColumn) (columns : List Column) (places : List (Option ℕ)) (row at : ℕ) (column : Column) (none : Option ℕ) (cells : List (ℕ × Value))
    → ArePlaces sheet columns places → at < length columns → at < length places → column ≡ get_or columns at column
    → cells ≡ map (cell sheet row) (take at columns)
    → cells ++ (column.field, value_at (column_at sheet (get_or places at none)) row column.initial) ∷ [] ≡ map (cell sheet row) (take (at + 1) columns)
cell_turn sheet columns places row at column none cells are lt within is h =
    let same : column_at sheet (get_or places at none) ≡ column_of sheet column.field =
    same_at (column_at sheet) (λ (c : Column). column_of sheet c.field) places columns at none column are within lt ∙ ap (λ (c : Column). column_of sheet c.field) (sym is) in
    let more = map_more (cell sheet row) columns at column lt in
    ap (λ (front : List (ℕ × Value)). front ++ (column.field, value_at (column_at sheet (get_or places at none)) row column.initial) ∷ []) h
    ∙ ap (λ (has : Option SheetColumn). map (cell sheet row) (take at columns) ++ (column.field, value_at has row column.initial) ∷ []) same
    ∙ ap (λ (c : Column). map (cell sheet row) (take at columns) ++ cell sheet row c ∷ []) is
    ∙ sym more

row_turn : (sheet : List SheetColumn) (columns : List Column) (id : ℕ)
    → map (laid_row sheet columns) (range_with_len 0 (id + 1)) ≡ map (laid_row sheet columns) (range_with_len 0 id) ++ laid_row sheet columns id ∷ []
row_turn sheet columns id = map-range_with_len_more (laid_row sheet columns) 0 id id (omega arith)

-- one more row
pub rows_turn : (sheet : List SheetColumn) (columns : List Column) (id : ℕ) (rows new : List Row) (cells : List (ℕ × Value))
    → new ≡ rows ++ record { id = id; cells = cells } ∷ [] → rows ≡ map (laid_row sheet columns) (range_with_len 0 id) → cells ≡ laid_cells columns (found_cells sheet columns id)
    → new ≡ map (laid_row sheet columns) (range_with_len 0 (id + 1))
rows_turn sheet columns id rows new cells more so_far laid =
    let row : List (ℕ × Value) → Row = λ cs. record { id = id; cells = cs } in
    more ∙ ap (λ (rs : List Row). rs ++ row cells ∷ []) so_far
    ∙ ap (λ (cs : List (ℕ × Value)). map (laid_row sheet columns) (range_with_len 0 id) ++ row cs ∷ []) laid
    ∙ sym (row_turn sheet columns id)
