-- The texts of the rows that a scan tells are those that the plain lake shows.
use Rattle.std.proofs.Common.{◌≡◌, ℕ, List, [], ◌∷◌, ◌++◌, map, append-nil, refl, ◌∙◌, ap, ap₂, codes, rules}
use Rattle.std.specs.Prelude.{Option, Some, None}
use Rattle.std.specs.List.{join_with_byte}
use Rattle.lake_types.specs.Cells.{cell_at, column_named}
use Rattle.lake_types.specs.declared.pred.Pred.{Pred}
use Rattle.lake_types.specs.declared.stmt.Item.{Item}
use Rattle.lake_types.specs.declared.stmt.Item.TheVariants as item
use Rattle.lake_types.specs.declared.value.Column.{Column}
use Rattle.lake_types.specs.declared.value.Row.{Row}
use Rattle.lake_model.specs.Apply.{Draft}
use Rattle.lake_model.specs.Rows.{SeenRow, chosen, column_text, first_of, item_fault, item_text, row_text, texts_of}
use Rattle.scan_exec.specs.Chosen.{fields_named, fields_told, picked, rows_of, told_row}
use Rattle.session.specs.Select.{names_of, names_read}
use Rattle.session.specs.Shown as shown
use Rattle.session.specs.Shown.{behind, joined, row_shown}

-- ---- texts joined by commas

behind_comma : (ts : List (List ℕ)) (t : List ℕ) → behind (codes ",") (t ∷ ts) ≡ 44 ∷ join_with_byte 44 (t ∷ ts)
behind_comma [] t = ap (λ (x : List ℕ). 44 ∷ x) (append-nil t)
behind_comma (u ∷ ts) t = ap (λ (x : List ℕ). 44 ∷ (t ++ x)) (behind_comma ts u)

joined_is : (ts : List (List ℕ)) → joined ts ≡ join_with_byte 44 ts
joined_is [] = refl
joined_is (t ∷ []) = append-nil t
joined_is (t ∷ u ∷ ts) = ap (λ (x : List ℕ). t ++ x) (behind_comma ts u)

-- ---- all columns

all_texts : (columns : List Column) (r : SeenRow) → shown.cell_texts (picked (map (λ (c : Column). c.field) columns) (cell_at r.cells)) ≡ map (column_text r) columns
all_texts [] r = refl
all_texts (c ∷ columns) r = ap (λ (ts : List (List ℕ)). column_text r c ∷ ts) (all_texts columns r)

-- ---- items

items_shown : (columns : List Column) (r : SeenRow) (items : List Item) → first_of (map (item_fault columns) items) ≡ None
    → shown.item_texts r.id items (picked (fields_named columns (names_of items)) (cell_at r.cells)) ≡ map (item_text columns r) items
items_shown columns r [] h = refl
items_shown columns r (item.RowId ∷ items) h = ap (λ (ts : List (List ℕ)). item_text columns r item.RowId ∷ ts) (items_shown columns r items h)
items_shown columns r (item.Column name ∷ items) h = go (column_named columns name) refl (items_shown columns r items)
  where
    go : (o : Option Column) → column_named columns name ≡ o
        → (first_of (map (item_fault columns) items) ≡ None → shown.item_texts r.id items (picked (fields_named columns (names_of items)) (cell_at r.cells)) ≡ map (item_text columns r) items)
        → shown.item_texts r.id (item.Column name ∷ items) (picked (fields_named columns (names_of (item.Column name ∷ items))) (cell_at r.cells)) ≡ map (item_text columns r) (item.Column name ∷ items)
    go None e more = absurd (search (rules, rw e at h))
    go (Some c) e more = rw e (ap (λ (ts : List (List ℕ)). column_text r c ∷ ts) (more (rw e at h)))

-- ---- rows

row_is : (columns : List Column) (items : List Item) (r : SeenRow) → first_of (map (item_fault columns) items) ≡ None
    → row_shown items (told_row (fields_told columns (names_read items)) r) ≡ row_text columns items r
row_is columns [] r h = ap joined (all_texts columns r) ∙ joined_is (texts_of columns [] r)
row_is columns (i ∷ items) r h = ap joined (items_shown columns r (i ∷ items) h) ∙ joined_is (texts_of columns (i ∷ items) r)

map_rows : (columns : List Column) (items : List Item) (rows : List SeenRow) → first_of (map (item_fault columns) items) ≡ None
    → map (row_shown items) (map (told_row (fields_told columns (names_read items))) rows) ≡ map (row_text columns items) rows
map_rows columns items [] h = refl
map_rows columns items (r ∷ rows) h = ap₂ (λ (t : List ℕ) (ts : List (List ℕ)). t ∷ ts) (row_is columns items r h) (map_rows columns items rows h)

pub rows_are : (d : Draft) (items : List Item) (test : Option Pred) (rows : List Row) → first_of (map (item_fault d.columns) items) ≡ None → rows ≡ rows_of d test (names_read items)
    → map (row_shown items) rows ≡ map (row_text d.columns items) (chosen test d)
rows_are d items test rows h is = rw is (map_rows d.columns items (chosen test d) h)
