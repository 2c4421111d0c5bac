-- The texts of the rows that a scan tells.
use Rattle.std.specs.Prelude.{ℕ, List, [], ◌∷◌, ◌++◌, codes, decimal, map}
use Rattle.lake_types.specs.Texts.{literal_text}
use Rattle.lake_types.specs.declared.stmt.Item.{Item}
use Rattle.lake_types.specs.declared.stmt.Item.TheVariants as item
use Rattle.lake_types.specs.declared.value.Row.{Row}
use Rattle.lake_types.specs.declared.value.Value.{Value}
use Rattle.lake_types.specs.declared.value.Value.TheVariants as value

-- texts, the first behind one text, and each other behind a comma
abbrev pub behind : List ℕ → List (List ℕ) → List ℕ
behind before [] = []
behind before (t ∷ ts) = before ++ (t ++ behind (codes ",") ts)

abbrev pub joined : List (List ℕ) → List ℕ
joined ts = behind [] ts

abbrev pub cell_text : ℕ × Value → List ℕ
cell_text c = literal_text c.1

abbrev pub cell_texts : List (ℕ × Value) → List (List ℕ)
cell_texts cells = map cell_text cells

-- The text of an item. A column takes the first of the cells that are left; there is one for each.
abbrev pub item_text : ℕ → Item → List (ℕ × Value) → List ℕ
item_text id item.RowId left = decimal id
item_text id (item.Column name) [] = literal_text value.Null
item_text id (item.Column name) (c ∷ left) = cell_text c

abbrev pub left_after : Item → List (ℕ × Value) → List (ℕ × Value)
left_after item.RowId left = left
left_after (item.Column name) [] = []
left_after (item.Column name) (c ∷ left) = left

abbrev pub item_texts : ℕ → List Item → List (ℕ × Value) → List (List ℕ)
item_texts id [] left = []
item_texts id (i ∷ items) left = item_text id i left ∷ item_texts id items (left_after i left)

-- without items all cells are shown
abbrev pub row_shown : List Item → Row → List ℕ
row_shown [] r = joined (cell_texts r.cells)
row_shown (i ∷ items) r = joined (item_texts r.id (i ∷ items) r.cells)
