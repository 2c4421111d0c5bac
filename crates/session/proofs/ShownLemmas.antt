-- The texts of the rows that a scan tells are those that the plain lake shows.
use Rattle.std.proofs.Common.{◌≡◌, ℕ, suc, ◌+◌, ◌<◌, List, ◌∷◌, ◌++◌, length, drop, drop-cons, get_or, append_assoc, add-one, sym, ◌∙◌, ap, codes}
use Rattle.lake_types.specs.declared.stmt.Item.{Item}
use Rattle.lake_types.specs.declared.value.Value.{Value}
use Rattle.session.specs.Shown.{behind, cell_text, cell_texts, item_text, item_texts, left_after}

-- ---- a text that grows by one

text_step : (now next before t goal : List ℕ) (ts : List (List ℕ)) → next ≡ (now ++ before) ++ t → now ++ behind before (t ∷ ts) ≡ goal → next ++ behind (codes ",") ts ≡ goal
text_step now next before t goal ts is h = rw (is, append_assoc, append_assoc) h

pub cells_step : (now next before goal : List ℕ) (cells : List (ℕ × Value)) (at : ℕ) (c : ℕ × Value) → at < length cells → c ≡ get_or cells at c → next ≡ (now ++ before) ++ cell_text c
    → now ++ behind before (cell_texts (drop at cells)) ≡ goal → next ++ behind (codes ",") (cell_texts (drop (at + 1) cells)) ≡ goal
cells_step now next before goal cells at c within is grown h =
    let left : drop at cells ≡ c ∷ drop (suc at) cells = drop-cons cells at c within ∙ ap (λ (x : ℕ × Value). x ∷ drop (suc at) cells) (sym is) in
    rw add-one
    (text_step now next before (cell_text c) goal (cell_texts (drop (suc at) cells)) grown
    (ap (λ (xs : List (ℕ × Value)). now ++ behind before (cell_texts xs)) (sym left) ∙ h))

pub items_step : (now next before goal : List ℕ) (id : ℕ) (items : List Item) (at : ℕ) (i : Item) (left after : List (ℕ × Value)) → at < length items → i ≡ get_or items at i → next ≡ (now ++ before) ++ item_text id i left
    → after ≡ left_after i left → now ++ behind before (item_texts id (drop at items) left) ≡ goal → next ++ behind (codes ",") (item_texts id (drop (at + 1) items) after) ≡ goal
items_step now next before goal id items at i left after within is grown same h =
    let rest : drop at items ≡ i ∷ drop (suc at) items = drop-cons items at i within ∙ ap (λ (x : Item). x ∷ drop (suc at) items) (sym is) in
    rw (same, add-one)
    (text_step now next before (item_text id i left) goal (item_texts id (drop (suc at) items) (left_after i left)) grown
    (ap (λ (xs : List Item). now ++ behind before (item_texts id xs left)) (sym rest) ∙ h))
