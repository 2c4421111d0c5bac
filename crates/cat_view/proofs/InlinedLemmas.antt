-- Cells that are laid one after the other, and rows that are read so.
use Rattle.std.proofs.Common.{◌≡◌, ℕ, suc, ◌+◌, ◌<◌, List, [], ◌∷◌, ◌++◌, length, get_or, drop, drop-cons, map, sym, ap, subst, ◌∙◌, arith}
use Rattle.std.specs.List.{AllZip}
use Rattle.std.specs.Arc.{arc_value}
use Rattle.std.specs.declared.sync.Arc.{Arc}
use Rattle.std.proofs.lemmas.List.{append_assoc, map-append}
use Rattle.lake_types.specs.Cells.{laid_cell, laid_cells}
use Rattle.lake_types.specs.declared.value.Column.{Column}
use Rattle.lake_types.specs.declared.value.Row.{Row}
use Rattle.lake_types.specs.declared.value.Value.{Value}
use Rattle.cat_rows.specs.declared.inlined.InlinedRow.{InlinedRow}
use Rattle.cat_view.specs.Inlined.{AreInlined}
use Rattle.cat_view.specs.Sight.{IsInlined}

pub one_cell : (columns : List Column) (cells : List (ℕ × Value)) (at : ℕ) (column : Column) (laid now : List (ℕ × Value)) (v : Value) → at < length columns → column ≡ get_or columns at column
    → v ≡ (laid_cell cells column).1 → now ≡ laid ++ (column.field, v) ∷ [] → now ++ laid_cells (drop (at + 1) columns) cells ≡ laid ++ laid_cells (drop at columns) cells
one_cell columns cells at column laid now v within is value pushed =
    let e : at + 1 ≡ suc at = omega arith in
    let left : drop at columns ≡ column ∷ drop (suc at) columns = drop-cons columns at column within ∙ ap (λ c. c ∷ drop (suc at) columns) (sym is) in
    ap (λ l. l ++ laid_cells (drop (at + 1) columns) cells) (pushed ∙ ap (λ w. laid ++ (column.field, w) ∷ []) value)
    ∙ ap (λ n. (laid ++ laid_cell cells column ∷ []) ++ laid_cells (drop n columns) cells) e
    ∙ append_assoc laid (laid_cell cells column ∷ []) (laid_cells (drop (suc at) columns) cells)
    ∙ ap (λ cs. laid ++ laid_cells cs cells) (sym left)

-- one more of each
pub zip-push : {X Y : Type 0} (P : X → Y → Type 0) (xs : List X) (ys : List Y) (x : X) (y : Y) → AllZip P xs ys → P x y → AllZip P (xs ++ x ∷ []) (ys ++ y ∷ [])
zip-push P [] [] x y all one = (one, tt)
zip-push P [] (b ∷ ys) x y all one = absurd all
zip-push P (a ∷ xs) [] x y all one = absurd all
zip-push P (a ∷ xs) (b ∷ ys) x y all one = (all.0, zip-push P xs ys x y all.1 one)

-- one more inlined row
pub one_inlined : {A : Type 0} (columns : List Column) (made now : List (Arc Row A)) (row : InlinedRow) (shared : Arc Row A) → IsInlined columns row (arc_value shared) → now ≡ made ++ shared ∷ []
    → (rows : List InlinedRow) → AreInlined columns rows made → AreInlined columns (rows ++ row ∷ []) now
one_inlined columns made now row shared one is rows all =
    subst (λ ms. AllZip (IsInlined columns) (rows ++ row ∷ []) (map (λ r. arc_value r) ms)) (sym is)
    (subst (AllZip (IsInlined columns) (rows ++ row ∷ [])) (sym (map-append (λ r. arc_value r) made (shared ∷ []))) (zip-push (IsInlined columns) rows (map (λ r. arc_value r) made) row (arc_value shared) all one))
