-- Columns in their order.
use Rattle.std.proofs.Common.{◌≡◌, ℕ, suc, ◌+◌, Bool, true, false, cond, nat_lt, List, [], ◌∷◌, refl, sym, ap, ◌∙◌, arith}
use Rattle.std.specs.List.{AllZip, insert, prefix_len}
use Rattle.lake_types.specs.declared.value.Column.{Column}
use Rattle.cat_rows.specs.declared.schemas.ColumnRow.{ColumnRow}
use Rattle.cat_texts.specs.Spelled.{IsColumnOf}
use Rattle.cat_view.specs.Columns.{ArePlaced, IsPlaced, columns_in, in_order, order_of}
use Rattle.cat_view.specs.Named.{put_by}
use Rattle.cat_view.specs.declared.columns.PlacedColumn.{PlacedColumn}

further : {X : Type 0} (n : ℕ) (y : X) (ys : List X) (x : X) → y ∷ insert ys n x ≡ insert (y ∷ ys) (1 + n) x
further n y ys x = let e : 1 + n ≡ suc n = omega arith in rw e refl

put-insert : {X : Type 0} (n : X → ℕ) (x : X) (ys : List X) → put_by n x ys ≡ insert ys (prefix_len (λ y. nat_lt (n y) (n x)) ys) x
put-insert n x [] = refl
put-insert n x (y ∷ ys) =
    elim (nat_lt (n y) (n x)) as (λ b. cond b (y ∷ put_by n x ys) (x ∷ y ∷ ys) ≡ insert (y ∷ ys) (cond b (1 + prefix_len (λ z. nat_lt (n z) (n x)) ys) 0) x)
    [ true ↦ ap (λ l. y ∷ l) (put-insert n x ys) ∙ further _ y ys x | false ↦ refl ]

pub put_placed : (new : PlacedColumn) (old items : List PlacedColumn) (at : ℕ) → at ≡ prefix_len (λ p. nat_lt (order_of p) new.order) old → items ≡ insert old at new → items ≡ put_by order_of new old
put_placed new old items at count is = is ∙ ap (λ k. insert old k new) count ∙ sym (put-insert order_of new old)

-- one more of each, at the same place
pub zip-put : (r : ColumnRow) (p : PlacedColumn) (rs : List ColumnRow) (ps : List PlacedColumn) → IsPlaced r p → AllZip IsPlaced rs ps
    → AllZip IsPlaced (put_by (λ (q : ColumnRow). q.column_order) r rs) (put_by order_of p ps)
zip-put r p [] [] one all = (one, tt)
zip-put r p [] (q ∷ ps) one all = absurd all
zip-put r p (t ∷ rs) [] one all = absurd all
zip-put r p (t ∷ rs) (q ∷ ps) one all =
    let same : nat_lt q.order p.order ≡ nat_lt t.column_order r.column_order = rw (all.0.order, one.order) refl in
    rw same (go (nat_lt t.column_order r.column_order) (zip-put r p rs ps one all.1))
  where
    go : (b : Bool) → AllZip IsPlaced (put_by (λ (q : ColumnRow). q.column_order) r rs) (put_by order_of p ps)
        → AllZip IsPlaced (cond b (t ∷ put_by (λ (q : ColumnRow). q.column_order) r rs) (r ∷ t ∷ rs)) (cond b (q ∷ put_by order_of p ps) (p ∷ q ∷ ps))
    go true more = (all.0, more)
    go false more = (one, all)

pub without_orders : (rows : List ColumnRow) (placed : List PlacedColumn) → AllZip IsPlaced rows placed → AllZip IsColumnOf rows (columns_in placed)
without_orders [] [] all = tt
without_orders [] (p ∷ ps) all = absurd all
without_orders (r ∷ rs) [] all = absurd all
without_orders (r ∷ rs) (p ∷ ps) all = (all.0.column, without_orders rs ps all.1)

-- one row's column before those of later rows
pub one_column : (row : ColumnRow) (column : Column) (placed : List PlacedColumn) → IsColumnOf row column → (rows : List ColumnRow) → ArePlaced rows placed
    → ArePlaced (row ∷ rows) (put_by order_of (record { order = row.column_order; column = column }) placed)
one_column row column placed is rows all = zip-put row (record { order = row.column_order; column = column }) (in_order rows) placed (record { order = refl; column = is }) all
