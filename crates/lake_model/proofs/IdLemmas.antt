-- The ids of rows rise below their counter.
use Rattle.std.proofs.Common.{◌≡◌, ℕ, ◌+◌, ◌<◌, List, [], ◌∷◌, ◌++◌, ◌==◌, map, filter, length, suc, refl, sym, ap, subst, arith, Bool, true, false}
use Rattle.std.specs.Prelude.{not}
use Rattle.std.specs.List.{AllByRecursion}
use Rattle.lake_types.specs.declared.value.Row.{Row}
use Rattle.lake_model.specs.Apply.{Cells, Draft, altered, drafted, is_named, left, numbered, promoted, renamed, settled_table, updated_row, with_column, with_default, with_rows, with_updates, without_column, without_rows, worked}
use Rattle.lake_model.specs.Laws.{HasRowIds, RiseBelow, RowIdsRise}
use Rattle.lake_model.specs.declared.change.Change.{Change}
use Rattle.lake_model.specs.declared.change.Change.TheVariants as change
use Rattle.lake_model.specs.declared.change.RowRef.{RowRef}
use Rattle.lake_model.specs.declared.change.RowRef.TheVariants as row_ref
use Rattle.lake_model.proofs.RiseLemmas.{rise-filter}
use Rattle.lake_model.proofs.TableLemmas.{all-mapped, at-holds, drafts-hold}

abbrev ids : List Row → List ℕ
ids rows = map (λ (r : Row). r.id) rows

-- ---- lists of ids

same-ids : (f : Row → Row) (rows : List Row) → ((r : Row) → (f r).id ≡ r.id) → ids (map f rows) ≡ ids rows
same-ids f [] h = refl
same-ids f (r ∷ rows) h = rw (h r) (ap (λ more. r.id ∷ more) (same-ids f rows h))

updated-id : (rows : List RowRef) (set : Cells) (r : Row) → (updated_row rows set r).id ≡ r.id
updated-id rows set r = go (is_named rows (row_ref.Old r.id)) refl
  where
    go : (b : Bool) → is_named rows (row_ref.Old r.id) ≡ b → (updated_row rows set r).id ≡ r.id
    go true e = rw e refl
    go false e = rw e refl

pub length-numbered : (n : ℕ) (fresh : List Cells) → length (numbered n fresh) ≡ length fresh
length-numbered n [] = refl
length-numbered n (cells ∷ fresh) = ap suc (length-numbered (n + 1) fresh)

past-numbered : (n m : ℕ) (fresh : List Cells) → n < m → AllByRecursion (λ y. n < y) (ids (numbered m fresh))
past-numbered n m [] lt = tt
past-numbered n m (cells ∷ fresh) lt = (lt, past-numbered n (m + 1) fresh (omega (arith, lt)))

rise-numbered : (n : ℕ) (fresh : List Cells) → RiseBelow (n + length fresh) (ids (numbered n fresh))
rise-numbered n [] = tt
rise-numbered n (cells ∷ fresh) =
    let limit : (n + 1) + length fresh ≡ n + length (cells ∷ fresh) = omega arith in
    (omega arith, past-numbered n (n + 1) fresh (omega arith), subst (λ l. RiseBelow l (ids (numbered (n + 1) fresh))) limit (rise-numbered (n + 1) fresh))

past-append : (x n : ℕ) (rows : List Row) (fresh : List Cells) → x < n → AllByRecursion (λ y. x < y) (ids rows) → AllByRecursion (λ y. x < y) (ids (rows ++ numbered n fresh))
past-append x n [] fresh lt h = past-numbered x n fresh lt
past-append x n (r ∷ rows) fresh lt h = (h.0, past-append x n rows fresh lt h.1)

rise-append : (n : ℕ) (rows : List Row) (fresh : List Cells) → RiseBelow n (ids rows) → RiseBelow (n + length fresh) (ids (rows ++ numbered n fresh))
rise-append n [] fresh h = rise-numbered n fresh
rise-append n (r ∷ rows) fresh h = (omega (arith, h.0), past-append r.id n rows fresh h.0 h.1, rise-append n rows fresh h.2)

-- ---- drafts

abbrev Rises : Draft → Type 0
Rises d = RiseBelow d.next_row (ids d.rows)

cells-rise : (f : Cells → Cells) (d : Draft) → Rises d → RiseBelow d.next_row (ids (map (λ (r : Row). record r { cells = f r.cells }) d.rows))
cells-rise f d h = subst (RiseBelow d.next_row) (sym (same-ids (λ (r : Row). record r { cells = f r.cells }) d.rows (λ r. refl))) h

altered-rises : (c : Change) (d : Draft) → Rises d → Rises (altered c d)
altered-rises (change.AddColumn table column) d h = at-holds Rises table (with_column column) d h (cells-rise (λ cells. cells ++ (column.field, column.initial) ∷ []) d h)
altered-rises (change.DropColumn table field) d h = at-holds Rises table (without_column field) d h (cells-rise (λ cells. filter (λ cell. not (cell.0 == field)) cells) d h)
altered-rises (change.RenameColumn table field name) d h = at-holds Rises table (renamed field name) d h h
altered-rises (change.PromoteColumn table field ty) d h = at-holds Rises table (promoted field ty) d h h
altered-rises (change.SetDefault table field value) d h = at-holds Rises table (with_default field value) d h h
altered-rises (change.Insert table rows) d h = at-holds Rises table (with_rows rows) d h h
altered-rises (change.Delete table rows) d h =
    at-holds Rises table (without_rows rows) d h (rise-filter (λ (r : Row). r.id) d.next_row (λ r. not (is_named rows (row_ref.Old r.id))) d.rows h)
altered-rises (change.Update table rows set) d h =
    at-holds Rises table (with_updates rows set) d h (subst (RiseBelow d.next_row) (sym (same-ids (updated_row rows set) d.rows (updated-id rows set))) h)
altered-rises c d h = h

pub row_ids_rise : RowIdsRise
row_ids_rise s own h =
    let old = all-mapped HasRowIds Rises drafted (λ t rise. rise) s.tables h in
    all-mapped Rises HasRowIds (settled_table s.next_catalog (worked s own).created)
    (λ d rise. rise-append d.next_row d.rows (left d.fresh) rise) (worked s own).tables
    (drafts-hold Rises altered-rises (λ n schema name columns. tt) s own old)
