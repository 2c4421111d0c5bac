-- Each row has exactly the cells of its table's columns.
use Rattle.std.proofs.Common.{◌≡◌, ℕ, ◌+◌, List, [], ◌∷◌, ◌++◌, ◌==◌, map, filter, refl, sym, ap, ◌∙◌, Bool, true, false}
use Rattle.std.specs.Prelude.{Option, Some, None, not, option_map}
use Rattle.std.specs.List.{AllByRecursion}
use Rattle.std.proofs.lemmas.List.{map-append}
use Rattle.lake_types.specs.Cells.{laid_cells}
use Rattle.lake_types.specs.declared.value.Column.{Column}
use Rattle.lake_types.specs.declared.value.Row.{Row}
use Rattle.lake_types.specs.declared.value.Value.{Value}
use Rattle.lake_model.specs.Apply.{Cells, Draft, altered, at_field, drafted, fresh_from, is_named, left, numbered, promoted, renamed, set_cells, settled_table, updated_row, with_column, with_default, with_rows, with_updates, without_column, without_rows, worked}
use Rattle.lake_model.specs.Laws.{CellsStand, HasCells, HasCellsOf, fields_of}
use Rattle.lake_model.specs.declared.change.Change.{Change}
use Rattle.lake_model.specs.declared.change.Change.TheVariants as change
use Rattle.lake_model.specs.declared.change.RowRef.{RowRef}
use Rattle.lake_model.specs.declared.change.RowRef.TheVariants as row_ref
use Rattle.lake_model.proofs.TableLemmas.{all-joined, all-left, all-mapped, at-holds, drafts-hold}

-- ---- a row

abbrev RowOf : List Column → Row → Type 0
RowOf columns r = HasCellsOf columns r.cells

-- a fresh row, where it is left
abbrev FreshOf : List Column → Option Cells → Type 0
FreshOf columns None = Unit {0}
FreshOf columns (Some cells) = HasCellsOf columns cells

laid-stands : (columns : List Column) (cells : Cells) → HasCellsOf columns (laid_cells columns cells)
laid-stands [] cells = refl
laid-stands (c ∷ columns) cells = ap (λ l. c.field ∷ l) (laid-stands columns cells)

set-stands : (set cells : Cells) → map (λ (cell : ℕ × Value). cell.0) (set_cells set cells) ≡ map (λ (cell : ℕ × Value). cell.0) cells
set-stands set [] = refl
set-stands set (cell ∷ cells) = ap (λ l. cell.0 ∷ l) (set-stands set cells)

-- an element that a test of its number takes away
filter-mapped : {X : Type 0} (key : X → ℕ) (field : ℕ) (xs : List X) → map key (filter (λ x. not (key x == field)) xs) ≡ filter (λ n. not (n == field)) (map key xs)
filter-mapped key field [] = refl
filter-mapped key field (x ∷ xs) = go (key x == field) refl (filter-mapped key field xs)
  where
    go : (b : Bool) → (key x == field) ≡ b → map key (filter (λ y. not (key y == field)) xs) ≡ filter (λ n. not (n == field)) (map key xs)
        → map key (filter (λ y. not (key y == field)) (x ∷ xs)) ≡ filter (λ n. not (n == field)) (map key (x ∷ xs))
    go true e more = rw e more
    go false e more = rw e (ap (λ l. key x ∷ l) more)

-- ---- a draft

pub record Stands (d : Draft) : Type 0 where
  pub rows : AllByRecursion (RowOf d.columns) d.rows
  pub fresh : AllByRecursion (FreshOf d.columns) d.fresh

fresh-mapped : (old new : List Column) (f : Cells → Cells) → ((cells : Cells) → HasCellsOf old cells → HasCellsOf new (f cells)) → (o : Option Cells) → FreshOf old o → FreshOf new (option_map f o)
fresh-mapped old new f step None h = tt
fresh-mapped old new f step (Some cells) h = step cells h

-- each row's cells are changed, and so are the columns
cells-stand : (d : Draft) (columns : List Column) (next : ℕ) (f : Cells → Cells) → ((cells : Cells) → HasCellsOf d.columns cells → HasCellsOf columns (f cells)) → Stands d
    → Stands (record d { columns = columns; rows = map (λ (r : Row). record r { cells = f r.cells }) d.rows; fresh = map (option_map f) d.fresh; next_field = next })
cells-stand d columns next f step h = record {
  rows = all-mapped (RowOf d.columns) (RowOf columns) (λ (r : Row). record r { cells = f r.cells }) (λ r k. step r.cells k) d.rows h.rows;
  fresh = all-mapped (FreshOf d.columns) (FreshOf columns) (option_map f) (fresh-mapped d.columns columns f step) d.fresh h.fresh;
}

-- columns that keep their field ids
pub fields-same : (field : ℕ) (f : Column → Column) → ((c : Column) → (f c).field ≡ c.field) → (columns : List Column) → fields_of (map (at_field field f) columns) ≡ fields_of columns
fields-same field f keeps [] = refl
fields-same field f keeps (c ∷ columns) = go (c.field == field) refl (fields-same field f keeps columns)
  where
    go : (b : Bool) → (c.field == field) ≡ b → fields_of (map (at_field field f) columns) ≡ fields_of columns → fields_of (map (at_field field f) (c ∷ columns)) ≡ fields_of (c ∷ columns)
    go true e more = rw e (rw (keeps c) (ap (λ l. c.field ∷ l) more))
    go false e more = rw e (ap (λ l. c.field ∷ l) more)

columns-stand : (d : Draft) (columns : List Column) → fields_of columns ≡ fields_of d.columns → Stands d → Stands (record d { columns = columns })
columns-stand d columns same h = record {
  rows = rows d.rows h.rows;
  fresh = fresh d.fresh h.fresh;
}
  where
    rows : (rs : List Row) → AllByRecursion (RowOf d.columns) rs → AllByRecursion (RowOf columns) rs
    rows [] k = tt
    rows (r ∷ rs) k = (k.0 ∙ sym same, rows rs k.1)

    fresh : (os : List (Option Cells)) → AllByRecursion (FreshOf d.columns) os → AllByRecursion (FreshOf columns) os
    fresh [] k = tt
    fresh (None ∷ os) k = (tt, fresh os k.1)
    fresh (Some cells ∷ os) k = (k.0 ∙ sym same, fresh os k.1)

fresh-stand : (columns : List Column) (n : ℕ) (rows : List RowRef) (f : Cells → Option Cells) → ((cells : Cells) → HasCellsOf columns cells → FreshOf columns (f cells))
    → (os : List (Option Cells)) → AllByRecursion (FreshOf columns) os → AllByRecursion (FreshOf columns) (fresh_from n rows f os)
fresh-stand columns n rows f step [] h = tt
fresh-stand columns n rows f step (None ∷ os) h = (tt, fresh-stand columns (n + 1) rows f step os h.1)
fresh-stand columns n rows f step (Some cells ∷ os) h = go (is_named rows (row_ref.Fresh n)) refl (fresh-stand columns (n + 1) rows f step os h.1)
  where
    go : (b : Bool) → is_named rows (row_ref.Fresh n) ≡ b → AllByRecursion (FreshOf columns) (fresh_from (n + 1) rows f os) → AllByRecursion (FreshOf columns) (fresh_from n rows f (Some cells ∷ os))
    go true e rest = rw e (step cells h.0, rest)
    go false e rest = rw e (h.0, rest)

laid-all : (columns : List Column) (rows : List Cells) → AllByRecursion (FreshOf columns) (map (λ cells. Some (laid_cells columns cells)) rows)
laid-all columns [] = tt
laid-all columns (cells ∷ rows) = (laid-stands columns cells, laid-all columns rows)

updated-stands : (columns : List Column) (rows : List RowRef) (set : Cells) (r : Row) → RowOf columns r → RowOf columns (updated_row rows set r)
updated-stands columns rows set r h = go (is_named rows (row_ref.Old r.id)) refl
  where
    go : (b : Bool) → is_named rows (row_ref.Old r.id) ≡ b → RowOf columns (updated_row rows set r)
    go true e = rw e (set-stands set r.cells ∙ h)
    go false e = rw e h

-- ---- each change

added-stands : (column : Column) (d : Draft) → Stands d → Stands (with_column column d)
added-stands column d h = cells-stand d (d.columns ++ column ∷ []) (column.field + 1) (λ cells. cells ++ (column.field, column.initial) ∷ []) step h
  where
    step : (cells : Cells) → HasCellsOf d.columns cells → HasCellsOf (d.columns ++ column ∷ []) (cells ++ (column.field, column.initial) ∷ [])
    step cells k =
        map-append (λ (cell : ℕ × Value). cell.0) cells ((column.field, column.initial) ∷ [])
        ∙ ap (λ l. l ++ column.field ∷ []) k ∙ sym (map-append (λ (c : Column). c.field) d.columns (column ∷ []))

dropped-stands : (field : ℕ) (d : Draft) → Stands d → Stands (without_column field d)
dropped-stands field d h = cells-stand d (filter (λ (c : Column). not (c.field == field)) d.columns) d.next_field (λ cells. filter (λ (cell : ℕ × Value). not (cell.0 == field)) cells) step h
  where
    step : (cells : Cells) → HasCellsOf d.columns cells → HasCellsOf (filter (λ (c : Column). not (c.field == field)) d.columns) (filter (λ (cell : ℕ × Value). not (cell.0 == field)) cells)
    step cells k =
        filter-mapped (λ (cell : ℕ × Value). cell.0) field cells ∙ ap (filter (λ n. not (n == field))) k
        ∙ sym (filter-mapped (λ (c : Column). c.field) field d.columns)

altered-stands : (c : Change) (d : Draft) → Stands d → Stands (altered c d)
altered-stands (change.AddColumn table column) d h = at-holds Stands table (with_column column) d h (added-stands column d h)
altered-stands (change.DropColumn table field) d h = at-holds Stands table (without_column field) d h (dropped-stands field d h)
altered-stands (change.RenameColumn table field name) d h =
    at-holds Stands table (renamed field name) d h (columns-stand d (map (at_field field (λ c. record c { name = name })) d.columns) (fields-same field (λ c. record c { name = name }) (λ c. refl) d.columns) h)
altered-stands (change.PromoteColumn table field ty) d h =
    at-holds Stands table (promoted field ty) d h (columns-stand d (map (at_field field (λ c. record c { ty = ty })) d.columns) (fields-same field (λ c. record c { ty = ty }) (λ c. refl) d.columns) h)
altered-stands (change.SetDefault table field value) d h =
    at-holds Stands table (with_default field value) d h (columns-stand d (map (at_field field (λ c. record c { default_value = value })) d.columns) (fields-same field (λ c. record c { default_value = value }) (λ c. refl) d.columns) h)
altered-stands (change.Insert table rows) d h =
    at-holds Stands table (with_rows rows) d h
    (record { rows = h.rows; fresh = all-joined (FreshOf d.columns) d.fresh (map (λ cells. Some (laid_cells d.columns cells)) rows) h.fresh (laid-all d.columns rows) })
altered-stands (change.Delete table rows) d h =
    at-holds Stands table (without_rows rows) d h
    (record { rows = all-left (RowOf d.columns) (λ r. not (is_named rows (row_ref.Old r.id))) d.rows h.rows; fresh = fresh-stand d.columns 0 rows (λ cells. None) (λ cells k. tt) d.fresh h.fresh })
altered-stands (change.Update table rows set) d h =
    at-holds Stands table (with_updates rows set) d h
    (record {
      rows = all-mapped (RowOf d.columns) (RowOf d.columns) (updated_row rows set) (updated-stands d.columns rows set) d.rows h.rows;
      fresh = fresh-stand d.columns 0 rows (λ cells. Some (set_cells set cells)) (λ cells k. set-stands set cells ∙ k) d.fresh h.fresh;
    })
altered-stands c d h = h

-- ---- the whole list

numbered-stand : (columns : List Column) (n : ℕ) (os : List (Option Cells)) → AllByRecursion (FreshOf columns) os → AllByRecursion (RowOf columns) (numbered n (left os))
numbered-stand columns n [] h = tt
numbered-stand columns n (None ∷ os) h = numbered-stand columns n os h.1
numbered-stand columns n (Some cells ∷ os) h = (h.0, numbered-stand columns (n + 1) os h.1)

pub cells_stand : CellsStand
cells_stand s own h =
    let old = all-mapped HasCells Stands drafted (λ t k. record { rows = k; fresh = tt }) s.tables h in
    all-mapped Stands HasCells (settled_table s.next_catalog (worked s own).created)
    (λ d k. all-joined (RowOf d.columns) d.rows (numbered d.next_row (left d.fresh)) k.rows (numbered-stand d.columns d.next_row d.fresh k.fresh)) (worked s own).tables
    (drafts-hold Stands altered-stands (λ n schema name columns. record { rows = tt; fresh = tt }) s own old)
