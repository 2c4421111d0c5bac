-- How a version is put together, table by table.
use Rattle.std.proofs.Common.{◌≡◌, ℕ, ◌==◌, Bool, true, false, cond, List, [], ◌∷◌, filter, map, Option, None, nat_lt, refl, sym, ap, ap₂, subst, ◌∙◌}
use Rattle.std.specs.Prelude.{IfSome}
use Rattle.std.specs.List.{AllByRecursion, AllZip, slice_get}
use Rattle.lake_types.specs.declared.value.Column.{Column}
use Rattle.cat_tables.specs.Table.{IsBelow, RisesByKey}
use Rattle.cat_tables.specs.Validity.{Validity, is_visible, visible_at}
use Rattle.cat_rows.specs.Keys.{data_file_key}
use Rattle.cat_rows.specs.Tables.{Tables}
use Rattle.cat_rows.specs.Validities.{column_validity, data_file_validity, delete_file_validity, inlined_row_validity}
use Rattle.cat_rows.specs.declared.files.DataFileRow.{DataFileRow}
use Rattle.cat_rows.specs.declared.files.DeleteFileRow.{DeleteFileRow}
use Rattle.cat_rows.specs.declared.inlined.InlinedRow.{InlinedRow}
use Rattle.cat_rows.specs.declared.schemas.ColumnRow.{ColumnRow}
use Rattle.cat_texts.specs.Spelled.{IsColumnOf}
use Rattle.cat_view.specs.Columns.{SpellsColumn, in_order}
use Rattle.cat_view.specs.Groups.{id_key, is_owner, rows_of}
use Rattle.cat_view.specs.Held.{IsHeld}
use Rattle.cat_view.specs.Inlined.{SpellsCells}
use Rattle.cat_view.specs.LiveFiles.{CanBeLive, file_ids}
use Rattle.cat_view.specs.Named.{ordered, put_by}
use Rattle.cat_view.specs.Owners.{column_owner, data_file_owner, delete_file_owner, inlined_owner, owner_if}
use Rattle.cat_view.specs.Reading.{CanBeSeen}
use Rattle.cat_view.specs.Sight.{column_rows}
use Rattle.cat_view.specs.declared.held.HeldFile.{HeldFile}

-- ids of files rise as their rows do
pub files_rise : (rows : List DataFileRow) → RisesByKey data_file_key rows → RisesByKey id_key (file_ids rows)
files_rise [] up = tt
files_rise (r ∷ rows) up = (above rows up.0, files_rise rows up.1)
  where
    above : (rs : List DataFileRow) → AllByRecursion (IsBelow data_file_key r) rs → AllByRecursion (IsBelow id_key r.data_file_id) (file_ids rs)
    above [] h = tt
    above (q ∷ rs) h = (h.0, above rs h.1)

-- ---- what a snapshot sees, by owner

module _ {R : Type 0} (v : Validity R) (s : ℕ) (owner : R → ℕ) where
  abbrev pub by : R → Option ℕ
  by r = owner_if (is_visible v s r) (owner r)

  -- what holds of all that is seen holds of what one owner has of it
  pub owned_have : (P : R → Type 0) (id : ℕ) (rows : List R) → ((r : R) → P (v.with_end None r) → P r) → AllByRecursion P (visible_at v s rows) → AllByRecursion P (rows_of by id rows)
  owned_have P id [] back all = tt
  owned_have P id (r ∷ rows) back all = go (is_visible v s r) refl (λ more. owned_have P id rows back more)
    where
      go : (b : Bool) → is_visible v s r ≡ b → (AllByRecursion P (visible_at v s rows) → AllByRecursion P (rows_of by id rows)) → AllByRecursion P (cond (is_owner id (owner_if b (owner r))) (r ∷ rows_of by id rows) (rows_of by id rows))
      go false e more = more (subst (λ b. AllByRecursion P (map (v.with_end None) (cond b (r ∷ filter (is_visible v s) rows) (filter (is_visible v s) rows)))) e all)
      go true e more =
          let both = subst (λ b. AllByRecursion P (map (v.with_end None) (cond b (r ∷ filter (is_visible v s) rows) (filter (is_visible v s) rows)))) e all in
          take (owner r == id) (back r both.0) (more both.1)
        where
          take : (b : Bool) → P r → AllByRecursion P (rows_of by id rows) → AllByRecursion P (cond b (r ∷ rows_of by id rows) (rows_of by id rows))
          take true h more = (h, more)
          take false h more = more

  -- Without their ends they are those of the seen rows that are the owner's.
  pub owned_seen : (id : ℕ) (rows : List R) → ((r : R) → owner (v.with_end None r) ≡ owner r) → map (v.with_end None) (rows_of by id rows) ≡ filter (λ r. owner r == id) (visible_at v s rows)
  owned_seen id [] same = refl
  owned_seen id (r ∷ rows) same = go (is_visible v s r) (owned_seen id rows same)
    where
      go : (b : Bool) → map (v.with_end None) (rows_of by id rows) ≡ filter (λ q. owner q == id) (visible_at v s rows)
          → map (v.with_end None) (cond (is_owner id (owner_if b (owner r))) (r ∷ rows_of by id rows) (rows_of by id rows))
          ≡ filter (λ q. owner q == id) (map (v.with_end None) (cond b (r ∷ filter (is_visible v s) rows) (filter (is_visible v s) rows)))
      go false more = more
      go true more =
          take (owner r == id)
          ∙ ap (λ b. cond b (v.with_end None r ∷ filter (λ q. owner q == id) (visible_at v s rows)) (filter (λ q. owner q == id) (visible_at v s rows))) (ap (λ o. o == id) (sym (same r)))
        where
          take : (b : Bool) → map (v.with_end None) (cond b (r ∷ rows_of by id rows) (rows_of by id rows)) ≡ cond b (v.with_end None r ∷ filter (λ q. owner q == id) (visible_at v s rows)) (filter (λ q. owner q == id) (visible_at v s rows))
          take true = ap (λ l. v.with_end None r ∷ l) more
          take false = more

-- ---- columns

-- what keeps each number keeps the order
pub ordered-map : {X Y : Type 0} (n : X → ℕ) (m : Y → ℕ) (f : X → Y) → ((x : X) → m (f x) ≡ n x) → (xs : List X) → ordered m (map f xs) ≡ map f (ordered n xs)
ordered-map n m f same [] = refl
ordered-map {X = X} n m f same (x ∷ xs) = ap (put_by m (f x)) (ordered-map n m f same xs) ∙ put (ordered n xs)
  where
    put : (ys : List X) → put_by m (f x) (map f ys) ≡ map f (put_by n x ys)
    put [] = refl
    put (y ∷ ys) =
        ap₂ (λ a b. cond (nat_lt a b) (f y ∷ put_by m (f x) (map f ys)) (f x ∷ f y ∷ map f ys)) (same y) (same x)
        ∙ go (nat_lt (n y) (n x)) (put ys)
      where
        go : (b : Bool) → put_by m (f x) (map f ys) ≡ map f (put_by n x ys) → cond b (f y ∷ put_by m (f x) (map f ys)) (f x ∷ f y ∷ map f ys) ≡ map f (cond b (y ∷ put_by n x ys) (x ∷ y ∷ ys))
        go true more = ap (λ l. f y ∷ l) more
        go false more = refl

abbrev open_column : ColumnRow → ColumnRow
open_column r = record r { end_snapshot = None }

opened : (rows : List ColumnRow) (columns : List Column) → AllZip IsColumnOf rows columns → AllZip IsColumnOf (map open_column rows) columns
opened [] [] all = tt
opened [] (c ∷ cs) all = absurd all
opened (r ∷ rs) [] all = absurd all
opened (r ∷ rs) (c ∷ cs) all =
    (record { field = all.0.field; name = all.0.name; ty = all.0.ty; initial = all.0.initial; default_value = all.0.default_value; nulls = all.0.nulls }, opened rs cs all.1)

-- a table's own rows spell the columns that the snapshot sees of it
pub columns_seen : (s id : ℕ) (rows : List ColumnRow) (columns : List Column) → AllZip IsColumnOf (in_order (rows_of (column_owner s) id rows)) columns
    → AllZip IsColumnOf (column_rows id (visible_at column_validity s rows)) columns
columns_seen s id rows columns all =
    subst (λ rs. AllZip IsColumnOf rs columns)
    (sym (ordered-map (λ (r : ColumnRow). r.column_order) (λ (r : ColumnRow). r.column_order) open_column (λ r. refl) (rows_of (column_owner s) id rows)) ∙ ap in_order (owned_seen column_validity s (λ (r : ColumnRow). r.table_id) id rows (λ r. refl)))
    (opened (in_order (rows_of (column_owner s) id rows)) columns all)

-- what holds of rows without their ends, where ends don't matter
kept_open : {R : Type 0} (strip : R → R) (P : R → Type 0) → ((r : R) → P (strip r) → P r) → (rows : List R) → AllByRecursion P (map strip rows) → AllByRecursion P rows
kept_open strip P back [] all = tt
kept_open strip P back (r ∷ rows) all = (back r all.0, kept_open strip P back rows all.1)

-- what holds of all that is seen of one owner holds of the rows that are its own
own_have : {R : Type 0} (v : Validity R) (s : ℕ) (owner : R → ℕ) (P : R → Type 0) (id : ℕ) (rows : List R) → ((r : R) → owner (v.with_end None r) ≡ owner r) → ((r : R) → P (v.with_end None r) → P r)
    → AllByRecursion P (filter (λ r. owner r == id) (visible_at v s rows)) → AllByRecursion P (rows_of (by v s owner) id rows)
own_have v s owner P id rows same back all =
    kept_open (v.with_end None) P back (rows_of (by v s owner) id rows) (subst (AllByRecursion P) (sym (owned_seen v s owner id rows same)) all)

pub spells : (s id : ℕ) (rows : List ColumnRow) → AllByRecursion SpellsColumn (filter (λ (r : ColumnRow). r.table_id == id) (visible_at column_validity s rows)) → AllByRecursion SpellsColumn (rows_of (column_owner s) id rows)
spells s id rows = own_have column_validity s (λ (r : ColumnRow). r.table_id) SpellsColumn id rows (λ r. refl)
    (λ r h none. h (λ c is small. none c (record { field = is.field; name = is.name; ty = is.ty; initial = is.initial; default_value = is.default_value; nulls = is.nulls }) small))

pub spells_cells : (s id : ℕ) (rows : List InlinedRow) → AllByRecursion SpellsCells (filter (λ (r : InlinedRow). r.table_id == id) (visible_at inlined_row_validity s rows)) → AllByRecursion SpellsCells (rows_of (inlined_owner s) id rows)
spells_cells s id rows = own_have inlined_row_validity s (λ (r : InlinedRow). r.table_id) SpellsCells id rows (λ r. refl) (λ r h. h)

-- ---- data files

module _ {F : Type 0} (name : F → List ℕ) (held : List (HeldFile F)) (t : Tables) (s : ℕ) (can : CanBeSeen name held t s) where
  first_has : (P : DeleteFileRow → Type 0) (rows : List DeleteFileRow) → AllByRecursion P rows → IfSome (slice_get rows 0) P
  first_has P [] all = tt
  first_has P (r ∷ rows) all = all.0

  delete_held : (id : ℕ) → IfSome (slice_get (rows_of (delete_file_owner s) id t.delete_file) 0) (λ (d : DeleteFileRow). IsHeld name held d.path)
  delete_held id =
      first_has (λ (d : DeleteFileRow). IsHeld name held d.path) (rows_of (delete_file_owner s) id t.delete_file)
      (owned_have delete_file_validity s (λ (d : DeleteFileRow). d.data_file_id) (λ (d : DeleteFileRow). IsHeld name held d.path) id t.delete_file (λ r h. h) can.delete_files)

  live_from : (columns : List Column) (rows : List DataFileRow) → AllByRecursion (λ (f : DataFileRow). IsHeld name held f.path) rows → AllByRecursion (CanBeLive name held s t columns) rows
  live_from columns [] files = tt
  live_from columns (f ∷ rows) files = (record { file = files.0; deletes = delete_held f.data_file_id }, live_from columns rows files.1)

  -- the data files of a table can be read
  pub can_live : (id : ℕ) (columns : List Column) → AllByRecursion (CanBeLive name held s t columns) (rows_of (data_file_owner s) id t.data_file)
  can_live id columns =
      live_from columns (rows_of (data_file_owner s) id t.data_file)
      (owned_have data_file_validity s (λ (f : DataFileRow). f.table_id) (λ (f : DataFileRow). IsHeld name held f.path) id t.data_file (λ r h. h) can.data_files)
