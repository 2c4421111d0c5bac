-- The rows that a commit makes: what all of them have, and that they rise by key.
use Rattle.std.proofs.Common.{◌≡◌, ℕ, ◌+◌, ◌<◌, ◌≤◌, Bool, true, false, cond, ◌&&◌, List, [], ◌∷◌, filter, refl, sym, ap, ◌∙◌, subst, arith, Option, Some, None, is_lt}
use Rattle.std.specs.Prelude.{is_none, length}
use Rattle.std.specs.List.{AllByRecursion}
use Rattle.std.proofs.lemmas.Bool.{le-leb, le-ltb}
use Rattle.lake_types.specs.declared.value.Column.{Column}
use Rattle.lake_model.specs.Apply.{Creation, fields_from}
use Rattle.cat_tables.specs.Table.{IsAscending, key_cmp}
use Rattle.cat_tables.specs.Validity.{EndsBy, IsBy, IsNew, IsValidity, Validity, is_before, is_visible, visible_at}
use Rattle.cat_rows.specs.Keys.{column_key, data_file_key}
use Rattle.cat_rows.specs.Tables.{Tables}
use Rattle.cat_rows.specs.Validities.{column_validity, data_file_validity}
use Rattle.cat_rows.specs.declared.files.DataFileRow.{DataFileRow}
use Rattle.cat_rows.specs.declared.schemas.ColumnRow.{ColumnRow}
use Rattle.cat_rules.proofs.FirstLemmas.{all_like}
use Rattle.cat_texts.specs.Written.{column_row}
use Rattle.rebase.specs.Parts.{FreshFile, column_rows_from, file_rows_from, going}
use Rattle.commit_laws.proofs.ListLemmas.{lt_first, lt_second}

-- ---- what goes is what the head sees of it

module _ {R : Type 0} (v : Validity R) (key : R → List ℕ) (laws : IsValidity v key) (n : ℕ) where
  -- the newest snapshot sees the rows without an end
  pub sees_open : (r : R) → IsBy v n r → is_visible v n r ≡ is_none (v.end r)
  sees_open r by = ap (λ b. b && is_before n (v.end r)) (le-leb (v.begin r) n by.0) ∙ go (v.end r) by.1
    where
      go : (e : Option ℕ) → EndsBy n e → is_before n e ≡ is_none e
      go None h = refl
      go (Some e) h = le-ltb n e h

  open_row : (r : R) → is_none (v.end r) ≡ true → v.with_end None r ≡ r
  open_row r e = laws.opens r (go (v.end r) e)
    where
      go : (o : Option ℕ) → is_none o ≡ true → o ≡ None
      go None h = refl
      go (Some x) h = cc

  pub going_is : (goes : R → Bool) (rows : List R) → AllByRecursion (IsBy v n) rows → going v goes rows ≡ filter goes (visible_at v n rows)
  going_is goes [] by = refl
  going_is goes (r ∷ rows) by = go (is_none (v.end r)) refl (going_is goes rows by.1)
    where
      go : (b : Bool) → is_none (v.end r) ≡ b → going v goes rows ≡ filter goes (visible_at v n rows) → going v goes (r ∷ rows) ≡ filter goes (visible_at v n (r ∷ rows))
      go true e more =
          let sees : is_visible v n r ≡ true = sees_open r by.0 ∙ e in
          rw (e, sees, open_row r e) (ap (λ l. cond (goes r) (r ∷ l) l) more)
      go false e more = let sees : is_visible v n r ≡ false = sees_open r by.0 ∙ e in rw (e, sees) more

-- ---- columns

pub of_table : (begin table k : ℕ) (cs : List Column) → AllByRecursion (λ (r : ColumnRow). r.table_id ≡ table) (column_rows_from table begin k cs)
of_table begin table k [] = tt
of_table begin table k (c ∷ cs) = (refl, of_table begin table (k + 1) cs)

pub new_columns : (begin table k : ℕ) (cs : List Column) → AllByRecursion (IsNew column_validity begin) (column_rows_from table begin k cs)
new_columns begin table k [] = tt
new_columns begin table k (c ∷ cs) = ((refl, refl), new_columns begin table (k + 1) cs)

abbrev pub SoonerColumn : ColumnRow → ColumnRow → Type 0
SoonerColumn a b = is_lt (key_cmp (column_key a) (column_key b)) ≡ true

-- the columns of a new table have field ids that count up
pub columns_rise : (begin table k field : ℕ) (cs : List Column) → IsAscending SoonerColumn (column_rows_from table begin k (fields_from field cs))
columns_rise begin table k field [] = tt
columns_rise begin table k field (c ∷ cs) = (
  all_like (λ (r : ColumnRow). (r.table_id ≡ table) × (field < r.column_id)) (SoonerColumn (column_row table begin k (record c { field = field })))
      (λ r h. subst (λ n. is_lt (key_cmp (table ∷ field ∷ begin ∷ []) (n ∷ r.column_id ∷ r.begin_snapshot ∷ [])) ≡ true) (sym h.0) (lt_second table field r.column_id (begin ∷ []) (r.begin_snapshot ∷ []) h.1))
      (column_rows_from table begin (k + 1) (fields_from (field + 1) cs)) (past (k + 1) (field + 1) cs (omega arith)),
  columns_rise begin table (k + 1) (field + 1) cs,
)
  where
    past : (j next : ℕ) (ds : List Column) → field < next → AllByRecursion (λ (r : ColumnRow). (r.table_id ≡ table) × (field < r.column_id)) (column_rows_from table begin j (fields_from next ds))
    past j next [] h = tt
    past j next (d ∷ ds) h = ((refl, h), past (j + 1) (next + 1) ds (omega (arith, h)))

-- ---- files

module _ (t : Tables) (begin next : ℕ) (new : List Creation) where
  pub new_files : (id : ℕ) (xs : List FreshFile) → AllByRecursion (IsNew data_file_validity begin) (file_rows_from t begin next new id xs)
  new_files id [] = tt
  new_files id (x ∷ xs) = ((refl, refl), new_files (id + 1) xs)

  pub file_ids_from : (low id : ℕ) (xs : List FreshFile) → low ≤ id → AllByRecursion (λ (r : DataFileRow). low ≤ r.data_file_id) (file_rows_from t begin next new id xs)
  file_ids_from low id [] h = tt
  file_ids_from low id (x ∷ xs) h = (h, file_ids_from low (id + 1) xs (omega (arith, h)))

  pub file_ids_below : (id : ℕ) (xs : List FreshFile) → AllByRecursion (λ (r : DataFileRow). r.data_file_id < id + length xs) (file_rows_from t begin next new id xs)
  file_ids_below id [] = tt
  file_ids_below id (x ∷ xs) = (
    omega arith,
    all_like (λ (r : DataFileRow). r.data_file_id < id + 1 + length xs) (λ (r : DataFileRow). r.data_file_id < id + length (x ∷ xs)) (λ r h. omega (arith, h)) (file_rows_from t begin next new (id + 1) xs)
        (file_ids_below (id + 1) xs),
  )

  pub file_ids_rise : (id : ℕ) (xs : List FreshFile) → IsAscending (λ (a b : DataFileRow). is_lt (key_cmp (data_file_key a) (data_file_key b)) ≡ true) (file_rows_from t begin next new id xs)
  file_ids_rise id [] = tt
  file_ids_rise id (x ∷ xs) = (
    all_like (λ (r : DataFileRow). id + 1 ≤ r.data_file_id) (λ (r : DataFileRow). is_lt (key_cmp (id ∷ []) (data_file_key r)) ≡ true) (λ r h. lt_first id r.data_file_id [] [] (omega (arith, h)))
        (file_rows_from t begin next new (id + 1) xs) (file_ids_from (id + 1) (id + 1) xs (omega arith)),
    file_ids_rise (id + 1) xs,
  )
