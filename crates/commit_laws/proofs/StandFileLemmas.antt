-- The rows of new data files, by table.
use Rattle.std.proofs.Common.{◌≡◌, ℕ, ◌+◌, ◌≤◌, ◌==◌, Bool, true, false, cond, List, [], ◌∷◌, map, Option, Some, None, refl, ap, ap₂, ◌∙◌, arith}
use Rattle.std.specs.List.{AllByRecursion}
use Rattle.lake_model.specs.Apply.{Creation, is_ref, table_id}
use Rattle.lake_model.specs.declared.change.Ref.{Ref}
use Rattle.cat_rows.specs.Tables.{Tables}
use Rattle.cat_rows.specs.declared.files.DeleteFileRow.{DeleteFileRow}
use Rattle.cat_view.specs.Sight.{data_rows, delete_row, file_of, file_with}
use Rattle.cat_view.specs.Staged.{NamedStagedFile}
use Rattle.cat_growth.specs.Fresh as fresh
use Rattle.rebase.specs.Parts.{FreshFile, file_row, file_rows_from, first_row, old_stats}
use Rattle.commit_laws.specs.Commit.{file_id_at}
use Rattle.commit_laws.proofs.StagedLemmas.{files_of, listed}

pub file_id-from : (id : ℕ) (xs : List FreshFile) (at : Ref) → id ≤ file_id_at id xs at
file_id-from id [] at = omega arith
file_id-from id (x ∷ xs) at = elim (is_ref x.table at) as (λ b. id ≤ cond b id (file_id_at (id + 1) xs at)) [ true ↦ (let e : id ≤ id = omega arith in e) | false ↦ (let more = file_id-from (id + 1) xs at in omega (arith, more)) ]

head_of : {X : Type 0} (x y : X) (xs ys : List X) → x ∷ xs ≡ y ∷ ys → (x ≡ y) × (xs ≡ ys)
head_of x y xs ys e = (cc, cc)

module _ (t : Tables) (begin next : ℕ) (new : List Creation) (at : Ref) (table : ℕ) where
  -- the table's id tells its files
  abbrev pub IsTold : FreshFile → Type 0
  IsTold x = (table_id next new x.table == table) ≡ is_ref x.table at

  none-told : (id : ℕ) (xs : List FreshFile) → AllByRecursion IsTold xs → files_of at xs ≡ [] → data_rows table (file_rows_from t begin next new id xs) ≡ []
  none-told id [] told none = refl
  none-told id (x ∷ xs) told none = go (is_ref x.table at) refl (none-told (id + 1) xs told.1)
    where
      go : (b : Bool) → is_ref x.table at ≡ b → (files_of at xs ≡ [] → data_rows table (file_rows_from t begin next new (id + 1) xs) ≡ []) → data_rows table (file_rows_from t begin next new id (x ∷ xs)) ≡ []
      go true is more = absurd (let some : x ∷ files_of at xs ≡ [] = rw is at none in cc)
      go false is more = let test : (table_id next new x.table == table) ≡ false = told.0 ∙ is in rw test (more (rw is at none))

  -- the row of its new file, if it has one
  pub one-file : (id : ℕ) (xs : List FreshFile) → AllByRecursion IsTold xs → (o : Option NamedStagedFile) → files_of at xs ≡ listed at o
      → data_rows table (file_rows_from t begin next new id xs) ≡ map (file_row t begin next new (file_id_at id xs at)) (listed at o)
  one-file id [] told None h = refl
  one-file id [] told (Some f) h = absurd cc
  one-file id (x ∷ xs) told o h = go (is_ref x.table at) refl (one-file (id + 1) xs told.1 o)
    where
      here : (p : Option NamedStagedFile) → x ∷ files_of at xs ≡ listed at p → file_row t begin next new id x ∷ data_rows table (file_rows_from t begin next new (id + 1) xs) ≡ map (file_row t begin next new id) (listed at p)
      here None e = absurd cc
      here (Some f) e =
          let parts = head_of x (record { table = at; file = f }) (files_of at xs) [] e in
          ap₂ (λ (y : FreshFile) l. file_row t begin next new id y ∷ l) parts.0 (none-told (id + 1) xs told.1 parts.1)

      go : (b : Bool) → is_ref x.table at ≡ b → (files_of at xs ≡ listed at o → data_rows table (file_rows_from t begin next new (id + 1) xs) ≡ map (file_row t begin next new (file_id_at (id + 1) xs at)) (listed at o))
          → data_rows table (file_rows_from t begin next new id (x ∷ xs)) ≡ map (file_row t begin next new (file_id_at id (x ∷ xs) at)) (listed at o)
      go true is more = let test : (table_id next new x.table == table) ≡ true = told.0 ∙ is in rw (test, is) (here o (rw is at h))
      go false is more = let test : (table_id next new x.table == table) ≡ false = told.0 ∙ is in rw (test, is) (more (rw is at h))

  -- as a version has it
  pub named-file : (id : ℕ) (deletes : List DeleteFileRow) → delete_row deletes id ≡ None → (o : Option NamedStagedFile)
      → map (file_of deletes) (map (file_row t begin next new id) (listed at o)) ≡ fresh.new_files id (first_row (old_stats t at)) o
  named-file id deletes none None = refl
  named-file id deletes none (Some f) = ap (λ (d : Option DeleteFileRow). file_with d (file_row t begin next new id (record { table = at; file = f })) ∷ []) none
