-- What is staged for the tables with fresh rows is what a growing list needs.
use Rattle.std.proofs.Common.{◌≡◌, ℕ, suc, ◌+◌, ◌<◌, ◌&&◌, ◌||◌, not, ◌++◌, Bool, true, false, cond, List, [], ◌∷◌, map, filter, All, AllPairs, Option, Some, None, IfSome, unwrap_or, find, refl, sym, ap, ap₂, subst, ◌∙◌, arith}
use Rattle.std.specs.List.{AllByRecursion, AllZip, cons_option, filter_map, list_any}
use Rattle.std.proofs.lemmas.Bool.{ne_eqb}
use Rattle.std.proofs.lemmas.List.{map-append}
use Rattle.lake_types.specs.Cells.{laid_cells}
use Rattle.lake_model.specs.Apply.{Cells, Draft, drafted, is_ref, worked}
use Rattle.lake_model.specs.ByTable.{draft_after, made_from}
use Rattle.lake_model.specs.Growth.{IsGrowth, made_tables, rows_for, with_own_rows}
use Rattle.lake_model.specs.Fits.{Fits}
use Rattle.lake_model.specs.Kinds.{drops_table}
use Rattle.lake_model.specs.State.{State, Table}
use Rattle.lake_model.specs.declared.change.Change.{Change}
use Rattle.lake_model.specs.declared.change.Change.TheVariants as change
use Rattle.lake_model.specs.declared.change.Ref.{Ref}
use Rattle.lake_model.specs.declared.change.Ref.TheVariants as ref
use Rattle.lake_model.proofs.ApplyLemmas.{by_table}
use Rattle.lake_model.proofs.GrowthLemmas.{grows, left_laid, made-tables}
use Rattle.lake_model.proofs.RefLemmas.{ref-is, ref_turned}
use Rattle.lake_model.proofs.TableLemmas.{all-joined}
use Rattle.file_disk.specs.Folder.{Changes, Folder}
use Rattle.cat_view.specs.Files.{Files}
use Rattle.cat_view.specs.Named.{NamedTable, NamedVersion, table_of}
use Rattle.cat_view.specs.Staged.{IsStaged, IsStagedTable, MayHoldCells, NamedStagedFile, NamedStagedTable, are_apart, is_table, nothing_for, staged_for}
use Rattle.cat_view.specs.declared.staged.StagedTable.{StagedTable}
use Rattle.row_files.specs.Folders.{files_of}
use Rattle.row_files.specs.Growing.{HasTables, IsSameTable, fresh_of, fresh_of_old, fresh_tables, has_rows, is_some_row, tables_left}
use Rattle.cat_view.specs.Workable.{HasOtherId}
use Rattle.row_files.specs.Stages.{AddsTables, FreshTable, IsStagedFresh, StagesTables, named_table, named_tables}
use Rattle.row_files.specs.Staging.{named_file}
use Rattle.row_files.proofs.GrowthLemmas.{stages_growth}

-- ---- the tables of a version

pub tables_of_states : (files : Files) (xs : List NamedTable) → AllZip IsSameTable (map (table_of files) xs) xs
tables_of_states files [] = tt
tables_of_states files (x ∷ xs) = (record { id = refl; columns = refl }, tables_of_states files xs)

-- ---- the tables that a list leaves

left_of_old : (own : List Change) (t : Table) (x : NamedTable) → IsSameTable t x → fresh_of (with_own_rows own (drafted t)) ≡ fresh_of_old own x
left_of_old own t x same =
    ap (λ rows. record { table = ref.Old t.id; columns = t.columns; rows = rows }) (left_laid t.columns (rows_for (ref.Old t.id) own))
    ∙ ap₂ (λ id cs. record { table = ref.Old id; columns = cs; rows = map (laid_cells cs) (rows_for (ref.Old id) own) }) same.id same.columns

old_left : (own : List Change) → AllByRecursion IsGrowth own → (ts : List Table) (xs : List NamedTable) → AllZip IsSameTable ts xs
    → map fresh_of (filter_map (draft_after own) (map drafted ts)) ≡ map (fresh_of_old own) (filter (λ (x : NamedTable). not (drops_table own (ref.Old x.id))) xs)
old_left own growth [] [] all = refl
old_left own growth [] (x ∷ xs) all = absurd all
old_left own growth (t ∷ ts) [] all = absurd all
old_left own growth (t ∷ ts) (x ∷ xs) all =
    ap (λ o. map fresh_of (cons_option o (filter_map (draft_after own) (map drafted ts)))) (grows own (drafted t) growth)
    ∙ ap (λ id. map fresh_of (cons_option (cond (drops_table own (ref.Old id)) None (Some (with_own_rows own (drafted t)))) (filter_map (draft_after own) (map drafted ts)))) all.0.id
    ∙ go (drops_table own (ref.Old x.id)) refl (old_left own growth ts xs all.1)
  where
    go : (b : Bool) → drops_table own (ref.Old x.id) ≡ b
        → map fresh_of (filter_map (draft_after own) (map drafted ts)) ≡ map (fresh_of_old own) (filter (λ (y : NamedTable). not (drops_table own (ref.Old y.id))) xs)
        → map fresh_of (cons_option (cond (drops_table own (ref.Old x.id)) None (Some (with_own_rows own (drafted t)))) (filter_map (draft_after own) (map drafted ts)))
        ≡ map (fresh_of_old own) (filter (λ (y : NamedTable). not (drops_table own (ref.Old y.id))) (x ∷ xs))
    go true e more = rw e more
    go false e more = rw e (ap₂ (λ u us. u ∷ us) (left_of_old own t x all.0) more)

pub drafts_are : (v : NamedVersion) (state : State) (own : List Change) → AllByRecursion IsGrowth own → HasTables v state → map fresh_of (worked state own).tables ≡ tables_left v own
drafts_are v state own growth same =
    ap (map fresh_of) (by_table state own)
    ∙ map-append fresh_of (filter_map (draft_after own) (map drafted state.tables)) (made_from 0 own)
    ∙ ap₂ (λ xs ys. xs ++ map fresh_of ys) (old_left own growth state.tables v.tables same) (made-tables 0 own growth)

-- ---- no two have one reference

abbrev pub IsApartFrom : Ref → FreshTable → Type 0
IsApartFrom at u = is_ref u.table at ≡ false

abbrev pub Apart : List FreshTable → Type 0
Apart [] = Unit {0}
Apart (t ∷ ts) = AllByRecursion (IsApartFrom t.table) ts × Apart ts

old_apart : (own : List Change) (x : NamedTable) (xs : List NamedTable) → All (HasOtherId x) xs
    → AllByRecursion (IsApartFrom (ref.Old x.id)) (map (fresh_of_old own) (filter (λ (y : NamedTable). not (drops_table own (ref.Old y.id))) xs))
old_apart own x [] others = tt
old_apart own x (y ∷ ys) others = go (drops_table own (ref.Old y.id)) refl (old_apart own x ys (λ k d lt. others (suc k) d (omega (arith, lt))))
  where
    go : (b : Bool) → drops_table own (ref.Old y.id) ≡ b
        → AllByRecursion (IsApartFrom (ref.Old x.id)) (map (fresh_of_old own) (filter (λ (z : NamedTable). not (drops_table own (ref.Old z.id))) ys))
        → AllByRecursion (IsApartFrom (ref.Old x.id)) (map (fresh_of_old own) (filter (λ (z : NamedTable). not (drops_table own (ref.Old z.id))) (y ∷ ys)))
    go true e more = rw e more
    go false e more = rw e (ne_eqb y.id x.id (λ same. others 0 y (omega arith) (sym same)), more)

olds_apart : (own : List Change) (xs : List NamedTable) → AllPairs HasOtherId xs → Apart (map (fresh_of_old own) (filter (λ (x : NamedTable). not (drops_table own (ref.Old x.id))) xs))
olds_apart own [] apart = tt
olds_apart own (x ∷ xs) apart =
    go (drops_table own (ref.Old x.id)) refl
    (old_apart own x xs (λ k d lt. apart 0 (suc k) d (omega arith) (omega (arith, lt))))
    (olds_apart own xs (λ i j d lt within. apart (suc i) (suc j) d (omega (arith, lt)) (omega (arith, within))))
  where
    go : (b : Bool) → drops_table own (ref.Old x.id) ≡ b
        → AllByRecursion (IsApartFrom (ref.Old x.id)) (map (fresh_of_old own) (filter (λ (z : NamedTable). not (drops_table own (ref.Old z.id))) xs))
        → Apart (map (fresh_of_old own) (filter (λ (z : NamedTable). not (drops_table own (ref.Old z.id))) xs))
        → Apart (map (fresh_of_old own) (filter (λ (z : NamedTable). not (drops_table own (ref.Old z.id))) (x ∷ xs)))
    go true e one more = rw e more
    go false e one more = rw e (one, more)

made_apart : (n k : ℕ) (own : List Change) → k < n → AllByRecursion (IsApartFrom (ref.New k)) (map fresh_of (made_tables n own))
made_apart n k [] lt = tt
made_apart n k (change.CreateTable schema name columns ∷ own) lt = go (drops_table own (ref.New n)) refl (made_apart (n + 1) k own (omega (arith, lt)))
  where
    go : (b : Bool) → drops_table own (ref.New n) ≡ b → AllByRecursion (IsApartFrom (ref.New k)) (map fresh_of (made_tables (n + 1) own))
        → AllByRecursion (IsApartFrom (ref.New k)) (map fresh_of (made_tables n (change.CreateTable schema name columns ∷ own)))
    go true e more = rw e more
    go false e more = rw e (ne_eqb n k (λ same. absurd (omega (arith, same, lt))), more)
made_apart n k (c ∷ own) lt = made_apart n k own lt

mades_apart : (n : ℕ) (own : List Change) → Apart (map fresh_of (made_tables n own))
mades_apart n [] = tt
mades_apart n (change.CreateTable schema name columns ∷ own) = go (drops_table own (ref.New n)) refl (made_apart (n + 1) n own (omega arith)) (mades_apart (n + 1) own)
  where
    go : (b : Bool) → drops_table own (ref.New n) ≡ b → AllByRecursion (IsApartFrom (ref.New n)) (map fresh_of (made_tables (n + 1) own)) → Apart (map fresh_of (made_tables (n + 1) own))
        → Apart (map fresh_of (made_tables n (change.CreateTable schema name columns ∷ own)))
    go true e one more = rw e more
    go false e one more = rw e (one, more)
mades_apart n (c ∷ own) = mades_apart n own

made_no_old : (id n : ℕ) (own : List Change) → AllByRecursion (IsApartFrom (ref.Old id)) (map fresh_of (made_tables n own))
made_no_old id n [] = tt
made_no_old id n (change.CreateTable schema name columns ∷ own) = go (drops_table own (ref.New n)) refl (made_no_old id (n + 1) own)
  where
    go : (b : Bool) → drops_table own (ref.New n) ≡ b → AllByRecursion (IsApartFrom (ref.Old id)) (map fresh_of (made_tables (n + 1) own))
        → AllByRecursion (IsApartFrom (ref.Old id)) (map fresh_of (made_tables n (change.CreateTable schema name columns ∷ own)))
    go true e more = rw e more
    go false e more = rw e (refl, more)
made_no_old id n (c ∷ own) = made_no_old id n own

apart_both : (own : List Change) (xs : List NamedTable) (us : List FreshTable) → ((id : ℕ) → AllByRecursion (IsApartFrom (ref.Old id)) us) → Apart (map (fresh_of_old own) xs) → Apart us
    → Apart (map (fresh_of_old own) xs ++ us)
apart_both own [] us none one two = two
apart_both own (x ∷ xs) us none one two =
    (all-joined (IsApartFrom (ref.Old x.id)) (map (fresh_of_old own) xs) us one.0 (none x.id), apart_both own xs us none one.1 two)

pub left_apart : (v : NamedVersion) (own : List Change) → AllPairs HasOtherId v.tables → Apart (tables_left v own)
left_apart v own ids =
    apart_both own (filter (λ (x : NamedTable). not (drops_table own (ref.Old x.id))) v.tables) (map fresh_of (made_tables 0 own)) (λ id. made_no_old id 0 own) (olds_apart own v.tables ids) (mades_apart 0 own)

-- ---- what is staged for each of them

no_rows : (rows : List Cells) → is_some_row rows ≡ false → rows ≡ []
no_rows [] none = refl
no_rows (r ∷ rows) none = absurd cc

module _ {F : Type 0} (name : F → List ℕ) (size : F → ℕ) (bytes : F → Option (List ℕ)) (images : Folder → Type 0) (folder : Folder) where
  abbrev AreStaged : List FreshTable → List (StagedTable F) → Type 0
  AreStaged ts xs = AllZip (IsStagedFresh name size bytes images folder) (filter has_rows ts) xs

  pub record IsFor (t : FreshTable) (s : NamedStagedTable) : Type 0 where
    pub file : Option NamedStagedFile
    pub is : s ≡ record (nothing_for t.table) { fresh = file }
    pub holds : MayHoldCells (files_of folder) t.columns file t.rows

  same_table : (t : FreshTable) (x : StagedTable F) → IsStagedFresh name size bytes images folder t x → x.table ≡ t.table
  same_table t x s = ap (λ (y : NamedStagedTable). y.table) s.whole

  none_found : (at : Ref) (ts : List FreshTable) (xs : List (StagedTable F)) → AllByRecursion (IsApartFrom at) ts → AreStaged ts xs
      → find (λ (s : NamedStagedTable). is_ref s.table at) (named_tables name size xs) ≡ None
  none_found at [] [] apart all = refl
  none_found at [] (x ∷ xs) apart all = absurd all
  none_found at (t ∷ ts) xs apart all = go (is_some_row t.rows) refl (λ ys more. none_found at ts ys apart.1 more) xs all
    where
      go : (b : Bool) → is_some_row t.rows ≡ b
          → ((ys : List (StagedTable F)) → AreStaged ts ys → find (λ (s : NamedStagedTable). is_ref s.table at) (named_tables name size ys) ≡ None)
          → (xs : List (StagedTable F)) → AreStaged (t ∷ ts) xs → find (λ (s : NamedStagedTable). is_ref s.table at) (named_tables name size xs) ≡ None
      go false e more xs all = more xs (rw e at all)
      go true e more [] all = absurd (let none : ⊥ = rw e at all in none)
      go true e more (x ∷ xs) all =
          let both : IsStagedFresh name size bytes images folder t x × AreStaged ts xs = rw e at all in
          rw (ap (λ a. is_ref a at) (same_table t x both.0) ∙ apart.0) (more xs both.1)

  other_for : (x : StagedTable F) (xs : List (StagedTable F)) (at : Ref) → is_ref x.table at ≡ false → staged_for (named_tables name size (x ∷ xs)) at ≡ staged_for (named_tables name size xs) at
  other_for x xs at other = rw other refl

  others_for : (t : FreshTable) (x : StagedTable F) (xs : List (StagedTable F)) → x.table ≡ t.table → (us : List FreshTable) → AllByRecursion (IsApartFrom t.table) us
      → AllByRecursion (λ u. IsFor u (staged_for (named_tables name size xs) u.table)) us → AllByRecursion (λ u. IsFor u (staged_for (named_tables name size (x ∷ xs)) u.table)) us
  others_for t x xs same [] apart all = tt
  others_for t x xs same (u ∷ us) apart all =
      (subst (IsFor u) (sym (other_for x xs u.table (ap (λ a. is_ref a u.table) same ∙ ref_turned t.table u.table ∙ apart.0))) all.0, others_for t x xs same us apart.1 all.1)

  pub all_for : (ts : List FreshTable) (xs : List (StagedTable F)) → Apart ts → AreStaged ts xs → AllByRecursion (λ t. IsFor t (staged_for (named_tables name size xs) t.table)) ts
  all_for [] xs apart all = tt
  all_for (t ∷ ts) xs apart all = go (is_some_row t.rows) refl (λ ys more. all_for ts ys apart.1 more) xs all
    where
      go : (b : Bool) → is_some_row t.rows ≡ b
          → ((ys : List (StagedTable F)) → AreStaged ts ys → AllByRecursion (λ u. IsFor u (staged_for (named_tables name size ys) u.table)) ts)
          → (xs : List (StagedTable F)) → AreStaged (t ∷ ts) xs → AllByRecursion (λ u. IsFor u (staged_for (named_tables name size xs) u.table)) (t ∷ ts)
      go false e more xs all =
          let rest : AreStaged ts xs = rw e at all in
          let none : staged_for (named_tables name size xs) t.table ≡ nothing_for t.table = ap (λ o. unwrap_or o (nothing_for t.table)) (none_found t.table ts xs apart.0 rest) in
          (record { file = None; is = none; holds = no_rows t.rows e }, more xs rest)
      go true e more [] all = absurd (let none : ⊥ = rw e at all in none)
      go true e more (x ∷ xs) all =
          let both : IsStagedFresh name size bytes images folder t x × AreStaged ts xs = rw e at all in
          let s = both.0 in
          let found : staged_for (named_tables name size (x ∷ xs)) t.table ≡ named_table name size x = rw (ref-is x.table t.table (same_table t x s)) refl in
          (record { file = Some (named_file name size s.file); is = found ∙ s.whole; holds = s.holds }, others_for t x xs (same_table t x s) ts apart.0 (more xs both.1))

  -- ---- that what is staged names each of them once

  known_more : (t : FreshTable) (ts : List FreshTable) (ss : List NamedStagedTable) → AllByRecursion (λ s. list_any (λ (u : FreshTable). is_ref u.table s.table) ts ≡ true) ss
      → AllByRecursion (λ s. list_any (λ (u : FreshTable). is_ref u.table s.table) (t ∷ ts) ≡ true) ss
  known_more t ts [] all = tt
  known_more t ts (s ∷ ss) all = (or_true (is_ref t.table s.table) all.0, known_more t ts ss all.1)
    where
      or_true : (b : Bool) {c : Bool} → c ≡ true → (b || c) ≡ true
      or_true true is = refl
      or_true false is = is

  pub all_known : (ts : List FreshTable) (xs : List (StagedTable F)) → AreStaged ts xs
      → AllByRecursion (λ s. list_any (λ (t : FreshTable). is_ref t.table s.table) ts ≡ true) (named_tables name size xs)
  all_known [] [] all = tt
  all_known [] (x ∷ xs) all = absurd all
  all_known (t ∷ ts) xs all = go (is_some_row t.rows) refl (λ ys more. all_known ts ys more) xs all
    where
      go : (b : Bool) → is_some_row t.rows ≡ b
          → ((ys : List (StagedTable F)) → AreStaged ts ys → AllByRecursion (λ s. list_any (λ (u : FreshTable). is_ref u.table s.table) ts ≡ true) (named_tables name size ys))
          → (xs : List (StagedTable F)) → AreStaged (t ∷ ts) xs → AllByRecursion (λ s. list_any (λ (u : FreshTable). is_ref u.table s.table) (t ∷ ts) ≡ true) (named_tables name size xs)
      go false e more xs all = known_more t ts (named_tables name size xs) (more xs (rw e at all))
      go true e more [] all = absurd (let none : ⊥ = rw e at all in none)
      go true e more (x ∷ xs) all =
          let both : IsStagedFresh name size bytes images folder t x × AreStaged ts xs = rw e at all in
          let here : is_ref t.table x.table ≡ true = ref-is t.table x.table (sym (same_table t x both.0)) in
          (ap (λ b. b || list_any (λ (u : FreshTable). is_ref u.table x.table) ts) here, known_more t ts (named_tables name size xs) (more xs both.1))

  none_any : (at : Ref) (ts : List FreshTable) (xs : List (StagedTable F)) → AllByRecursion (IsApartFrom at) ts → AreStaged ts xs
      → list_any (λ (s : NamedStagedTable). is_ref s.table at) (named_tables name size xs) ≡ false
  none_any at [] [] apart all = refl
  none_any at [] (x ∷ xs) apart all = absurd all
  none_any at (t ∷ ts) xs apart all = go (is_some_row t.rows) refl (λ ys more. none_any at ts ys apart.1 more) xs all
    where
      go : (b : Bool) → is_some_row t.rows ≡ b
          → ((ys : List (StagedTable F)) → AreStaged ts ys → list_any (λ (s : NamedStagedTable). is_ref s.table at) (named_tables name size ys) ≡ false)
          → (xs : List (StagedTable F)) → AreStaged (t ∷ ts) xs → list_any (λ (s : NamedStagedTable). is_ref s.table at) (named_tables name size xs) ≡ false
      go false e more xs all = more xs (rw e at all)
      go true e more [] all = absurd (let none : ⊥ = rw e at all in none)
      go true e more (x ∷ xs) all =
          let both : IsStagedFresh name size bytes images folder t x × AreStaged ts xs = rw e at all in
          ap₂ (λ b c. b || c) (ap (λ a. is_ref a at) (same_table t x both.0) ∙ apart.0) (more xs both.1)

  pub all_once : (ts : List FreshTable) (xs : List (StagedTable F)) → Apart ts → AreStaged ts xs → are_apart (named_tables name size xs) ≡ true
  all_once [] [] apart all = refl
  all_once [] (x ∷ xs) apart all = absurd all
  all_once (t ∷ ts) xs apart all = go (is_some_row t.rows) refl (λ ys more. all_once ts ys apart.1 more) xs all
    where
      go : (b : Bool) → is_some_row t.rows ≡ b → ((ys : List (StagedTable F)) → AreStaged ts ys → are_apart (named_tables name size ys) ≡ true)
          → (xs : List (StagedTable F)) → AreStaged (t ∷ ts) xs → are_apart (named_tables name size xs) ≡ true
      go false e more xs all = more xs (rw e at all)
      go true e more [] all = absurd (let none : ⊥ = rw e at all in none)
      go true e more (x ∷ xs) all =
          let both : IsStagedFresh name size bytes images folder t x × AreStaged ts xs = rw e at all in
          ap₂ (λ b c. not b && c)
          (ap (λ a. list_any (λ (s : NamedStagedTable). is_ref s.table a) (named_tables name size xs)) (same_table t x both.0) ∙ none_any t.table ts xs apart.0 both.1)
          (more xs both.1)

  -- ---- the whole

  any_mapped : (at : Ref) (ds : List Draft) → list_any (λ (t : FreshTable). is_ref t.table at) (map fresh_of ds) ≡ list_any (λ (d : Draft). is_ref d.at at) ds
  any_mapped at [] = refl
  any_mapped at (d ∷ ds) = ap (λ b. is_ref d.at at || b) (any_mapped at ds)

  all_are : (ds : List Draft) (ss : List NamedStagedTable) → AllByRecursion (λ s. list_any (λ (t : FreshTable). is_ref t.table s.table) (map fresh_of ds) ≡ true) ss
      → AllByRecursion (λ s. is_table ds s ≡ true) ss
  all_are ds [] all = tt
  all_are ds (s ∷ ss) all = (sym (any_mapped s.table ds) ∙ all.0, all_are ds ss all.1)

  of_drafts : (own : List Change) (v : NamedVersion) → AllByRecursion IsGrowth own → (ss : List NamedStagedTable) (ds : List Draft)
      → AllByRecursion (λ t. IsFor t (staged_for ss t.table)) (map fresh_of ds) → AllByRecursion (λ (d : Draft). IsStagedTable (files_of folder) own v d (staged_for ss d.at)) ds
  of_drafts own v growth ss [] all = tt
  of_drafts own v growth ss (d ∷ ds) all =
      (subst (IsStagedTable (files_of folder) own v d) (sym all.0.is) (stages_growth (files_of folder) own v d all.0.file growth all.0.holds), of_drafts own v growth ss ds all.1)

  pub is_staged : (v : NamedVersion) (own : List Change) (xs : List (StagedTable F)) → AllByRecursion IsGrowth own → AllPairs HasOtherId v.tables
      → AllZip (IsStagedFresh name size bytes images folder) (fresh_tables v own) xs
      → (state : State) → HasTables v state → Fits state own → IsStaged (files_of folder) v state own (named_tables name size xs)
  is_staged v own xs growth ids all state same fits =
      let ds : List Draft = (worked state own).tables in
      let are : map fresh_of ds ≡ tables_left v own = drafts_are v state own growth same in
      let apart : Apart (tables_left v own) = left_apart v own ids in
      record {
        fits = fits;
        known = all_are ds (named_tables name size xs)
            (subst (λ ts. AllByRecursion (λ s. list_any (λ (t : FreshTable). is_ref t.table s.table) ts ≡ true) (named_tables name size xs)) (sym are) (all_known (tables_left v own) xs all));
        once = all_once (tables_left v own) xs apart all;
        tables = of_drafts own v growth (named_tables name size xs) ds
            (subst (AllByRecursion (λ t. IsFor t (staged_for (named_tables name size xs) t.table))) (sym are) (all_for (tables_left v own) xs apart all));
      }

pub stands : {F : Type 0} (name : F → List ℕ) (size : F → ℕ) (bytes : F → Option (List ℕ)) (v : NamedVersion) (own : List Change) (a b : Option (List ℕ)) (f g : Option Folder) (i j : Folder → Type 0)
    (xs : List (StagedTable F)) → AllByRecursion IsGrowth own → AllPairs HasOtherId v.tables → StagesTables name size bytes (fresh_tables v own) a b f g i j xs
    → IfSome g (λ folder. (state : State) → HasTables v state → Fits state own → IsStaged (files_of folder) v state own (named_tables name size xs))
stands name size bytes v own a b f g i j xs growth ids s = go f g s.files
  where
    go : (f g : Option Folder) → Changes (AddsTables name size bytes (fresh_tables v own) xs j) f g
        → IfSome g (λ folder. (state : State) → HasTables v state → Fits state own → IsStaged (files_of folder) v state own (named_tables name size xs))
    go (Some f) (Some g) adds = is_staged name size bytes j g v own xs growth ids adds.holds
    go f None adds = tt
    go None (Some g) adds = absurd adds
