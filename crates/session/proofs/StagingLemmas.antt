-- What staging has made is what a commit has to hand to its door.
use Rattle.std.proofs.Common.{◌≡◌, ℕ, List, [], ◌∷◌, Bool, true, false, map, refl, sym, ◌∙◌, ap, subst, subst₂, inl, inr}
use Rattle.std.specs.Prelude.{IfSome, Option, Some, None, is_some, option_map}
use Rattle.std.specs.List.{AllByRecursion, AllZip, cons_option, filter_map}
use Rattle.lake_model.specs.Apply.{Draft, drafted}
use Rattle.lake_model.specs.Core.{Core, version_at}
use Rattle.lake_model.specs.Fits.{Fits}
use Rattle.lake_model.specs.History.{CarriedFile}
use Rattle.lake_model.specs.State.{State, Table}
use Rattle.lake_model.specs.declared.call.Open.{Open}
use Rattle.lake_model.specs.declared.change.Txn.{Txn}
use Rattle.file_disk.specs.Folder.{Changes, Folder, Same, StaysIfThere}
use Rattle.cat_view.specs.Files.{Extends, Files}
use Rattle.cat_view.specs.Named.{NamedTable, NamedVersion, state_of, table_of}
use Rattle.cat_view.specs.Staged.{IsStaged, IsStagedTable, NamedStagedTable, nothing_for}
use Rattle.cat_view.specs.StagedNames.{named_staged, named_staged_table}
use Rattle.cat_view.specs.Typed.{HoldsTyped}
use Rattle.cat_view.specs.Views.{named_view}
use Rattle.cat_view.specs.declared.staged.Staged.{Staged}
use Rattle.cat_view.specs.declared.staged.StagedFile.{StagedFile}
use Rattle.cat_view.specs.declared.staged.StagedTable.{StagedTable}
use Rattle.cat_view.specs.declared.version.View.{View}
use Rattle.cat_stands.specs.Stands.{uncounted, uncounted_table}
use Rattle.rebase.specs.Parts.{FreshFile, fresh_files}
use Rattle.row_files.specs.Folders.{filed, files_of}
use Rattle.row_files.specs.Growing.{HasTables, IsSameTable}
use Rattle.row_files.specs.Stages.{FreshTable, IsStagedFresh, StagesTables, Stays, TellsBytes, fresh_handles, fresh_names, named_tables}
use Rattle.row_files.proofs.GrowthLemmas.{stages_growth}
use Rattle.row_files.proofs.JoinLemmas.{tables_of_states}
use Rattle.txn_buf.specs.Keeping.{tally_of, txn_of, view_of}
use Rattle.txn_buf.specs.declared.buffer.TxnBuf.{TxnBuf}
use Rattle.txn_buf.specs.declared.tally.Tally.{Tally}
use Rattle.txn_buf.proofs.ListLemmas.{states_are_bases}
use Rattle.door.specs.Opened.{IsIn, IsOpen, carried_file, opened_of}
use Rattle.door.specs.Standing.{IsStagedFor, carried}
use Rattle.session.specs.Held.{AreGood, IsGood}
use Rattle.session.specs.Staging.{MayCommit}

-- ---- changes of a folder that is told

pub changes_as : (P Q : Folder → Folder → Type 0) → ((a b : Folder) → P a b → Q a b) → (x y : Option Folder) → Changes P x y → Changes Q x y
changes_as P Q f (Some a) (Some b) h = f a b h
changes_as P Q f None None h = h
changes_as P Q f (Some a) None h = h
changes_as P Q f None (Some b) h = h

pub changes_none : (P : Folder → Folder → Type 0) → ((a : Folder) → P a a) → (x : Option Folder) → Changes P x x
changes_none P f (Some a) = f a
changes_none P f None = tt

-- and what is told of the folder afterwards
pub changes_with : (P Q : Folder → Folder → Type 0) (T : Folder → Type 0) → ((a b : Folder) → P a b → T b → Q a b) → (x y : Option Folder) → Changes P x y → IfSome y T → Changes Q x y
changes_with P Q T f (Some a) (Some b) h t = f a b h t
changes_with P Q T f None None h t = h
changes_with P Q T f (Some a) None h t = h
changes_with P Q T f None (Some b) h t = h

-- and what is told of it before
pub changes_from : (P Q : Folder → Folder → Type 0) (T : Folder → Type 0) → ((a b : Folder) → P a b → T a → Q a b) → (x y : Option Folder) → Changes P x y → IfSome x T → Changes Q x y
changes_from P Q T f (Some a) (Some b) h t = f a b h t
changes_from P Q T f None None h t = h
changes_from P Q T f (Some a) None h t = h
changes_from P Q T f None (Some b) h t = h

no_files : Files
no_files name = None

-- ---- the list may be staged

pub may_stage : {F : Type 0} (name : F → List ℕ) (buf : TxnBuf F) (view : View F) (txn : Txn) → view ≡ view_of buf → txn ≡ txn_of buf → IsGood name buf
    → (state : State) × HasTables (named_view name view) state × Fits state txn.own
may_stage {F} name buf view txn of_view of_txn good =
    let v = named_view name (view_of buf) in
    let state = state_of no_files 0 v in
    subst₂ (λ (w : View F) (t : Txn). (state : State) × HasTables (named_view name w) state × Fits state t.own) (sym of_view) (sym of_txn)
    (state, tables_of_states no_files v.tables, good.keeps.fits state (states_are_bases no_files 0 v))

-- ---- the core's state at the base

same_tables : (files : Files) (xs : List NamedTable) (ts : List Table) → map uncounted_table (map (table_of files) xs) ≡ map uncounted_table ts → AllZip IsSameTable ts xs
same_tables files [] [] h = tt
same_tables files [] (t ∷ ts) h = absurd (cc)
same_tables files (x ∷ xs) [] h = absurd (cc)
same_tables files (x ∷ xs) (t ∷ ts) h =
    let one : uncounted_table (table_of files x) ≡ uncounted_table t = cc in
    let more : map uncounted_table (map (table_of files) xs) ≡ map uncounted_table ts = cc in
    (record { id = sym (ap (λ (y : Table). y.id) one); columns = sym (ap (λ (y : Table). y.columns) one) }, same_tables files xs ts more)

has_tables : (files : Files) (v : NamedVersion) (s : State) → uncounted (state_of files 0 v) ≡ uncounted s → HasTables v s
has_tables files v s h = same_tables files v.tables s.tables (ap (λ (y : State). y.tables) h)

module _ {F : Type 0} (name : F → List ℕ) (size : F → ℕ) (bytes : F → Option (List ℕ)) where
  fits_at : (view : View F) (txn : Txn) (tally : Tally) (files : Files) (core : Core) (o : Open) → AreGood name view txn tally → IsOpen files core o (opened_of name size bytes view)
      → Fits (version_at core o.base).state txn.own
  fits_at view txn tally files core o good is = go txn.read_only refl
    where
      go : (b : Bool) → txn.read_only ≡ b → Fits (version_at core o.base).state txn.own
      go true e = subst (Fits (version_at core o.base).state) (sym (good.unwritten e)) tt
      go false e =
          let next = (version_at core o.base).state.next_catalog in
          let v = named_view name view in
          subst (λ s. Fits s txn.own) (is.whole (sym good.read_only ∙ e)) (good.keeps.fits (state_of files next v) (states_are_bases files next v))

  -- ---- what was staged, file by file

  all_in_files : (images : Folder → Type 0) (folder : Folder) (ts : List FreshTable) (xs : List (StagedTable F)) → AllZip (IsStagedFresh name size bytes images folder) ts xs
      → AllByRecursion (λ (s : NamedStagedTable). s.inlined ≡ []) (map (named_staged_table name size) xs)
  all_in_files images folder [] [] all = tt
  all_in_files images folder [] (x ∷ xs) all = absurd all
  all_in_files images folder (t ∷ ts) [] all = absurd all
  all_in_files images folder (t ∷ ts) (x ∷ xs) all = (ap (λ (s : NamedStagedTable). s.inlined) all.0.whole, all_in_files images folder ts xs all.1)

  typed_on : (files : Files) (x : StagedTable F) (xs : List (StagedTable F)) (o : Option (StagedFile F)) → x.fresh ≡ o
      → (AllByRecursion (HoldsTyped files) (fresh_names name xs) → AllByRecursion (λ (y : FreshFile). HoldsTyped files y.file.name) (fresh_files (map (named_staged_table name size) xs)))
      → AllByRecursion (HoldsTyped files) (cons_option (option_map (λ (f : StagedFile F). name f.file) x.fresh) (fresh_names name xs))
      → AllByRecursion (λ (y : FreshFile). HoldsTyped files y.file.name) (fresh_files (map (named_staged_table name size) (x ∷ xs)))
  typed_on files x xs None e more all = rw e (more (subst (λ o. AllByRecursion (HoldsTyped files) (cons_option (option_map (λ (f : StagedFile F). name f.file) o) (fresh_names name xs))) e all))
  typed_on files x xs (Some f) e more all =
      let both = subst (λ o. AllByRecursion (HoldsTyped files) (cons_option (option_map (λ (f : StagedFile F). name f.file) o) (fresh_names name xs))) e all in
      rw e (both.0, more both.1)

  all_typed : (files : Files) (xs : List (StagedTable F)) → AllByRecursion (HoldsTyped files) (fresh_names name xs)
      → AllByRecursion (λ (x : FreshFile). HoldsTyped files x.file.name) (fresh_files (map (named_staged_table name size) xs))
  all_typed files [] all = tt
  all_typed files (x ∷ xs) all = typed_on files x xs x.fresh refl (all_typed files xs) all

  abbrev told : F → CarriedFile
  told = carried_file name size bytes

  abbrev sealed : List (StagedTable F) → List CarriedFile
  sealed xs = filter_map (λ (s : StagedTable F). option_map (λ (f : StagedFile F). told f.file) s.fresh) xs

  one_there : (folder : Folder) (f : F) → TellsBytes name size bytes folder f → IsIn (files_of folder) (told f)
  one_there folder f t = record {
    filed = filed t.content;
    there = ap (option_map filed) t.there;
    size_is = t.size_is;
    told = t.told;
  }

  there_on : (folder : Folder) (x : StagedTable F) (xs : List (StagedTable F)) (o : Option (StagedFile F)) → x.fresh ≡ o
      → (AllByRecursion (TellsBytes name size bytes folder) (fresh_handles xs) → AllByRecursion (IsIn (files_of folder)) (sealed xs))
      → AllByRecursion (TellsBytes name size bytes folder) (cons_option (option_map (λ (f : StagedFile F). f.file) x.fresh) (fresh_handles xs))
      → AllByRecursion (IsIn (files_of folder)) (cons_option (option_map (λ (f : StagedFile F). told f.file) x.fresh) (sealed xs))
  there_on folder x xs None e more all =
      subst (λ o. AllByRecursion (IsIn (files_of folder)) (cons_option (option_map (λ (f : StagedFile F). told f.file) o) (sealed xs))) (sym e)
      (more (subst (λ o. AllByRecursion (TellsBytes name size bytes folder) (cons_option (option_map (λ (f : StagedFile F). f.file) o) (fresh_handles xs))) e all))
  there_on folder x xs (Some f) e more all =
      let both = subst (λ o. AllByRecursion (TellsBytes name size bytes folder) (cons_option (option_map (λ (f : StagedFile F). f.file) o) (fresh_handles xs))) e all in
      subst (λ o. AllByRecursion (IsIn (files_of folder)) (cons_option (option_map (λ (f : StagedFile F). told f.file) o) (sealed xs))) (sym e)
      (one_there folder f.file both.0, more both.1)

  all_there : (folder : Folder) (xs : List (StagedTable F)) → AllByRecursion (TellsBytes name size bytes folder) (fresh_handles xs)
      → AllByRecursion (IsIn (files_of folder)) (sealed xs)
  all_there folder [] all = tt
  all_there folder (x ∷ xs) all = there_on folder x xs x.fresh refl (all_there folder xs) all

  -- ---- the whole

  stage_serves : (buf : TxnBuf F) (staged : Staged F) (ts : List FreshTable) (before now : Option (List ℕ)) (old new : Option Folder) (could can : Folder → Type 0)
      → IsGood name buf → StagesTables name size bytes ts before now old new could can staged.tables.items
      → IfSome new (λ folder. (state : State) → HasTables (named_view name (view_of buf)) state → Fits state (txn_of buf).own
      → IsStaged (files_of folder) (named_view name (view_of buf)) state (txn_of buf).own (named_tables name size staged.tables.items))
      → IfSome new (λ folder. AllByRecursion (HoldsTyped (files_of folder)) (fresh_names name staged.tables.items))
      → IfSome new (λ folder. AllByRecursion (TellsBytes name size bytes folder) (fresh_handles staged.tables.items))
      → IfSome new (λ folder. MayCommit name size bytes (files_of folder) buf staged)
  stage_serves buf staged ts before now old None could can good stages stands typed handles = tt
  stage_serves buf staged ts before now None (Some folder) could can good stages stands typed handles = absurd stages.files
  stage_serves buf staged ts before now (Some was) (Some folder) could can good stages stands typed handles = λ core o is.
      let v = named_view name (view_of buf) in
      let state = (version_at core o.base).state in
      let at : IsStaged (files_of folder) v state (txn_of buf).own (named_tables name size staged.tables.items) =
      stands state (has_tables (files_of folder) v state is.same) (fits_at (view_of buf) (txn_of buf) (tally_of buf) (files_of folder) core o good is) in
      record {
        staged_is = subst (λ n. IsStaged (files_of folder) v (version_at core n).state (txn_of buf).own (named_tables name size staged.tables.items)) (sym is.base) at;
        in_files = all_in_files can folder ts staged.tables.items stages.files.holds;
        typed = all_typed (files_of folder) staged.tables.items typed;
        there = all_there folder staged.tables.items handles;
      }

  pub stage_done : (buf : TxnBuf F) (view : View F) (txn : Txn) (staged : Staged F) (ts : List FreshTable) (before now : Option (List ℕ)) (old new : Option Folder) (could can : Folder → Type 0)
      → view ≡ view_of buf → txn ≡ txn_of buf → IsGood name buf → StagesTables name size bytes ts before now old new could can staged.tables.items
      → IfSome new (λ folder. (state : State) → HasTables (named_view name view) state → Fits state txn.own
      → IsStaged (files_of folder) (named_view name view) state txn.own (named_tables name size staged.tables.items))
      → IfSome new (λ folder. AllByRecursion (HoldsTyped (files_of folder)) (fresh_names name staged.tables.items))
      → IfSome new (λ folder. AllByRecursion (TellsBytes name size bytes folder) (fresh_handles staged.tables.items))
      → IfSome new (λ folder. MayCommit name size bytes (files_of folder) buf staged)
  stage_done buf view txn staged ts before now old new could can of_view of_txn good stages stands typed handles =
      stage_serves buf staged ts before now old new could can good stages
      (subst₂ (λ (w : View F) (t : Txn). IfSome new (λ folder. (state : State) → HasTables (named_view name w) state → Fits state t.own
      → IsStaged (files_of folder) (named_view name w) state t.own (named_tables name size staged.tables.items))) of_view of_txn stands)
      typed handles

-- ---- what was there stays

pub still_stays : (x : Option Folder) → Changes Stays x x
still_stays x = changes_none Stays (λ folder name. inr refl) x

-- the files that stay are a part of those that are there then
pub extends_stays : (old new : Folder) → Stays old new → Extends (files_of old) (files_of new)
extends_stays old new stays name is = go (stays name)
  where
    go : StaysIfThere (old name) (new name) → files_of new name ≡ files_of old name
    go (inl none) = absurd (let h : is_some (option_map filed (old name)) ≡ false = ap (λ o. is_some (option_map filed o)) none in cc)
    go (inr same) = ap (option_map filed) same

-- all of them are the same
pub extends_same : (old new : Folder) → Same old new → Extends (files_of old) (files_of new)
extends_same old new same name is = ap (option_map filed) (same name)

-- ---- nothing is staged for no changes

nothing_needed : (files : Files) (v : NamedVersion) (ts : List Table) → AllByRecursion (λ (d : Draft). IsStagedTable files [] v d (nothing_for d.at)) (map drafted ts)
nothing_needed files v [] = tt
nothing_needed files v (t ∷ ts) = (stages_growth files [] v (drafted t) None tt refl, nothing_needed files v ts)

pub nothing_serves : {F : Type 0} (name : F → List ℕ) (size : F → ℕ) (bytes : F → Option (List ℕ)) (buf : TxnBuf F) (staged : Staged F) (new : Option Folder)
    → (txn_of buf).own ≡ [] → staged.tables.items ≡ [] → IfSome new (λ folder. MayCommit name size bytes (files_of folder) buf staged)
nothing_serves {F} name size bytes buf staged None own none = tt
nothing_serves {F} name size bytes buf staged (Some folder) own none = λ core o is.
    let v = opened_of name size bytes (view_of buf) in
    let empty : IsStagedFor (files_of folder) core [] [] [] v = record {
      staged_is = record { fits = tt; known = tt; once = refl; tables = nothing_needed (files_of folder) v.version (version_at core v.base).state.tables };
      in_files = tt;
      typed = tt;
      there = tt;
    } in
    subst (λ list. IsStagedFor (files_of folder) core list (named_staged name size staged) (carried name size bytes staged) v) (sym own)
    (subst (λ xs. IsStagedFor (files_of folder) core [] (map (named_staged_table name size) xs)
    (filter_map (λ (s : StagedTable F). option_map (λ (f : StagedFile F). carried_file name size bytes f.file) s.fresh) xs) v) (sym none) empty)
