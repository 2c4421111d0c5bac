-- Staged files hold the list's rows.
use Rattle.std.proofs.Common.{◌≡◌, ◌+◌, ◌==◌, ◌-◌, ◌≢◌, ℕ, Bool, true, false, true≢false, List, [], ◌∷◌, ◌++◌, drop, find, length, map, Option, Some, None, refl, sym, ap, subst, ◌∙◌, arith, append-nil}
use Rattle.std.specs.Prelude.{is_some, option_and_then, unwrap_or}
use Rattle.std.specs.List.{AllByRecursion, flat_map, list_any}
use Rattle.std.proofs.Math.ListN.{drop_of_length-le}
use Rattle.std.proofs.lemmas.Bool.{eqb-true}
use Rattle.std.proofs.lemmas.List.{length-map}
use Rattle.std.proofs.lemmas.List.FromFn.{length-map-range_with_len}
use Rattle.lake_types.specs.Cells.{laid_cells}
use Rattle.lake_types.specs.declared.sheet.Sheet.{Sheet}
use Rattle.lake_types.specs.declared.value.Column.{Column}
use Rattle.lake_types.specs.declared.value.Row.{Row}
use Rattle.lake_model.proofs.GrowthLemmas.{left_laid}
use Rattle.lake_model.proofs.PlanLemmas.{found-has}
use Rattle.lake_model.specs.Apply.{Cells, Draft, drafted, is_ref, left, numbered, worked}
use Rattle.lake_model.specs.Growth.{made_tables, rows_for, with_own_rows}
use Rattle.lake_model.specs.Kinds.{drops_table}
use Rattle.lake_model.specs.State.{State, Table}
use Rattle.lake_model.specs.declared.change.Change.{Change}
use Rattle.lake_model.specs.declared.change.Ref.{Ref}
use Rattle.lake_model.specs.declared.change.Ref.TheVariants as ref
use Rattle.sheet_rows.specs.Live.{laid_rows, left_from}
use Rattle.sheet_rows.specs.Sheets.{cells_of, row_cells}
use Rattle.cat_view.specs.Files.{Extends, Filed, Files, sheet_at}
use Rattle.cat_view.specs.Named.{NamedTable, NamedVersion, live_rows, rows_in}
use Rattle.cat_view.specs.Staged.{IsStagedTable, MayHoldCells, NamedStagedFile, NamedStagedTable, is_table, nothing_for, staged_for}
use Rattle.cat_growth.specs.Fresh.{AreFilesStaged, CanTake, IsUnaltered, fresh_files, new_file, new_files}
use Rattle.cat_growth.specs.Growth.{HoldRows, IsMadeReady, IsReady}
use Rattle.cat_growth.specs.Laws.{MadeFilesHold, StagedFilesHold, StagedVersionsApply}
use Rattle.lake_model.proofs.DraftLemmas.{worked-hold}
use Rattle.lake_model.proofs.LackedLemmas.{IsOther, Lacks, inserts-none, worked-other}
use Rattle.cat_growth.proofs.VersionLemmas.{made-have, versions-apply}

-- ---- one file

pub none_left : {X : Type 0} (place : ℕ) (xs : List X) → left_from place [] xs ≡ xs
none_left place [] = refl
none_left place (x ∷ xs) = ap (λ l. x ∷ l) (none_left (place + 1) xs)

-- its rows are its cells, laid, with ids that count from the start
holds : (at_staging more : Files) (columns : List Column) (file : Option NamedStagedFile) (rows : List Cells) (id start : ℕ) → Extends at_staging more
    → MayHoldCells at_staging columns file rows → flat_map (live_rows more columns) (new_files id start file) ≡ numbered start rows
holds at_staging more columns None rows id start extends h = sym (ap (numbered start) h)
holds at_staging more columns (Some x) rows id start extends h =
    let sealed = h.staged.sealed in
    let there : more x.name ≡ Some sealed.filed = extends x.name (ap is_some sealed.there) ∙ sealed.there in
    let sheet : sheet_at more x.name ≡ Some h.sheet = ap (λ (o : Option Filed). option_and_then (λ (f : Filed). f.sheet) o) there ∙ sealed.sheet_is in
    let read : rows_in more columns (new_file id start x) ≡ numbered start (map (laid_cells columns) (cells_of h.sheet)) =
    ap (λ (o : Option Sheet). unwrap_or (option_and_then (laid_rows (Some start) columns) o) []) sheet in
    append-nil (live_rows more columns (new_file id start x)) ∙ none_left 0 (rows_in more columns (new_file id start x)) ∙ read ∙ ap (numbered start) h.cells

-- a file has a row at least
no_file : (files : Files) (columns : List Column) (file : Option NamedStagedFile) (rows : List Cells) → MayHoldCells files columns file rows → rows ≡ [] → file ≡ None
no_file files columns None rows h none = refl
no_file files columns (Some x) rows h none =
    let cells = cells_of h.sheet in
    absurd (omega (arith, length-map cells (laid_cells columns), length-map-range_with_len (row_cells h.sheet.columns) 0 h.sheet.rows, ap length h.cells, ap length none, h.staged.some, h.staged.rows))

-- ---- one table

module _ (at_staging : Files) (own : List Change) (version : NamedVersion) (d : Draft) (s : NamedStagedTable) (h : IsStagedTable at_staging own version d s) (none_inlined : s.inlined ≡ []) where
  in_file-all : h.in_file ≡ left d.fresh
  in_file-all =
      let inlined = drop (length s.inlined - s.inlined_fresh) s.inlined in
      let none : inlined ≡ [] = drop_of_length-le s.inlined (omega (arith, ap length none_inlined)) in
      sym (append-nil h.in_file) ∙ ap (λ (rs : List Row). h.in_file ++ map (λ (r : Row). r.cells) rs) (sym none) ∙ h.fresh_are

  all_in_file : MayHoldCells at_staging d.columns s.fresh (left d.fresh)
  all_in_file = subst (MayHoldCells at_staging d.columns s.fresh) in_file-all h.fresh

-- ---- a table for which nothing is staged

pub find-none : {X : Type 0} (p : X → Bool) (xs : List X) → AllByRecursion (λ x. p x ≡ false) xs → find p xs ≡ None
find-none p [] h = refl
find-none p (x ∷ xs) h = rw (h.0) (find-none p xs h.1)

module _ (base : State) (own : List Change) (id : ℕ) (lacks : Lacks base id) where
  no_table : (at : Ref) (ds : List Draft) → is_ref at (ref.Old id) ≡ true → AllByRecursion (λ (d : Draft). IsOther base id d.at) ds → list_any (λ (d : Draft). is_ref d.at at) ds ≡ false
  no_table (ref.New place) ds is h = absurd cc
  no_table (ref.Old n) [] is h = refl
  no_table (ref.Old n) (d ∷ ds) is h =
      let same : is_ref d.at (ref.Old n) ≡ false = ap (λ m. is_ref d.at (ref.Old m)) (eqb-true n id is) ∙ h.0.0 in
      rw same (no_table (ref.Old n) ds is h.1)

  not_its : (s : NamedStagedTable) → is_table (worked base own).tables s ≡ true → is_ref s.table (ref.Old id) ≡ false
  not_its s known = go (is_ref s.table (ref.Old id)) refl
    where
      go : (b : Bool) → is_ref s.table (ref.Old id) ≡ b → is_ref s.table (ref.Old id) ≡ false
      go true e = absurd (true≢false (sym known ∙ no_table s.table (worked base own).tables e (worked-other base id own lacks)))
      go false e = e

  none_its : (staged : List NamedStagedTable) → AllByRecursion (λ s. is_table (worked base own).tables s ≡ true) staged → AllByRecursion (λ (s : NamedStagedTable). is_ref s.table (ref.Old id) ≡ false) staged
  none_its [] known = tt
  none_its (s ∷ staged) known = (not_its s known.0, none_its staged known.1)

  none_staged : (staged : List NamedStagedTable) → AllByRecursion (λ s. is_table (worked base own).tables s ≡ true) staged → staged_for staged (ref.Old id) ≡ nothing_for (ref.Old id)
  none_staged staged known =
      ap (λ (o : Option NamedStagedTable). unwrap_or o (nothing_for (ref.Old id))) (find-none (λ (s : NamedStagedTable). is_ref s.table (ref.Old id)) staged (none_its staged known))

-- ---- all tables

pub staged-has : (P : NamedStagedTable → Type 0) (staged : List NamedStagedTable) (at : Ref) → AllByRecursion P staged → P (nothing_for at) → P (staged_for staged at)
staged-has P staged at h k = go (find (λ (x : NamedStagedTable). is_ref x.table at) staged) refl
  where
    go : (o : Option NamedStagedTable) → find (λ (x : NamedStagedTable). is_ref x.table at) staged ≡ o → P (staged_for staged at)
    go None e = rw e k
    go (Some s) e = rw e (found-has P (λ (x : NamedStagedTable). is_ref x.table at) staged s e h)

module _ (at_staging more : Files) (version : NamedVersion) (base : State) (own : List Change) (staged : List NamedStagedTable)
    (h : AreFilesStaged at_staging version base own staged) (extends : Extends at_staging more) where
  abbrev pub IsHeld : Draft → Type 0
  IsHeld d = MayHoldCells at_staging d.columns (staged_for staged d.at).fresh (left d.fresh)

  held-one : (d : Draft) → IsStagedTable at_staging own version d (staged_for staged d.at) → IsHeld d
  held-one d k = all_in_file at_staging own version d (staged_for staged d.at) k (staged-has (λ (s : NamedStagedTable). s.inlined ≡ []) staged d.at h.none_inlined refl)

  held-all : (ds : List Draft) → AllByRecursion (λ (d : Draft). IsStagedTable at_staging own version d (staged_for staged d.at)) ds → AllByRecursion IsHeld ds
  held-all [] k = tt
  held-all (d ∷ ds) k = (held-one d k.0, held-all ds k.1)

  abbrev pub AreHeld : Type 0
  AreHeld = AllByRecursion (λ (t : Table). drops_table own (ref.Old t.id) ≡ false → IsHeld (with_own_rows own (drafted t))) base.tables × AllByRecursion IsHeld (made_tables 0 own)

  pub are-held : AreHeld
  are-held = worked-hold IsHeld base own h.grows (held-all (worked base own).tables h.is_staged.tables)

  -- ---- a table of a head

  module _ (x : NamedTable) (stays : drops_table own (ref.Old x.id) ≡ false) (unaltered : IsUnaltered base own x) (id start : ℕ) where
    abbrev pub Goal : Type 0
    Goal = HoldRows more x.columns start (rows_for (ref.Old x.id) own) (new_files id start (staged_for staged (ref.Old x.id)).fresh)

    -- without rows and without a file
    empty : rows_for (ref.Old x.id) own ≡ [] → (staged_for staged (ref.Old x.id)).fresh ≡ None → Goal
    empty none missing = rw (none, missing) refl

    abbrev pub Holds : List Column → ℕ → Type 0
    Holds columns n = HoldRows more columns start (rows_for (ref.Old n) own) (new_files id start (staged_for staged (ref.Old n)).fresh)

    -- the table of the base with its id
    its_own : (t : Table) → t.id ≡ x.id → (rows_for (ref.Old x.id) own ≢ [] → t.columns ≡ x.columns) → IsHeld (with_own_rows own (drafted t)) → Goal
    its_own t same columns held = go (rows_for (ref.Old x.id) own) refl
      where
        file : Option NamedStagedFile
        file = (staged_for staged (ref.Old t.id)).fresh

        rows : List Cells
        rows = rows_for (ref.Old t.id) own

        laid : left (map (λ cells. Some (laid_cells t.columns cells)) rows) ≡ map (laid_cells t.columns) rows
        laid = left_laid t.columns rows

        go : (l : List Cells) → rows_for (ref.Old x.id) own ≡ l → Goal
        go [] e =
            let none : rows ≡ [] = ap (λ n. rows_for (ref.Old n) own) same ∙ e in
            let missing : file ≡ None = no_file at_staging t.columns file _ held (laid ∙ ap (map (laid_cells t.columns)) none) in
            empty e (ap (λ n. (staged_for staged (ref.Old n)).fresh) (sym same) ∙ missing)
        go (c ∷ cs) e =
            let some : rows_for (ref.Old x.id) own ≢ [] = λ none. absurd (cc (none, e)) in
            let here : Holds t.columns t.id = holds at_staging more t.columns file _ id start extends held ∙ ap (numbered start) laid in
            subst (λ n. Holds x.columns n) same (subst (λ cs. Holds cs t.id) (columns some) here)

    lacked : Lacks base x.id → Goal
    lacked lacks =
        empty (inserts-none base x.id [] own lacks h.is_staged.fits) (ap (λ (s : NamedStagedTable). s.fresh) (none_staged base own x.id lacks staged h.is_staged.known))

    look : (ts : List Table) → AllByRecursion (λ (t : Table). drops_table own (ref.Old t.id) ≡ false → IsHeld (with_own_rows own (drafted t))) ts
        → (rows_for (ref.Old x.id) own ≢ [] → AllByRecursion (λ (t : Table). t.id ≡ x.id → t.columns ≡ x.columns) ts)
        → (AllByRecursion (λ (t : Table). (t.id == x.id) ≡ false) ts → Goal) → Goal
    look [] held columns none = none tt
    look (t ∷ ts) held columns none =
        go (t.id == x.id) refl (λ absent. look ts held.1 (λ some. (columns some).1) (λ more. none (absent, more)))
      where
        go : (b : Bool) → (t.id == x.id) ≡ b → ((t.id == x.id) ≡ false → Goal) → Goal
        go true e rest =
            let same : t.id ≡ x.id = eqb-true t.id x.id e in
            its_own t same (λ some. (columns some).0 same) (held.0 (ap (λ n. drops_table own (ref.Old n)) same ∙ stays))
        go false e rest = rest e

    file-holds : Goal
    file-holds = look base.tables are-held.0 unaltered lacked

  -- ---- created tables

  module _ (ids starts : Ref → ℕ) (zero : (place : ℕ) → starts (ref.New place) ≡ 0) where
    made-one : (d : Draft) → starts d.at ≡ 0 → IsHeld d → IsMadeReady more (fresh_files ids starts staged) d
    made-one d first held =
        holds at_staging more d.columns (staged_for staged d.at).fresh (left d.fresh) (ids d.at) (starts d.at) extends held ∙ ap (λ n. numbered n (left d.fresh)) first

    made-all : (ds : List Draft) → AllByRecursion (λ (d : Draft). starts d.at ≡ 0) ds → AllByRecursion IsHeld ds → AllByRecursion (IsMadeReady more (fresh_files ids starts staged)) ds
    made-all [] first held = tt
    made-all (d ∷ ds) first held = (made-one d first.0 held.0, made-all ds first.1 held.1)

    made-hold : AllByRecursion (IsMadeReady more (fresh_files ids starts staged)) (made_tables 0 own)
    made-hold = made-all (made_tables 0 own) (made-have (λ (d : Draft). starts d.at ≡ 0) (λ n schema name columns own. zero n) 0 own) are-held.1

  -- ---- a head

  module _ (files : Files) (ids starts : Ref → ℕ) where
    ready-one : (x : NamedTable) → (drops_table own (ref.Old x.id) ≡ false → CanTake files base own starts x)
        → drops_table own (ref.Old x.id) ≡ false → IsReady files more (fresh_files ids starts staged) own x
    ready-one x takes stays =
        let at = ref.Old x.id in
        let take = takes stays in
        let hold = file-holds x stays take.unaltered (ids at) x.next_row in
        record {
          can_grow = take.can_grow;
          hold = subst (λ n. HoldRows more x.columns x.next_row (rows_for at own) (new_files (ids at) n (staged_for staged at).fresh)) (sym take.start) hold;
        }

    ready-all : (xs : List NamedTable) → AllByRecursion (λ (x : NamedTable). drops_table own (ref.Old x.id) ≡ false → CanTake files base own starts x) xs
        → AllByRecursion (λ (x : NamedTable). drops_table own (ref.Old x.id) ≡ false → IsReady files more (fresh_files ids starts staged) own x) xs
    ready-all [] takes = tt
    ready-all (x ∷ xs) takes = (ready-one x takes.0, ready-all xs takes.1)

-- ---- the laws

pub staged-files_hold : StagedFilesHold
staged-files_hold at_staging more version base own staged h extends x stays unaltered id start =
    file-holds at_staging more version base own staged h extends x stays unaltered id start

pub made-files_hold : MadeFilesHold
made-files_hold at_staging more version base own staged h extends ids starts zero =
    made-hold at_staging more version base own staged h extends ids starts zero

pub staged-versions_apply : StagedVersionsApply
staged-versions_apply at_staging files more version base own staged h extends more_than ids starts next head zero takes =
    versions-apply files more (fresh_files ids starts staged) own next head h.grows more_than
    (ready-all at_staging more version base own staged h extends files ids starts head.tables takes)
    (made-hold at_staging more version base own staged h extends ids starts zero)
