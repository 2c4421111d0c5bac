-- The tables that files are staged for: those of the head that the list leaves, and those that it creates and leaves.
use Rattle.std.proofs.Common.{◌≡◌, ◌≢◌, ◌⊎◌, inl, inr, Bool, true, false, List, [], ◌∷◌, find, length, map, Option, Some, None, refl, sym, ap, ◌∙◌, subst, arith, true≢false}
use Rattle.std.specs.Prelude.{unwrap_or}
use Rattle.std.specs.List.{AllByRecursion, filter_map, list_any}
use Rattle.std.proofs.lemmas.List.{length-map}
use Rattle.std.proofs.lemmas.List.FromFn.{length-map-range_with_len}
use Rattle.lake_types.specs.Cells.{laid_cells}
use Rattle.lake_types.specs.declared.kind.Kind.{Kind}
use Rattle.lake_types.specs.declared.value.Column.{Column}
use Rattle.lake_model.proofs.ApplyLemmas.{by_table}
use Rattle.lake_model.proofs.GrowthLemmas.{grows, left_laid, made-tables}
use Rattle.lake_model.specs.Apply.{Cells, Draft, drafted, is_ref, left, worked}
use Rattle.lake_model.specs.ByTable.{draft_after, made_from}
use Rattle.lake_model.specs.Growth.{IsGrowth, made_tables, rows_for, with_own_rows}
use Rattle.lake_model.specs.Kinds.{drops_table}
use Rattle.lake_model.specs.State.{State, Table}
use Rattle.lake_model.specs.declared.change.Change.{Change}
use Rattle.lake_model.specs.declared.change.Ref.{Ref}
use Rattle.lake_model.specs.declared.change.Ref.TheVariants as ref
use Rattle.lake_rebase.proofs.HeadLemmas.{columns-at-head}
use Rattle.lake_rebase.proofs.MemberLemmas.{In, all_in, found_in, in_cases}
use Rattle.lake_model.proofs.RefLemmas.{ref-same}
use Rattle.lake_rebase.specs.Laws.{IsFree}
use Rattle.sheet_rows.specs.Sheets.{cells_of, row_cells}
use Rattle.cat_view.specs.Files.{Files}
use Rattle.cat_view.specs.Named.{NamedVersion}
use Rattle.cat_view.specs.Staged.{HoldsCells, MayHoldCells, NamedStagedFile, NamedStagedTable, is_table, nothing_for, staged_for}
use Rattle.cat_growth.proofs.StagedLemmas.{are-held}
use Rattle.cat_growth.specs.Fresh.{AreFilesStaged}

-- ---- a file has rows

pub rows-held : (files : Files) (columns : List Column) (x : NamedStagedFile) (rows : List Cells) → HoldsCells files columns x rows → length rows ≡ x.rows
rows-held files columns x rows h =
    let cells = cells_of h.sheet in
    ap length (sym h.cells) ∙ length-map cells (laid_cells columns) ∙ length-map-range_with_len (row_cells h.sheet.columns) 0 h.sheet.rows ∙ h.staged.rows

some-held : (files : Files) (columns : List Column) (x : NamedStagedFile) (rows : List Cells) → HoldsCells files columns x rows → rows ≢ []
some-held files columns x rows h none = omega (arith, rows-held files columns x rows h, ap length none, h.staged.some)

-- ---- members

-- a table that a change list leaves
some_draft : (at : Ref) (ds : List Draft) → list_any (λ (d : Draft). is_ref d.at at) ds ≡ true → (d : Draft) × In d ds × (d.at ≡ at)
some_draft at [] h = absurd (true≢false (sym h))
some_draft at (d ∷ ds) h = go (is_ref d.at at) refl (some_draft at ds)
  where
    go : (b : Bool) → is_ref d.at at ≡ b → (list_any (λ (e : Draft). is_ref e.at at) ds ≡ true → (e : Draft) × In e ds × (e.at ≡ at)) → (e : Draft) × In e (d ∷ ds) × (e.at ≡ at)
    go true is more = (d, inl refl, ref-same d.at at is)
    go false is more = let rest = more (rw is at h) in (rest.0, inr rest.1, rest.2)

module _ (own : List Change) (grow : AllByRecursion IsGrowth own) where
  record IsLeft (ts : List Table) (d : Draft) : Type 0 where
    table : Table
    there : In table ts
    stays : drops_table own (ref.Old table.id) ≡ false
    is : with_own_rows own (drafted table) ≡ d

  left_in : (d : Draft) (ts : List Table) → In d (filter_map (draft_after own) (map drafted ts)) → IsLeft ts d
  left_in d [] h = absurd h
  left_in d (t ∷ ts) h = go (drops_table own (ref.Old t.id)) refl (left_in d ts)
    where
      go : (b : Bool) → drops_table own (ref.Old t.id) ≡ b → (In d (filter_map (draft_after own) (map drafted ts)) → IsLeft ts d) → IsLeft (t ∷ ts) d
      go true is more =
          let gone : draft_after own (drafted t) ≡ None = grows own (drafted t) grow ∙ rw is refl in
          let m = more (rw gone at h) in
          record { table = m.table; there = inr m.there; stays = m.stays; is = m.is }
      go false is more =
          let left : draft_after own (drafted t) ≡ Some (with_own_rows own (drafted t)) = grows own (drafted t) grow ∙ rw is refl in
          front (rw left at h)
        where
          front : In d (with_own_rows own (drafted t) ∷ filter_map (draft_after own) (map drafted ts)) → IsLeft (t ∷ ts) d
          front (inl e) = record { table = t; there = inl refl; stays = is; is = e }
          front (inr later) = let m = more later in record { table = m.table; there = inr m.there; stays = m.stays; is = m.is }

  -- a table after the list is one from before that it leaves, or one that it creates
  worked_in : (base : State) (d : Draft) → In d (worked base own).tables → IsLeft base.tables d ⊎ In d (made_tables 0 own)
  worked_in base d h = go (in_cases d (filter_map (draft_after own) (map drafted base.tables)) (made_from 0 own) (subst (λ l. In d l) (by_table base own) h))
    where
      go : In d (filter_map (draft_after own) (map drafted base.tables)) ⊎ In d (made_from 0 own) → IsLeft base.tables d ⊎ In d (made_tables 0 own)
      go (inl old) = inl (left_in d base.tables old)
      go (inr new) = inr (subst (λ l. In d l) (made-tables 0 own grow) new)

-- ---- the tables of staged files

module _ (told : List Kind) (base head : State) (own : List Change) (free : IsFree told base head own)
    (version : NamedVersion) (then : Files) (staged : List NamedStagedTable) (are : AreFilesStaged then version base own staged) where
  abbrev pub file_for : Ref → Option NamedStagedFile
  file_for at = (staged_for staged at).fresh

  -- a table of the head, with the file's rows in its columns
  pub record IsOldTarget (at : Ref) : Type 0 where
    pub table : Table
    pub there : In table head.tables
    pub at_is : ref.Old table.id ≡ at
    pub stays : drops_table own (ref.Old table.id) ≡ false
    pub held : MayHoldCells then table.columns (file_for (ref.Old table.id)) (map (laid_cells table.columns) (rows_for (ref.Old table.id) own))

  pub record IsMadeTarget (at : Ref) : Type 0 where
    pub draft : Draft
    pub there : In draft (made_tables 0 own)
    pub at_is : draft.at ≡ at

  abbrev pub IsTarget : Ref → Type 0
  IsTarget r = IsOldTarget r ⊎ IsMadeTarget r

  old-held : AllByRecursion (λ (t : Table). drops_table own (ref.Old t.id) ≡ false → MayHoldCells then t.columns (file_for (ref.Old t.id)) (left (with_own_rows own (drafted t)).fresh)) base.tables
  old-held = (are-held then then version base own staged are (λ name is. refl)).0

  pub made-held : AllByRecursion (λ (d : Draft). MayHoldCells then d.columns (file_for d.at) (left d.fresh)) (made_tables 0 own)
  made-held = (are-held then then version base own staged are (λ name is. refl)).1

  old-target : (f : NamedStagedFile) (u : Table) → In u base.tables → drops_table own (ref.Old u.id) ≡ false → file_for (ref.Old u.id) ≡ Some f → IsOldTarget (ref.Old u.id)
  old-target f u there stays is =
      let rows = rows_for (ref.Old u.id) own in
      let laid : left (map (λ cells. Some (laid_cells u.columns cells)) rows) ≡ map (laid_cells u.columns) rows = left_laid u.columns rows in
      let here : MayHoldCells then u.columns (file_for (ref.Old u.id)) (map (laid_cells u.columns) rows) =
      subst (MayHoldCells then u.columns (file_for (ref.Old u.id))) laid (all_in (λ (t : Table). drops_table own (ref.Old t.id) ≡ false → MayHoldCells then t.columns (file_for (ref.Old t.id)) (left (with_own_rows own (drafted t)).fresh)) u base.tables old-held there stays) in
      let of_file : HoldsCells then u.columns f (map (laid_cells u.columns) rows) = subst (λ o. MayHoldCells then u.columns o (map (laid_cells u.columns) rows)) is here in
      let some : rows ≢ [] = λ none. some-held then u.columns f (map (laid_cells u.columns) rows) of_file (ap (map (laid_cells u.columns)) none) in
      let kept = columns-at-head told base head own free u there some stays in
      record {
        table = kept.table;
        there = kept.there;
        at_is = ap ref.Old kept.id_is;
        stays = ap (λ n. drops_table own (ref.Old n)) kept.id_is ∙ stays;
        held = subst (λ n. MayHoldCells then kept.table.columns (file_for (ref.Old n)) (map (laid_cells kept.table.columns) (rows_for (ref.Old n) own))) (sym kept.id_is)
            (subst (λ cs. MayHoldCells then cs (file_for (ref.Old u.id)) (map (laid_cells cs) rows)) (sym kept.columns_are) here);
      }

  -- the table of a staged file
  pub target-of : (at : Ref) (f : NamedStagedFile) → file_for at ≡ Some f → IsTarget at
  target-of at f is = found (find (λ (s : NamedStagedTable). is_ref s.table at) staged) refl
    where
      from_draft : (d : Draft) → d.at ≡ at → IsLeft own are.grows base.tables d ⊎ In d (made_tables 0 own) → IsTarget at
      from_draft d same (inl old) =
          let named : ref.Old old.table.id ≡ at = ap (λ (e : Draft). e.at) old.is ∙ same in
          inl (subst IsOldTarget named (old-target f old.table old.there old.stays (ap file_for named ∙ is)))
      from_draft d same (inr new) = inr (record { draft = d; there = new; at_is = same })

      found : (o : Option NamedStagedTable) → find (λ (s : NamedStagedTable). is_ref s.table at) staged ≡ o → IsTarget at
      found None e = absurd (let none : file_for at ≡ None = ap (λ (o : Option NamedStagedTable). (unwrap_or o (nothing_for at)).fresh) e in cc (none, is))
      found (Some s) e =
          let m = found_in (λ (x : NamedStagedTable). is_ref x.table at) s staged e in
          let known : is_table (worked base own).tables s ≡ true = all_in (λ x. is_table (worked base own).tables x ≡ true) s staged are.is_staged.known m.0 in
          let d = some_draft s.table (worked base own).tables known in
          from_draft d.0 (d.2 ∙ ref-same s.table at m.1) (worked_in own are.grows base d.0 d.1)
