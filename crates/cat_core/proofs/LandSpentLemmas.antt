-- A counter that a commit would spend is past its limit in the plain lake too.
use Rattle.std.proofs.Common.{◌≡◌, ◌<◌, ◌+◌, ◌==◌, ℕ, Bool, true, false, ◌⊎◌, inl, inr, ⊎_elim, List, [], ◌∷◌, length, map, find, refl, sym, ap, ◌∙◌, subst, arith, true≢false, Option, Some, None}
use Rattle.std.specs.Prelude.{nat_lt}
use Rattle.std.specs.List.{AllByRecursion}
use Rattle.std.specs.Option.{option_or}
use Rattle.std.proofs.lemmas.Bool.{eq-eqb, eqb-true}
use Rattle.std.proofs.lemmas.List.{length-map}
use Rattle.lake_types.specs.Cells.{laid_cells}
use Rattle.lake_types.specs.declared.kind.Kind.{Kind}
use Rattle.lake_types.specs.declared.limits.TheConstants.{MAX_COUNTER}
use Rattle.lake_model.specs.Apply.{Creation, Draft, apply, left, settled_table, table_id}
use Rattle.lake_model.specs.Calls.{Ground, Passes, next_state, table_with}
use Rattle.lake_model.specs.Core.{Version, open_at, version_at}
use Rattle.lake_model.specs.Creations.{creations}
use Rattle.lake_model.specs.Growth.{IsGrowth, grown, grown_state, left_tables, made_tables, new_tables, rows_for}
use Rattle.lake_model.specs.History.{CarriedFile, FitsOpen}
use Rattle.lake_model.specs.Kinds.{kinds}
use Rattle.lake_model.specs.Laws.{HasCatalogIds, RiseBelow}
use Rattle.lake_model.specs.State.{State, Table}
use Rattle.lake_model.specs.declared.answer.Counter.{Counter}
use Rattle.lake_model.specs.declared.answer.Counter.TheVariants as counter
use Rattle.lake_model.specs.declared.change.Change.{Change}
use Rattle.lake_model.specs.declared.change.Ref.TheVariants as ref
use Rattle.lake_model.proofs.CatalogLemmas.{catalog_ids_rise}
use Rattle.lake_model.proofs.GrowthLemmas.{grows_by_table}
use Rattle.lake_rebase.specs.Laws.{IsFree}
use Rattle.lake_rebase.proofs.HeadLemmas.{table-left}
use Rattle.lake_rebase.proofs.MemberLemmas.{In, all_in, found_in, in_right, map_in, none_in, one_of_id}
use Rattle.cat_rows.specs.Tables.{Tables}
use Rattle.cat_rows.specs.declared.history.SnapshotRow.{SnapshotRow}
use Rattle.cat_stands.specs.Stands.{HasCounters, HasHeadCounters, IsSound}
use Rattle.cat_growth.specs.Fresh.{AreFilesStaged}
use Rattle.cat_view.specs.Files.{Files}
use Rattle.cat_view.specs.Named.{NamedVersion}
use Rattle.cat_view.specs.Staged.{HoldsCells, MayHoldCells, NamedStagedFile, NamedStagedTable, staged_for}
use Rattle.rebase.specs.Parts.{FreshFile, first_row, fresh_files, old_stats}
use Rattle.rebase.specs.Spent.{first_spent, spent_if, spent_rows}
use Rattle.commit_laws.proofs.FreshLemmas.{staged-as, staged_is}
use Rattle.commit_laws.proofs.MadeLemmas.{made_are}
use Rattle.commit_laws.proofs.TargetLemmas.{IsMadeTarget, IsOldTarget, made-held, rows-held, target-of}
use Rattle.door.specs.Opened.{Opened}
use Rattle.door.specs.Standing.{IsStagedFor}
use Rattle.cat_core.specs.Commits.{IsSpent, first_since}
use Rattle.cat_core.specs.Shown.{Shown}
use Rattle.cat_core.specs.Stands.{Stands, told_past}
use Rattle.cat_core.proofs.LandHeadLemmas.{IsWriting, head-number, is-free, newest-same, version-at-head}

-- ---- which counter is spent

either-some : {X : Type 0} (a b : Option X) (x : X) → option_or a b ≡ Some x → (a ≡ Some x) ⊎ (b ≡ Some x)
either-some None b x e = inr e
either-some (Some y) b x e = inl e

-- a counter that is told to be spent is past its last value
pub record IsOver (c told : Counter) (n : ℕ) : Type 0 where
  pub is : c ≡ told
  pub over : MAX_COUNTER < n

over-of : (c told : Counter) (n : ℕ) → spent_if c n ≡ Some told → IsOver c told n
over-of c told n e = go (nat_lt MAX_COUNTER n) refl
  where
    go : (b : Bool) → nat_lt MAX_COUNTER n ≡ b → IsOver c told n
    go true is = let some : Some c ≡ Some told = rw is at e in let same : c ≡ told = cc in record { is = same; over = grind (arith, is) }
    go false is = let none : None ≡ Some told = rw is at e in absurd cc

-- it is that of one of the files' tables
pub record IsRowOver (t : Tables) (next : ℕ) (new : List Creation) (xs : List FreshFile) (told : Counter) : Type 0 where
  pub file : FreshFile
  pub there : In file xs
  pub over : IsOver (counter.Row (table_id next new file.table)) told (first_row (old_stats t file.table) + file.file.rows)

row-over : (t : Tables) (next : ℕ) (new : List Creation) (xs : List FreshFile) (told : Counter) → spent_rows t next new xs ≡ Some told → IsRowOver t next new xs told
row-over t next new [] told e = absurd cc
row-over t next new (x ∷ xs) told e =
    ⊎_elim (λ here. record { file = x; there = inl refl; over = over-of (counter.Row (table_id next new x.table)) told (first_row (old_stats t x.table) + x.file.rows) here })
    (λ later. let m = row-over t next new xs told later in record { file = m.file; there = inr m.there; over = m.over })
    (either-some (spent_if (counter.Row (table_id next new x.table)) (first_row (old_stats t x.table) + x.file.rows)) (spent_rows t next new xs) told e)

-- ---- tables by id

-- of a table whose id is one alone
with-id : (id limit : ℕ) (x : Table) (xs : List Table) → RiseBelow limit (map (λ (t : Table). t.id) xs) → In x xs → x.id ≡ id → find (λ (t : Table). t.id == id) xs ≡ Some x
with-id id limit x xs rise there is = go (find (λ (t : Table). t.id == id) xs) refl
  where
    go : (o : Option Table) → find (λ (t : Table). t.id == id) xs ≡ o → find (λ (t : Table). t.id == id) xs ≡ Some x
    go None e = absurd (true≢false (sym (eq-eqb x.id id is) ∙ none_in (λ (t : Table). t.id == id) x xs e there))
    go (Some y) e =
        let m = found_in (λ (t : Table). t.id == id) y xs e in
        e ∙ ap Some (one_of_id (λ (t : Table). t.id) limit y x xs rise m.0 there (eqb-true y.id id m.1 ∙ sym is))

-- a table after the list has this id, and rows past the limit
pub record IsPassed (s : State) (id : ℕ) : Type 0 where
  pub table : Table
  pub there : In table s.tables
  pub id_is : table.id ≡ id
  pub over : MAX_COUNTER < table.next_row

passed : (s : State) (id : ℕ) → HasCatalogIds s → (p : IsPassed s id) → (t : Table) × (table_with id s ≡ Some t) × (MAX_COUNTER < t.next_row)
passed s id ids p = (p.table, with-id id s.next_catalog p.table s.tables ids.tables p.there p.id_is, p.over)

-- ---- the table of a staged file

module _ (t : Tables) (newest : SnapshotRow) (told : List Kind) (base head : State) (own : List Change) (free : IsFree told base head own)
    (version : NamedVersion) (files : Files) (staged : List NamedStagedTable) (are : AreFilesStaged files version base own staged) (counters : HasHeadCounters t newest head) where
  abbrev next : ℕ
  next = newest.next_catalog_id

  abbrev new : List Creation
  new = creations 0 0 own

  held-rows : (columns : _) (x : NamedStagedFile) (rows : _) → (o : Option NamedStagedFile) → o ≡ Some x → MayHoldCells files columns o rows → length rows ≡ x.rows
  held-rows columns x rows o is h = let of_file : HoldsCells files columns x rows = subst (λ y. MayHoldCells files columns y rows) is h in rows-held files columns x rows of_file

  module _ (x : FreshFile) (is : (staged_for staged x.table).fresh ≡ Some x.file) (over : MAX_COUNTER < first_row (old_stats t x.table) + x.file.rows) where
    passed-old : IsOldTarget told base head own free version files staged are x.table → IsPassed (grown_state head own) (table_id next new x.table)
    passed-old m =
        let rows = rows_for (ref.Old m.table.id) own in
        let count : length rows ≡ x.file.rows = sym (length-map rows (laid_cells m.table.columns)) ∙ held-rows m.table.columns x.file (map (laid_cells m.table.columns) rows) (staged_for staged (ref.Old m.table.id)).fresh (ap (λ at. (staged_for staged at).fresh) m.at_is ∙ is) m.held in
        let stats = all_in (HasCounters t) m.table head.tables counters.tables m.there in
        let first : first_row (old_stats t x.table) ≡ m.table.next_row = ap (λ at. first_row (old_stats t at)) (sym m.at_is) ∙ ap first_row stats.there ∙ sym stats.next_row in
        record {
          table = grown own m.table;
          there = table-left head own m.table m.there m.stays;
          id_is = ap (table_id next new) m.at_is;
          over = omega (arith, over, count, first);
        }

    passed-made : IsMadeTarget told base head own free version files staged are x.table → IsPassed (grown_state head own) (table_id next new x.table)
    passed-made m =
        let d = m.draft in
        let one = all_in _ d (made_tables 0 own) (made_are 0 own) m.there in
        let count : length (left d.fresh) ≡ x.file.rows = held-rows d.columns x.file (left d.fresh) (staged_for staged d.at).fresh (ap (λ at. (staged_for staged at).fresh) m.at_is ∙ is)
        (all_in (λ (e : Draft). MayHoldCells files e.columns (staged_for staged e.at).fresh (left e.fresh)) d (made_tables 0 own) (made-held told base head own free version files staged are) m.there) in
        let first : first_row (old_stats t x.table) ≡ 0 = ap (λ at. first_row (old_stats t at)) (sym m.at_is ∙ one.at_is) in
        record {
          table = settled_table head.next_catalog new d;
          there = in_right (settled_table head.next_catalog new d) (map (grown own) (left_tables head own)) (new_tables head.next_catalog own) (map_in (settled_table head.next_catalog new) d (made_tables 0 own) m.there);
          id_is = ap (λ n. table_id n new d.at) counters.next_catalog ∙ ap (table_id next new) m.at_is;
          over = omega (arith, over, count, first);
        }

    passed-of : IsPassed (grown_state head own) (table_id next new x.table)
    passed-of = ⊎_elim passed-old passed-made (target-of told base head own free version files staged are x.table x.file is)

-- ---- the core

module _ (c : Shown) (files : Files) (g : Ground) (stands : Stands c files g) (own : List Change) (grows : AllByRecursion IsGrowth own) where
  abbrev sound : IsSound c.rows files g.core.first g.core.versions
  sound = stands.sound

  next-is : next_state g.core own ≡ grown_state sound.head.state own
  next-is = ap (λ (v : Version). apply v.state own) (version-at-head c files g stands) ∙ grows_by_table sound.head.state own grows

  catalog-next : (next_state g.core own).next_catalog ≡ sound.newest.next_catalog_id + length (creations 0 0 own)
  catalog-next = ap (λ (s : State). s.next_catalog) next-is ∙ ap (λ n. n + length (creations 0 0 own)) sound.counters.next_catalog

  next-ids : HasCatalogIds sound.head.state → HasCatalogIds (next_state g.core own)
  next-ids ids = subst (λ (v : Version). HasCatalogIds (apply v.state own)) (sym (version-at-head c files g stands)) (catalog_ids_rise sound.head.state own ids)

  -- What is spent first in the core is past its limit in the lake.
  module _ (told : List Kind) (base : State) (free : IsFree told base sound.head.state own)
      (version : NamedVersion) (staged : List NamedStagedTable) (are : AreFilesStaged files version base own staged) where
    abbrev ToPass : Counter → Type 0
    ToPass x = Passes x g own (length (fresh_files staged))

    rows-pass : (x : Counter) → IsRowOver c.rows sound.newest.next_catalog_id (creations 0 0 own) (fresh_files staged) x → ToPass x
    rows-pass x m =
        let s = staged-as staged m.file m.there in
        let is : (staged_for staged m.file.table).fresh ≡ Some m.file.file = ap (λ (y : NamedStagedTable). y.fresh) (staged_is staged s.stage m.file.table are.is_staged.once s.there s.table) ∙ s.file in
        let id = table_id sound.newest.next_catalog_id (creations 0 0 own) m.file.table in
        let p = subst (λ (u : State). IsPassed u id) (sym next-is) (passed-of c.rows sound.newest told base sound.head.state own free version files staged are sound.counters m.file is m.over.over) in
        subst ToPass m.over.is (passed (next_state g.core own) id (next-ids free.head_ids) p)

    catalog-pass : (x : Counter) → IsOver counter.Catalog x (sound.newest.next_catalog_id + length (creations 0 0 own)) → ToPass x
    catalog-pass x h = subst ToPass h.is (subst (λ n. MAX_COUNTER < n) (sym catalog-next) h.over)

    file-pass : (x : Counter) → IsOver counter.File x (sound.newest.next_file_id + length (fresh_files staged)) → ToPass x
    file-pass x h = subst ToPass h.is (subst (λ n. MAX_COUNTER < n + length (fresh_files staged)) (sym stands.next_file) h.over)

    snapshot-pass : (x : Counter) → IsOver counter.Snapshot x (sound.newest.snapshot_id + 1) → ToPass x
    snapshot-pass x h = subst ToPass h.is (subst (λ n. MAX_COUNTER < n + 1) (head-number c files g stands) h.over)

    first-passes : (x : Counter) → first_spent c.rows sound.newest (creations 0 0 own) (fresh_files staged) ≡ Some x → ToPass x
    first-passes x e =
        let n = sound.newest in
        let new = creations 0 0 own in
        let xs = fresh_files staged in
        let last = spent_if counter.Snapshot (n.snapshot_id + 1) in
        let late = option_or (spent_if counter.File (n.next_file_id + length xs)) last in
        ⊎_elim (λ a. catalog-pass x (over-of counter.Catalog x (n.next_catalog_id + length new) a))
        (λ later. ⊎_elim (λ a. rows-pass x (row-over c.rows n.next_catalog_id new xs x a))
        (λ more. ⊎_elim (λ a. file-pass x (over-of counter.File x (n.next_file_id + length xs) a)) (λ a. snapshot-pass x (over-of counter.Snapshot x (n.snapshot_id + 1) a))
        (either-some (spent_if counter.File (n.next_file_id + length xs)) last x more))
        (either-some (spent_rows c.rows n.next_catalog_id new xs) late x later))
        (either-some (spent_if counter.Catalog (n.next_catalog_id + length new)) (option_or (spent_rows c.rows n.next_catalog_id new xs) late) x e)

    pub spent-passes : (x : Counter) → IsSpent c.rows own staged x → ToPass x
    spent-passes x s =
        first-passes x (subst (λ (r : SnapshotRow). first_spent c.rows r (creations 0 0 own) (fresh_files staged) ≡ Some x) (newest-same c files g stands s.newest_row s.newest_is) s.spent)

-- of a list that grows and fits what is open, that conflicts with nothing since, and whose staged files are there
pub counter-passes : (c : Shown) (files : Files) (g : Ground) (session : ℕ) (o : Opened) (own : List Change) (staged : List NamedStagedTable) (sealed : List CarriedFile) → (w : IsWriting c files g session o)
    → AllByRecursion IsGrowth own → FitsOpen g.core own (open_at g.core session) → IsStagedFor files g.core own staged sealed o → first_since c o.base (kinds o.version.schemas own) ≡ None
    → (x : Counter) → IsSpent c.rows own staged x → Passes x g own (length (fresh_files staged))
counter-passes c files g session o own staged sealed w grows fits stage free x spent =
    spent-passes c files g w.stands own grows (told_past g.core o.base) (version_at g.core o.base).state (is-free c files g session o w own grows fits free) o.version staged
    (record { grows = grows; is_staged = stage.staged_is; none_inlined = stage.in_files }) x spent
