-- A commit that lands leaves a core that stands, for the lake with one version more.
use Rattle.std.proofs.Common.{◌≡◌, ◌≢◌, ◌≤◌, ◌<◌, ◌+◌, ◌-◌, ℕ, ℤ, Bool, true, false, ⊎_elim, List, [], ◌∷◌, ◌++◌, length, map, drop, slice_index_or, slice_set, refl, sym, ap, ap₂, ◌∙◌, subst, arith, append-nil, Option, Some, None}
use Rattle.std.specs.Prelude.{IfSome, IsSome, is_some, nat_le, option_map}
use Rattle.std.specs.List.{AllByRecursion, flat_map}
use Rattle.std.specs.Option.{option_or}
use Rattle.std.proofs.Math.ListN.{drop_of_length-le}
use Rattle.std.proofs.Math.Seq.{get_or-append_seam}
use Rattle.std.proofs.lemmas.Bool.{and_from, and_parts, cases_lt, le-leb, leb-true}
use Rattle.std.proofs.lemmas.Grind.{flat_map-append}
use Rattle.std.proofs.lemmas.List.{drop-append-le, get_or_append_left, length-append, map-append, map-set}
use Rattle.lake_types.specs.declared.kind.Kind.{Kind}
use Rattle.lake_types.specs.declared.kind.SchemaName.{SchemaName}
use Rattle.lake_types.specs.declared.value.Column.{Column}
use Rattle.lake_model.specs.Apply.{Creation, Draft, fields_from, table_id}
use Rattle.lake_model.specs.Calls.{CallStep, Ground, call_step, commit, is_empty, replied}
use Rattle.lake_model.specs.Core.{Core, Version, first_past, first_version, head, is_kept, next_version, open_at, version_at, with_open, with_version}
use Rattle.lake_model.specs.Creations.{creations}
use Rattle.lake_model.specs.Growth.{IsGrowth, made_tables}
use Rattle.lake_model.specs.History.{CarriedFile, FitsOpen, after_call, next_after}
use Rattle.lake_model.specs.Kinds.{drops_table, kinds}
use Rattle.lake_model.specs.State.{State}
use Rattle.lake_model.specs.declared.answer.Counter.TheVariants as counter
use Rattle.lake_model.specs.declared.call.Call.TheVariants.{Commit}
use Rattle.lake_model.specs.declared.call.CallReply.TheVariants.{Snapshot}
use Rattle.lake_model.specs.declared.call.Open.{Open}
use Rattle.lake_model.specs.declared.change.Change.{Change}
use Rattle.lake_model.specs.declared.change.Change.TheVariants as change
use Rattle.lake_model.specs.declared.change.Ref.TheVariants as ref
use Rattle.lake_model.proofs.TableLemmas.{all-joined, all-parts}
use Rattle.lake_rebase.specs.Since.{Tells}
use Rattle.lake_rebase.proofs.HeadLemmas.{kinds-at-head}
use Rattle.lake_rebase.proofs.MemberLemmas.{In, all_by, all_in, in_map, in_of, map_in}
use Rattle.lake_rebase.proofs.TellLemmas.{tells-at-once, tells-more}
use Rattle.cat_rows.specs.Batches.{applied}
use Rattle.cat_rows.specs.Keys.{data_file_key, delete_file_key}
use Rattle.cat_rows.specs.Parts.{batch_of, with_parts}
use Rattle.cat_rows.specs.Tables.{Tables}
use Rattle.cat_rows.specs.Validities.{data_file_validity, delete_file_validity}
use Rattle.cat_rows.specs.declared.batch.Batch.{Batch}
use Rattle.cat_rows.specs.declared.files.DataFileRow.{DataFileRow}
use Rattle.cat_rows.specs.declared.files.DeleteFileRow.{DeleteFileRow}
use Rattle.cat_rows.specs.declared.files.ScheduledFileRow.{ScheduledFileRow}
use Rattle.cat_rows.specs.declared.history.SnapshotRow.{SnapshotRow}
use Rattle.cat_rows.proofs.PartLemmas.{applied-parts}
use Rattle.cat_rows.proofs.PastLemmas.{past-parts}
use Rattle.cat_rules.specs.Kept.{newest}
use Rattle.cat_rules.specs.TableStatsRule.{last_id}
use Rattle.cat_rules.proofs.FirstLemmas.{all_like}
use Rattle.cat_stands.specs.Stands.{IsSound}
use Rattle.cat_stands.proofs.EarlierLemmas.{versions-stay}
use Rattle.cat_view.specs.Files.{Files}
use Rattle.cat_view.specs.Named.{state_of}
use Rattle.cat_view.specs.Sight.{IsVersionAt}
use Rattle.cat_view.specs.Staged.{NamedStagedTable}
use Rattle.cat_view.specs.Typed.{HasBytes}
use Rattle.commit_rules.specs.Lawful.{all_paths}
use Rattle.commit_rules.specs.Laws.{AreRising}
use Rattle.commit_rules.proofs.HeadLemmas.{head-moves}
use Rattle.commit_rules.proofs.TableLemmas.{all-ended, all-put_all, over_end}
use Rattle.rebase.specs.Batch.{batch_at}
use Rattle.rebase.specs.Parts.{FreshFile, first_row, fresh_files, old_stats}
use Rattle.rebase.specs.Spent.{first_spent, spent_if, spent_rows}
use Rattle.rebase.proofs.SpentLemmas.{both_none, counters_left, small}
use Rattle.commit_laws.specs.Commits.{Commits, HasRoom, endings_of}
use Rattle.commit_laws.proofs.CaseLemmas.{Case, is-head, parts}
use Rattle.commit_laws.proofs.FileLemmas.{file-row}
use Rattle.commit_laws.proofs.ListLemmas.{all_both, all_mapped, all_unmapped}
use Rattle.commit_laws.proofs.PartLemmas.{parts_of-case}
use Rattle.commit_laws.proofs.FreeLemmas.{free_commits-stand}
use Rattle.commit_laws.proofs.HeadLemmas.{head-counted}
use Rattle.commit_laws.proofs.RiseLemmas.{rows-rise}
use Rattle.door.specs.Opened.{IsIn, Opened}
use Rattle.door.specs.Standing.{IsStagedFor}
use Rattle.cat_core.specs.Commits.{AreNew, CreatesBytes, HasLanded, IsNext, first_since}
use Rattle.cat_core.specs.Shown.{Shown}
use Rattle.cat_core.specs.Stands.{IsKeptOpen, Stands, open_of, paths_of, told_past}
use Rattle.cat_core.proofs.LandHeadLemmas.{IsWriting, all-put, head-number, is-free, newest-same, newest-sound, open-is, past-since, schemas-are, version-at-head, versions-count, within}

-- ---- what is staged

-- the bytes of created columns are bytes
fields-bytes : (field : ℕ) (cs : List Column) → AllByRecursion HasBytes cs → AllByRecursion HasBytes (fields_from field cs)
fields-bytes field [] h = tt
fields-bytes field (c ∷ cs) h = (record { initial = h.0.initial; default_value = h.0.default_value }, fields-bytes (field + 1) cs h.1)

abbrev HaveBytes : Draft → Type 0
HaveBytes d = AllByRecursion HasBytes d.columns

pub made-bytes : (n : ℕ) (own : List Change) → AllByRecursion CreatesBytes own → AllByRecursion HaveBytes (made_tables n own)
made-bytes n [] h = tt
made-bytes n (change.CreateTable schema name columns ∷ own) h = go (drops_table own (ref.New n)) refl (made-bytes (n + 1) own h.1)
  where
    go : (b : Bool) → drops_table own (ref.New n) ≡ b → AllByRecursion HaveBytes (made_tables (n + 1) own) → AllByRecursion HaveBytes (made_tables n (change.CreateTable schema name columns ∷ own))
    go true e more = rw e more
    go false e more = rw e (fields-bytes 1 columns h.0, more)
made-bytes n (c ∷ own) h = made-bytes n own h.1

rows-room : (t : Tables) (next : ℕ) (new : List Creation) (files : List FreshFile) → spent_rows t next new files ≡ None → AllByRecursion (λ (x : FreshFile). first_row (old_stats t x.table) + x.file.rows ≤ last_id) files
rows-room t next new [] e = tt
rows-room t next new (x ∷ xs) e =
    let both = both_none (spent_if (counter.Row (table_id next new x.table)) (first_row (old_stats t x.table) + x.file.rows)) (spent_rows t next new xs) e in
    (small (counter.Row (table_id next new x.table)) (first_row (old_stats t x.table) + x.file.rows) both.0, rows-room t next new xs both.1)

-- where no counter is spent there is room
pub room-left : (t : Tables) (newest : SnapshotRow) (own : List Change) (files : List FreshFile) → first_spent t newest (creations 0 0 own) files ≡ None → HasRoom t newest own files
room-left t newest own files e =
    let new = creations 0 0 own in
    let h = counters_left t newest new files e in
    let one = both_none (spent_if counter.Catalog (newest.next_catalog_id + length new)) (option_or (spent_rows t newest.next_catalog_id new files) (option_or (spent_if counter.File (newest.next_file_id + length files)) (spent_if counter.Snapshot (newest.snapshot_id + 1)))) e in
    let two = both_none (spent_rows t newest.next_catalog_id new files) (option_or (spent_if counter.File (newest.next_file_id + length files)) (spent_if counter.Snapshot (newest.snapshot_id + 1))) one.1 in
    record { catalog = h.catalog; file = h.file; rows = rows-room t newest.next_catalog_id new files two.0 }

-- ---- new names

held-apart : (held : List ℕ → Option CarriedFile) (path name : List ℕ) → IsSome (held path) → held name ≡ None → path ≢ name
held-apart held path name there none same =
    let gone : held path ≡ None = ap held same ∙ none in
    let no : is_some (held path) ≡ false = ap is_some gone in
    cc (there, no)

unused-by : (t : Tables) (held : List ℕ → Option CarriedFile) → AllByRecursion (λ path. IsSome (held path)) (paths_of t) → (name : List ℕ) → held name ≡ None
    → AllByRecursion (λ (r : ScheduledFileRow). r.path ≢ name) t.scheduled_file → AllByRecursion (λ used. used ≢ name) (all_paths t)
unused-by t held paths name none unscheduled =
    let files = map (λ (r : DataFileRow). r.path) t.data_file in
    let deletes = map (λ (r : DeleteFileRow). r.path) t.delete_file in
    let scheduled = map (λ (r : ScheduledFileRow). r.path) t.scheduled_file in
    let Other : List ℕ → Type 0 = λ used. used ≢ name in
    let both = all-parts Other files deletes (all_like (λ path. IsSome (held path)) Other (λ path there. held-apart held path name there none) (files ++ deletes) paths) in
    all-joined Other files (deletes ++ scheduled) both.0 (all-joined Other deletes scheduled both.1 (all_mapped Other (λ (r : ScheduledFileRow). r.path) t.scheduled_file unscheduled))

abbrev IsUnheld : (List ℕ → Option CarriedFile) → FreshFile → Type 0
IsUnheld held x = held x.file.name ≡ None

abbrev IsUnscheduled : Tables → FreshFile → Type 0
IsUnscheduled t x = AllByRecursion (λ (r : ScheduledFileRow). r.path ≢ x.file.name) t.scheduled_file

pub all-unused : (t : Tables) (held : List ℕ → Option CarriedFile) (xs : List FreshFile) → AllByRecursion (λ path. IsSome (held path)) (paths_of t) → AreNew t held xs
    → AllByRecursion (λ (x : FreshFile). AllByRecursion (λ used. used ≢ x.file.name) (all_paths t)) xs
all-unused t held xs paths new =
    all_like (λ (x : FreshFile). IsUnheld held x × IsUnscheduled t x) (λ (x : FreshFile). AllByRecursion (λ used. used ≢ x.file.name) (all_paths t))
    (λ x h. unused-by t held paths x.file.name h.0 h.1) xs (all_both (IsUnheld held) (IsUnscheduled t) xs new.unheld new.unscheduled)

-- ---- the plain lake's step

step-landed : (core : Core) (session : ℕ) (own : List Change) (x : Option Open) (o : Open) → x ≡ Some o → is_empty own ≡ false → first_past core o.base own ≡ None
    → commit core session own x ≡ replied (with_open (with_version core own) session None) (Snapshot (head core + 1))
step-landed core session own x o p q r = rw (p, q, r) refl

next-landed : (g : Ground) (own : List Change) (count n : ℕ) → is_empty own ≡ false → next_after g (Commit own count) (Snapshot n) ≡ g.next_file + count
next-landed g own count n e = rw e refl

-- the lake with one version more, and nothing open at the session's place
abbrev pub landed_core : Core → ℕ → Version → Core
landed_core core session v = record core { versions = core.versions ++ v ∷ []; opens = slice_set core.opens (session - 1) None }

-- ---- what is known

-- A commit that is about to land: of a list that grows and fits what is open, whose staged files are there, that conflicts
-- with nothing since, and whose batch is the next one.
pub record IsReady (c : Shown) (files : Files) (g : Ground) (session : ℕ) (o : Opened) (own : List Change) (staged : List NamedStagedTable) (time : ℤ) (batch : Batch) (sealed : List CarriedFile) : Type 0 where
  pub writing : IsWriting c files g session o
  pub grows : AllByRecursion IsGrowth own
  pub fits : FitsOpen g.core own (open_at g.core session)
  pub stage : IsStagedFor files g.core own staged sealed o
  pub free : first_since c o.base (kinds o.version.schemas own) ≡ None
  pub next : IsNext c.rows c.held own staged time batch

module _ (c : Shown) (files : Files) (g : Ground) (session : ℕ) (o : Opened) (own : List Change) (staged : List NamedStagedTable) (time : ℤ) (batch : Batch) (sealed : List CarriedFile)
    (r : IsReady c files g session o own staged time batch sealed) where
  newest-row : r.next.newest_row ≡ r.writing.stands.sound.newest
  newest-row = newest-same c files g r.writing.stands r.next.newest_row r.next.newest_is

  pub room : HasRoom c.rows r.writing.stands.sound.newest own (fresh_files staged)
  room = subst (λ n. HasRoom c.rows n own (fresh_files staged)) newest-row (room-left c.rows r.next.newest_row own (fresh_files staged) r.next.unspent)

  -- it is a commit of rows
  abbrev pub commits : Commits c.rows files g.core.first g.core.versions (told_past g.core o.base) files o.version (version_at g.core o.base).state own staged
  commits = record {
    sound = r.writing.stands.sound;
    rising = r.writing.stands.rising;
    free = is-free c files g session o r.writing own r.grows r.fits r.free;
    stage = r.stage.staged_is;
    typed = r.stage.typed;
    bytes = made-bytes 0 own r.next.bytes;
    differ = r.next.names.differ;
    unused = all-unused c.rows c.held (fresh_files staged) r.writing.stands.paths r.next.names;
    room = room;
  }

  abbrev pub case_of : Case
  case_of = record {
    t = c.rows;
    files = files;
    first = g.core.first;
    versions = g.core.versions;
    told = told_past g.core o.base;
    more = files;
    base = o.version;
    state = (version_at g.core o.base).state;
    own = own;
    staged = staged;
    time = time;
    c = commits;
  }

  -- the version that the batch is made at has the head's schemas
  names-are : r.next.head.version.schemas ≡ r.writing.stands.sound.head.state.schemas
  names-are =
      let sound = r.writing.stands.sound in
      let h = head-counted c.rows files g.core.first g.core.versions sound in
      let number : r.next.head.base ≡ sound.newest.snapshot_id = r.next.base ∙ ap (λ (n : SnapshotRow). n.snapshot_id) newest-row in
      let sees : IsVersionAt c.rows sound.newest.snapshot_id r.next.head.version = subst (λ n. IsVersionAt c.rows n r.next.head.version) number r.next.made.sees in
      sees.schemas ∙ sym h.sees.schemas ∙ ap (λ (s : State). s.schemas) h.is

  -- so the batch is that of its parts
  pub batch-is : batch ≡ batch_of (parts case_of)
  batch-is = r.next.batch_is ∙ ap₂ (λ n names. batch_at c.rows n time names own staged) newest-row names-are

-- A commit of a list that has changes lands: this is what the core keeps then.
pub record IsLanding (c new : Shown) (files : Files) (g : Ground) (session : ℕ) (o : Opened) (own : List Change) (staged : List NamedStagedTable) (time : ℤ) (batch : Batch) (sealed : List CarriedFile) : Type 0 where
  pub ready : IsReady c files g session o own staged time batch sealed
  pub some : is_empty own ≡ false
  pub named : map (λ (f : CarriedFile). f.name) sealed ≡ map (λ (x : FreshFile). x.file.name) (fresh_files staged)
  pub landed : HasLanded batch (kinds o.version.schemas own) (session - 1) sealed c new

module _ (c new : Shown) (files : Files) (g : Ground) (session : ℕ) (o : Opened) (own : List Change) (staged : List NamedStagedTable) (time : ℤ) (batch : Batch) (sealed : List CarriedFile)
    (l : IsLanding c new files g session o own staged time batch sealed) where
  abbrev writing : IsWriting c files g session o
  writing = l.ready.writing

  abbrev stands : Stands c files g
  stands = writing.stands

  abbrev sound : IsSound c.rows files g.core.first g.core.versions
  sound = stands.sound

  abbrev told : List Kind
  told = told_past g.core o.base

  abbrev base : State
  base = (version_at g.core o.base).state

  abbrev fresh : List FreshFile
  fresh = fresh_files staged

  -- the version that it makes
  abbrev pub made : Version
  made = next_version sound.head own

  abbrev pub core' : Core
  core' = landed_core g.core session made

  -- ---- the commit of rows

  abbrev commit_now : Commits c.rows files g.core.first g.core.versions told files o.version base own staged
  commit_now = commits c files g session o own staged time batch sealed l.ready

  abbrev k : Case
  k = case_of c files g session o own staged time batch sealed l.ready

  rows-are : new.rows ≡ applied (batch_of (parts k)) c.rows
  rows-are = l.landed.rows ∙ ap (λ b. applied b c.rows) (batch-is c files g session o own staged time batch sealed l.ready)

  sound-then : IsSound new.rows files g.core.first (g.core.versions ++ made ∷ [])
  sound-then =
      subst (λ (t : Tables). IsSound t files g.core.first (g.core.versions ++ made ∷ [])) (sym rows-are)
      (free_commits-stand c.rows files g.core.first g.core.versions told files o.version base own staged time commit_now l.ready.stage.in_files (λ name there. refl))

  rising-then : AreRising new.rows
  rising-then = subst AreRising (sym rows-are) (rows-rise c.rows files g.core.first g.core.versions told files o.version base own staged time commit_now)

  newest-then : newest new.rows.snapshot ≡ Some (parts k).snapshot
  newest-then = ap (λ (t : Tables). newest t.snapshot) rows-are ∙ (head-moves c.rows sound.newest (parts k) (is-head k) (parts_of-case k).number).last

  next_file-then : g.next_file + length fresh ≡ sound-then.newest.next_file_id
  next_file-then =
      let same : Some sound-then.newest ≡ Some (parts k).snapshot = sym (newest-sound new.rows files g.core.first (g.core.versions ++ made ∷ []) sound-then) ∙ newest-then in
      let is : sound-then.newest ≡ (parts k).snapshot = cc in
      ap (λ n. n + length fresh) stands.next_file ∙ sym (ap (λ (r : SnapshotRow). r.next_file_id) is)

  -- ---- versions

  count-then : length (g.core.versions ++ made ∷ []) ≡ length g.core.versions + 1
  count-then = length-append g.core.versions (made ∷ [])

  head-then : head core' ≡ head g.core + 1
  head-then = let a = count-then in let b = versions-count c files g stands in omega (arith, a, b)

  version-still : (n : ℕ) → is_kept g.core n ≡ true → version_at core' n ≡ version_at g.core n
  version-still n e = get_or_append_left g.core.versions (made ∷ []) first_version (n - g.core.first) (within c files g stands n e).place

  last-then : version_at core' (head core') ≡ made
  last-then =
      let place : head core' - g.core.first ≡ length g.core.versions = let a = count-then in let b = versions-count c files g stands in omega (arith, a, b) in
      ap (λ i. slice_index_or (g.core.versions ++ made ∷ []) i first_version) place ∙ get_or-append_seam g.core.versions made [] first_version

  kept-still : (n : ℕ) → is_kept g.core n ≡ true → is_kept core' n ≡ true
  kept-still n e =
      let w = within c files g stands n e in
      let high = w.high in
      let up = head-then in
      and_from (nat_le g.core.first n) (nat_le n (head core')) (le-leb g.core.first n w.low) (le-leb n (head core') (omega (arith, high, up)))

  -- ---- what is open

  open-still : (x : Opened) → IsKeptOpen c.rows files c.start g.core x → IsKeptOpen new.rows files new.start core' x
  open-still x h =
      let high = (within c files g stands x.base h.kept).high in
      let number = head-number c files g stands in
      let past = past-parts c.rows sound.newest.snapshot_id (parts k) (endings_of own) (parts_of-case k) x.base (omega (arith, high, number)) in
      record {
        kept = kept-still x.base h.kept;
        sees = subst (λ (t : Tables). IsVersionAt t x.base x.version) (sym rows-are) ((versions-stay (batch_of (parts k)) c.rows x.base past x.version).0 h.sees);
        there = h.there;
        since = λ writes. subst (λ n. n ≤ x.base) (sym l.landed.start) (h.since writes);
        whole = λ writes. subst (λ (v : Version). state_of files v.state.next_catalog x.version ≡ v.state) (sym (version-still x.base h.kept)) (h.whole writes);
      }

  abbrev IsOpenBefore : Option Opened → Type 0
  IsOpenBefore x = IfSome x (IsKeptOpen c.rows files c.start g.core)

  abbrev IsOpenThen : Option Opened → Type 0
  IsOpenThen x = IfSome x (IsKeptOpen new.rows files new.start core')

  slot-still : (x : Option Opened) → IsOpenBefore x → IsOpenThen x
  slot-still None h = tt
  slot-still (Some x) h = open-still x h

  each-then : AllByRecursion IsOpenThen new.opens
  each-then = subst (AllByRecursion IsOpenThen) (sym l.landed.opens) (all-put IsOpenThen c.opens (session - 1) None (all_like IsOpenBefore IsOpenThen slot-still c.opens stands.each) tt)

  opens-then : map (option_map open_of) new.opens ≡ core'.opens
  opens-then = ap (map (option_map open_of)) l.landed.opens ∙ map-set (option_map open_of) c.opens (session - 1) None ∙ ap (λ os. slice_set os (session - 1) None) stands.opens

  -- ---- kinds

  abbrev kinds_of : Version → List Kind
  kinds_of v = v.kinds

  mine-are : kinds o.version.schemas own ≡ made.kinds
  mine-are =
      ap (λ (names : List SchemaName). kinds names own) (sym (schemas-are c files g session o writing))
      ∙ sym (kinds-at-head told base sound.head.state own commit_now.free)

  start-kept : is_kept core' new.start ≡ true
  start-kept = subst (λ n. is_kept core' n ≡ true) (sym l.landed.start) (kept-still c.start stands.start)

  dropped : (n : ℕ) → is_kept g.core n ≡ true → drop (n + 1 - g.core.first) (g.core.versions ++ made ∷ []) ≡ drop (n + 1 - g.core.first) g.core.versions ++ made ∷ []
  dropped n e =
      let w = within c files g stands n e in
      let high = w.high in
      let count = versions-count c files g stands in
      drop-append-le (n + 1 - g.core.first) g.core.versions (made ∷ []) (omega (arith, high, count))

  kinds-then : new.kinds ≡ map kinds_of (drop (new.start + 1 - g.core.first) (g.core.versions ++ made ∷ []))
  kinds-then =
      let before = drop (c.start + 1 - g.core.first) g.core.versions in
      l.landed.kinds
      ∙ ap₂ (λ ks m. ks ++ m ∷ []) stands.kinds mine-are
      ∙ sym (map-append kinds_of before (made ∷ []))
      ∙ ap (map kinds_of) (sym (dropped c.start stands.start))
      ∙ ap (λ n. map kinds_of (drop (n + 1 - g.core.first) (g.core.versions ++ made ∷ []))) (sym l.landed.start)

  -- ---- what is told

  told-still : (n : ℕ) → is_kept g.core n ≡ true → told_past core' n ≡ told_past g.core n ++ made.kinds
  told-still n e =
      ap (flat_map kinds_of) (dropped n e)
      ∙ flat_map-append kinds_of (drop (n + 1 - g.core.first) g.core.versions) (made ∷ [])
      ∙ ap (λ ks. told_past g.core n ++ ks) (append-nil made.kinds)

  none-told : told_past core' (head core') ≡ []
  none-told =
      let a = count-then in
      let b = versions-count c files g stands in
      ap (flat_map kinds_of) (drop_of_length-le (g.core.versions ++ made ∷ []) (omega (arith, a, b)))

  abbrev TellsThen : ℕ → Type 0
  TellsThen n = Tells (told_past core' n) (version_at core' n).state (version_at core' (head core')).state

  tells-old : (n : ℕ) → c.start ≤ n → is_kept g.core n ≡ true → TellsThen n
  tells-old n le e =
      let before : Tells (told_past g.core n) (version_at g.core n).state sound.head.state =
      subst (λ (v : Version). Tells (told_past g.core n) (version_at g.core n).state v.state) (version-at-head c files g stands) (stands.told n le e) in
      let after : Tells (told_past g.core n ++ made.kinds) (version_at g.core n).state made.state = tells-more (told_past g.core n) told (version_at g.core n).state base sound.head.state own commit_now.free before in
      subst (λ ks. Tells ks (version_at core' n).state (version_at core' (head core')).state) (sym (told-still n e))
      (subst (λ (v : Version). Tells (told_past g.core n ++ made.kinds) v.state (version_at core' (head core')).state) (sym (version-still n e))
      (subst (λ (v : Version). Tells (told_past g.core n ++ made.kinds) (version_at g.core n).state v.state) (sym last-then) after))

  tells-new : TellsThen (head core')
  tells-new =
      subst (λ ks. Tells ks (version_at core' (head core')).state (version_at core' (head core')).state) (sym none-told) (tells-at-once (version_at core' (head core')).state)

  tells-then : (n : ℕ) → new.start ≤ n → is_kept core' n ≡ true → TellsThen n
  tells-then n le e =
      let both = and_parts (nat_le g.core.first n) (nat_le n (head core')) e in
      let high = leb-true n (head core') both.1 in
      let up = head-then in
      ⊎_elim (λ (lt : head g.core < n). let is : head core' ≡ n = omega (arith, lt, high, up) in subst TellsThen is tells-new)
      (λ (old : n ≤ head g.core). tells-old n (subst (λ m. m ≤ n) l.landed.start le) (and_from (nat_le g.core.first n) (nat_le n (head g.core)) both.0 (le-leb n (head g.core) old)))
      (cases_lt (head g.core) n)

  -- ---- files that are held

  held-then : (name : List ℕ) (f : CarriedFile) → new.held name ≡ Some f → (f.name ≡ name) × IsIn files f
  held-then name f e =
      ⊎_elim (λ before. stands.held name f before)
      (λ now. (now.1, all_in (IsIn files) f sealed l.ready.stage.there (in_of f sealed now.0)))
      (l.landed.held.only name f e)

  abbrev IsHeld : List ℕ → Type 0
  IsHeld path = IsSome (new.held path)

  held-still : (path : List ℕ) → IsSome (c.held path) → IsHeld path
  held-still path there = ap is_some (l.landed.held.still path there) ∙ there

  held-new : (x : FreshFile) → In x fresh → IsHeld x.file.name
  held-new x there =
      let m = in_map (λ (f : CarriedFile). f.name) x.file.name sealed (subst (In x.file.name) (sym l.named) (map_in (λ (y : FreshFile). y.file.name) x fresh there)) in
      let now = all_in (λ (f : CarriedFile). new.held f.name ≡ Some f) m.of sealed l.landed.held.new m.there in
      subst IsHeld m.is (ap is_some now)

  paths-still : AllByRecursion IsHeld (paths_of c.rows)
  paths-still = all_like (λ path. IsSome (c.held path)) IsHeld held-still (paths_of c.rows) stands.paths

  data_held : AllByRecursion (λ (r : DataFileRow). IsHeld r.path) (with_parts (parts k) c.rows).data_file
  data_held =
      let Held : DataFileRow → Type 0 = λ r. IsHeld r.path in
      let old = all_unmapped IsHeld (λ (r : DataFileRow). r.path) c.rows.data_file (all-parts IsHeld (map (λ (r : DataFileRow). r.path) c.rows.data_file) (map (λ (r : DeleteFileRow). r.path) c.rows.delete_file) paths-still).0 in
      all-put_all data_file_key Held (parts k).data_file _
      (all_by Held (parts k).data_file (λ r there. let f = file-row k r there in subst Held f.is (held-new f.file f.there)))
      (all-ended data_file_key data_file_validity Held (parts k).snapshot.snapshot_id (over_end data_file_key data_file_validity Held (parts k).snapshot.snapshot_id (λ e r h. h)) (parts k).ended_data_file c.rows.data_file old)

  deletes_held : AllByRecursion (λ (r : DeleteFileRow). IsHeld r.path) (with_parts (parts k) c.rows).delete_file
  deletes_held =
      let Held : DeleteFileRow → Type 0 = λ r. IsHeld r.path in
      let old = all_unmapped IsHeld (λ (r : DeleteFileRow). r.path) c.rows.delete_file (all-parts IsHeld (map (λ (r : DataFileRow). r.path) c.rows.data_file) (map (λ (r : DeleteFileRow). r.path) c.rows.delete_file) paths-still).1 in
      all-ended delete_file_key delete_file_validity Held (parts k).snapshot.snapshot_id (over_end delete_file_key delete_file_validity Held (parts k).snapshot.snapshot_id (λ e r h. h)) (parts k).ended_delete_file c.rows.delete_file old

  paths-then : AllByRecursion IsHeld (paths_of new.rows)
  paths-then =
      let t = with_parts (parts k) c.rows in
      subst (λ (u : Tables). AllByRecursion IsHeld (paths_of u)) (sym (rows-are ∙ applied-parts (parts k) c.rows))
      (all-joined IsHeld (map (λ (r : DataFileRow). r.path) t.data_file) (map (λ (r : DeleteFileRow). r.path) t.delete_file)
      (all_mapped IsHeld (λ (r : DataFileRow). r.path) t.data_file data_held) (all_mapped IsHeld (λ (r : DeleteFileRow). r.path) t.delete_file deletes_held))

  -- ---- the whole

  stands-then : Stands new files (record { core = core'; next_file = g.next_file + length fresh })
  stands-then = record {
    sound = sound-then;
    rising = rising-then;
    next_file = next_file-then;
    opens = opens-then;
    each = each-then;
    start = start-kept;
    kinds = kinds-then;
    told = tells-then;
    held = held-then;
    paths = paths-then;
  }

  -- what the plain lake does is that, and its reply is the new version's number
  pub step-is : call_step g.core session (Commit own (length fresh)) ≡ replied core' (Snapshot (head g.core + 1))
  step-is =
      step-landed g.core session own (open_at g.core session) (open_of o) (open-is c files g stands session o writing.slot) l.some (past-since c files g session o writing own ∙ l.ready.free)
      ∙ ap (λ (v : Version). replied (landed_core g.core session (next_version v own)) (Snapshot (head g.core + 1))) (version-at-head c files g stands)

  -- It stands for the lake after the call.
  pub stands-landed : Stands new files (after_call g session (Commit own (length fresh)) (Snapshot (head g.core + 1)))
  stands-landed =
      subst (λ (h : Ground). Stands new files h)
      (sym (ap₂ (λ core next. record { core = core; next_file = next }) (ap (λ (s : CallStep). s.core) step-is) (next-landed g own (length fresh) (head g.core + 1) l.some))) stands-then
