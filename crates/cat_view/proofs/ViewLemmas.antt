-- The tables that were put together are those that the snapshot sees.
use Rattle.std.proofs.Common.{◌≡◌, ℕ, ◌==◌, Bool, true, false, cond, List, [], ◌∷◌, ◌++◌, filter, map, Option, Some, None, option_map, refl, sym, ap, ap₂, subst, ◌∙◌}
use Rattle.std.specs.Arc.{arc_value}
use Rattle.std.specs.List.{AllByRecursion, AllZip, slice_get}
use Rattle.std.specs.declared.sync.Arc.{Arc}
use Rattle.std.proofs.lemmas.List.{map-append}
use Rattle.lake_types.specs.declared.value.Column.{Column}
use Rattle.lake_types.specs.declared.value.Row.{Row}
use Rattle.cat_tables.specs.Table.{IsBelow, RisesByKey}
use Rattle.cat_tables.specs.Validity.{is_visible, visible_at}
use Rattle.cat_rows.specs.Keys.{table_key}
use Rattle.cat_rows.specs.Seen.{seen_at}
use Rattle.cat_rows.specs.Tables.{Tables}
use Rattle.cat_rows.specs.Validities.{data_file_validity, delete_file_validity, inlined_row_validity, schema_validity, table_validity}
use Rattle.cat_rows.specs.declared.files.DataFileRow.{DataFileRow}
use Rattle.cat_rows.specs.declared.files.DeleteFileRow.{DeleteFileRow}
use Rattle.cat_rows.specs.declared.inlined.InlinedRow.{InlinedRow}
use Rattle.cat_rows.specs.declared.schemas.SchemaRow.{SchemaRow}
use Rattle.cat_rows.specs.declared.schemas.TableRow.{TableRow}
use Rattle.cat_view.specs.Building.{AreTableViews, IsReady, IsTableView, head_of, heads_in, schemas_in}
use Rattle.cat_view.specs.Groups.{id_key, is_owner, rows_of}
use Rattle.cat_view.specs.Held.{AreCopies}
use Rattle.cat_view.specs.LiveFiles.{AreLive, delete_at}
use Rattle.cat_view.specs.Named.{NamedFile}
use Rattle.cat_view.specs.Owners.{data_file_owner, delete_file_owner, inlined_owner, owner_if}
use Rattle.cat_view.specs.Reading.{CanBeViewed, HasHeld, TellsFile, TellsTable, file_stats}
use Rattle.cat_view.specs.Sight.{HasCounters, IsInlined, IsTableAt, delete_row, deletes_of, file_of, schema_of, stats_row}
use Rattle.cat_view.specs.Stats.{AreRead}
use Rattle.cat_view.specs.Views.{named_file, named_table}
use Rattle.cat_view.specs.declared.held.HeldFile.{HeldFile}
use Rattle.cat_view.specs.declared.live.LiveFile.{LiveFile}
use Rattle.cat_view.specs.declared.live.TableHead.{TableHead}
use Rattle.cat_view.specs.declared.live.TableView.{TableView}
use Rattle.cat_view.proofs.BuildLemmas.{columns_seen, owned_seen, spells, spells_cells}
use Rattle.cat_view.proofs.InlinedLemmas.{zip-push}

-- one more table
pub one_table : {F A : Type 0} (name : F → List ℕ) (held : List (HeldFile F)) (s : ℕ) (t : Tables) (size part : F → ℕ) (bytes : F → Option (List ℕ))
    (tables now : List (Arc (TableView F) A)) (head : TableHead) (shared : Arc (TableView F) A) → IsTableView name held s t size part bytes head (arc_value shared) → now ≡ tables ++ shared ∷ []
    → (heads : List TableHead) → AreTableViews name held s t size part bytes heads tables → AreTableViews name held s t size part bytes (heads ++ head ∷ []) now
one_table name held s t size part bytes tables now head shared one is heads all =
    subst (λ xs. AllZip (IsTableView name held s t size part bytes) (heads ++ head ∷ []) (map (λ x. arc_value x) xs)) (sym is)
    (subst (AllZip (IsTableView name held s t size part bytes) (heads ++ head ∷ [])) (sym (map-append (λ x. arc_value x) tables (shared ∷ [])))
    (zip-push (IsTableView name held s t size part bytes) heads (map (λ x. arc_value x) tables) head (arc_value shared) all one))

-- ---- heads

-- ids of heads rise as the tables' rows do
pub heads_rise : (s : ℕ) (rows : List TableRow) → RisesByKey table_key rows → RisesByKey id_key (map (λ (h : TableHead). h.id) (heads_in s rows))
heads_rise s [] up = tt
heads_rise s (r ∷ rows) up = go (is_visible table_validity s r) (heads_rise s rows up.1)
  where
    keep : (b : Bool) (q : TableRow) (rs : List ℕ) → IsBelow table_key r q → AllByRecursion (IsBelow id_key r.table_id) rs → AllByRecursion (IsBelow id_key r.table_id) (map (λ (h : TableHead). h.id) (map head_of (cond b (q ∷ []) [])) ++ rs)
    keep true q rs h more = (h, more)
    keep false q rs h more = more

    above : (rs : List TableRow) → AllByRecursion (IsBelow table_key r) rs → AllByRecursion (IsBelow id_key r.table_id) (map (λ (h : TableHead). h.id) (heads_in s rs))
    above [] h = tt
    above (q ∷ rs) h = pick (is_visible table_validity s q) (above rs h.1)
      where
        pick : (b : Bool) → AllByRecursion (IsBelow id_key r.table_id) (map (λ (h : TableHead). h.id) (heads_in s rs))
            → AllByRecursion (IsBelow id_key r.table_id) (map (λ (h : TableHead). h.id) (map head_of (cond b (q ∷ filter (is_visible table_validity s) rs) (filter (is_visible table_validity s) rs))))
        pick true more = (h.0, more)
        pick false more = more

    go : (b : Bool) → RisesByKey id_key (map (λ (h : TableHead). h.id) (heads_in s rows))
        → RisesByKey id_key (map (λ (h : TableHead). h.id) (map head_of (cond b (r ∷ filter (is_visible table_validity s) rows) (filter (is_visible table_validity s) rows))))
    go true more = (above rows up.0, more)
    go false more = more

-- each can be read
pub heads_ready : (s : ℕ) (t : Tables) (rows : List TableRow) → AllByRecursion (CanBeViewed t s) (visible_at table_validity s rows) → AllByRecursion (λ (h : TableHead). IsReady s t h.id) (heads_in s rows)
heads_ready s t [] all = tt
heads_ready s t (r ∷ rows) all = go (is_visible table_validity s r) all (λ more. heads_ready s t rows more)
  where
    ready : CanBeViewed t s (record r { end_snapshot = None }) → IsReady s t r.table_id
    ready h = record {
      columns = spells s r.table_id t.column h.columns;
      inlined = spells_cells s r.table_id t.inlined_row h.inlined;
      counters = record { stats = h.stats; there = h.there; field = h.field };
    }

    go : (b : Bool) → AllByRecursion (CanBeViewed t s) (map (λ (q : TableRow). record q { end_snapshot = None }) (cond b (r ∷ filter (is_visible table_validity s) rows) (filter (is_visible table_validity s) rows)))
        → (AllByRecursion (CanBeViewed t s) (visible_at table_validity s rows) → AllByRecursion (λ (h : TableHead). IsReady s t h.id) (heads_in s rows))
        → AllByRecursion (λ (h : TableHead). IsReady s t h.id) (map head_of (cond b (r ∷ filter (is_visible table_validity s) rows) (filter (is_visible table_validity s) rows)))
    go true h more = (ready h.0, more h.1)
    go false h more = more h

-- ---- files

-- the delete file of a data file is that which the snapshot sees of it
delete_seen : (s id : ℕ) (rows : List DeleteFileRow) → option_map deletes_of (delete_at s rows id) ≡ option_map deletes_of (delete_row (visible_at delete_file_validity s rows) id)
delete_seen s id [] = refl
delete_seen s id (d ∷ rows) = go (is_visible delete_file_validity s d) (delete_seen s id rows)
  where
    open_delete : DeleteFileRow → DeleteFileRow
    open_delete q = record q { end_snapshot = None }

    go : (b : Bool) → option_map deletes_of (delete_at s rows id) ≡ option_map deletes_of (delete_row (visible_at delete_file_validity s rows) id)
        → option_map deletes_of (slice_get (cond (is_owner id (owner_if b d.data_file_id)) (d ∷ rows_of (delete_file_owner s) id rows) (rows_of (delete_file_owner s) id rows)) 0)
        ≡ option_map deletes_of (delete_row (map (λ (q : DeleteFileRow). record q { end_snapshot = None }) (cond b (d ∷ filter (is_visible delete_file_validity s) rows) (filter (is_visible delete_file_validity s) rows))) id)
    go false more = more
    go true more = take (d.data_file_id == id)
      where
        take : (b : Bool) → option_map deletes_of (slice_get (cond b (d ∷ rows_of (delete_file_owner s) id rows) (rows_of (delete_file_owner s) id rows)) 0)
            ≡ option_map deletes_of (cond b (Some (record d { end_snapshot = None })) (delete_row (visible_at delete_file_validity s rows) id))
        take true = refl
        take false = more

files_named : {F A : Type 0} (name : F → List ℕ) (held : List (HeldFile F)) (s : ℕ) (t : Tables) (columns : List Column) (size part : F → ℕ) (bytes : F → Option (List ℕ))
    (rows : List DataFileRow) (files : List (Arc (LiveFile F) A)) → AreLive name held s t columns size part bytes rows files
    → map (λ f. named_file name (arc_value f)) files ≡ map (file_of (visible_at delete_file_validity s t.delete_file)) (map (λ (r : DataFileRow). record r { end_snapshot = None }) rows)
files_named name held s t columns size part bytes [] [] all = refl
files_named name held s t columns size part bytes [] (f ∷ files) all = absurd all
files_named name held s t columns size part bytes (r ∷ rows) [] all = absurd all
files_named name held s t columns size part bytes (r ∷ rows) (f ∷ files) all =
    ap₂ ◌∷◌
    (all.0.named ∙ ap (λ d. record { id = r.data_file_id; name = r.path; rows = r.record_count; weight = r.weight; first_row = r.row_id_start; deletes = d }) (delete_seen s r.data_file_id t.delete_file))
    (files_named name held s t columns size part bytes rows files all.1)

inlined_opened : (columns : List Column) (rows : List InlinedRow) (made : List Row) → AllZip (IsInlined columns) rows made → AllZip (IsInlined columns) (map (λ (r : InlinedRow). record r { end_snapshot = None }) rows) made
inlined_opened columns [] [] all = tt
inlined_opened columns [] (m ∷ made) all = absurd all
inlined_opened columns (r ∷ rows) [] all = absurd all
inlined_opened columns (r ∷ rows) (m ∷ made) all = (record { cells = all.0.cells; spelled = all.0.spelled; laid = all.0.laid }, inlined_opened columns rows made all.1)

-- ---- tables

module _ {F : Type 0} (name : F → List ℕ) (held : List (HeldFile F)) (s : ℕ) (t : Tables) (size part : F → ℕ) (bytes : F → Option (List ℕ)) where
  pub table_is : (r : TableRow) (x : TableView F) → IsTableView name held s t size part bytes (head_of r) x → IsTableAt (seen_at s t) (record r { end_snapshot = None }) (named_table name x)
  table_is r x h = record {
    id = ap (λ (d : TableHead). d.id) h.head_is;
    schema = ap (λ (d : TableHead). d.schema) h.head_is;
    name = ap (λ (d : TableHead). d.name) h.head_is;
    columns = columns_seen s r.table_id t.column x.columns h.columns;
    files =
        files_named name held s t x.columns size part bytes (rows_of (data_file_owner s) r.table_id t.data_file) x.files.items h.files
        ∙ ap (map (file_of (visible_at delete_file_validity s t.delete_file))) (owned_seen data_file_validity s (λ (f : DataFileRow). f.table_id) r.table_id t.data_file (λ f. refl));
    inlined =
        subst (λ rows. AllZip (IsInlined x.columns) rows (map (λ m. arc_value m) x.inlined.items))
        (owned_seen inlined_row_validity s (λ (q : InlinedRow). q.table_id) r.table_id t.inlined_row (λ q. refl))
        (inlined_opened x.columns (rows_of (inlined_owner s) r.table_id t.inlined_row) (map (λ m. arc_value m) x.inlined.items) h.inlined);
  }

  pub counters_are : (head : TableHead) (x : TableView F) → IsTableView name held s t size part bytes head x → HasCounters t (named_table name x)
  counters_are head x h = record {
    row = h.counters.stats;
    there = ap (λ (d : TableHead). stats_row t d.id) h.head_is ∙ h.counters.there;
    next_row = h.counters.row_is;
    next_field = h.counters.field_is;
  }

  -- all tables that are seen
  pub tables_are : {A : Type 0} (rows : List TableRow) (tables : List (Arc (TableView F) A)) → AreTableViews name held s t size part bytes (heads_in s rows) tables
      → AllZip (IsTableAt (seen_at s t)) (visible_at table_validity s rows) (map (λ x. named_table name (arc_value x)) tables)
  tables_are rows tables all = zipped (filter (is_visible table_validity s) rows) tables all
    where
      zipped : {A : Type 0} (rs : List TableRow) (xs : List (Arc (TableView F) A)) → AllZip (IsTableView name held s t size part bytes) (map head_of rs) (map (λ x. arc_value x) xs)
          → AllZip (IsTableAt (seen_at s t)) (map (λ (r : TableRow). record r { end_snapshot = None }) rs) (map (λ x. named_table name (arc_value x)) xs)
      zipped [] [] all = tt
      zipped [] (x ∷ xs) all = absurd all
      zipped (r ∷ rs) [] all = absurd all
      zipped (r ∷ rs) (x ∷ xs) all = (table_is r (arc_value x) all.0, zipped rs xs all.1)

  pub all_counters : {A : Type 0} (heads : List TableHead) (tables : List (Arc (TableView F) A)) → AreTableViews name held s t size part bytes heads tables
      → AllByRecursion (HasCounters t) (map (λ x. named_table name (arc_value x)) tables)
  all_counters [] [] all = tt
  all_counters [] (x ∷ xs) all = absurd all
  all_counters (h ∷ hs) [] all = absurd all
  all_counters (h ∷ hs) (x ∷ xs) all = (counters_are h (arc_value x) all.0, all_counters hs xs all.1)

  -- ---- what files have besides

  read_stats : {A : Type 0} (columns : List Column) (rows : List DataFileRow) (files : List (Arc (LiveFile F) A)) → AreLive name held s t columns size part bytes rows files
      → AllByRecursion (λ f. TellsFile t columns (arc_value f)) files
  read_stats columns [] [] all = tt
  read_stats columns [] (f ∷ files) all = absurd all
  read_stats columns (r ∷ rows) [] all = absurd all
  read_stats columns (r ∷ rows) (f ∷ files) all = (
    subst (λ n. AreRead columns n (file_stats t (arc_value f).id) (arc_value f).stats) (sym (ap (λ (x : NamedFile). x.rows) all.0.named))
        (subst (λ n. AreRead columns r.record_count (file_stats t n) (arc_value f).stats) (sym (ap (λ (x : NamedFile). x.id) all.0.named)) all.0.stats),
    read_stats columns rows files all.1,
  )

  are_copies : {A : Type 0} (columns : List Column) (rows : List DataFileRow) (files : List (Arc (LiveFile F) A)) → AreLive name held s t columns size part bytes rows files
      → AllByRecursion (λ f. AreCopies name size part bytes held (arc_value f)) files
  are_copies columns [] [] all = tt
  are_copies columns [] (f ∷ files) all = absurd all
  are_copies columns (r ∷ rows) [] all = absurd all
  are_copies columns (r ∷ rows) (f ∷ files) all = (all.0.copies, are_copies columns rows files all.1)

  pub all_stats : {A : Type 0} (heads : List TableHead) (tables : List (Arc (TableView F) A)) → AreTableViews name held s t size part bytes heads tables
      → AllByRecursion (λ x. TellsTable t (arc_value x)) tables
  all_stats [] [] all = tt
  all_stats [] (x ∷ xs) all = absurd all
  all_stats (h ∷ hs) [] all = absurd all
  all_stats (h ∷ hs) (x ∷ xs) all =
      (read_stats (arc_value x).columns (rows_of (data_file_owner s) h.id t.data_file) (arc_value x).files.items all.0.files, all_stats hs xs all.1)

  pub all_copies : {A : Type 0} (heads : List TableHead) (tables : List (Arc (TableView F) A)) → AreTableViews name held s t size part bytes heads tables
      → AllByRecursion (λ x. HasHeld name size part bytes held (arc_value x)) tables
  all_copies [] [] all = tt
  all_copies [] (x ∷ xs) all = absurd all
  all_copies (h ∷ hs) [] all = absurd all
  all_copies (h ∷ hs) (x ∷ xs) all =
      (are_copies (arc_value x).columns (rows_of (data_file_owner s) h.id t.data_file) (arc_value x).files.items all.0.files, all_copies hs xs all.1)

-- schemas are seen without their ends
pub schemas_seen : (s : ℕ) (rows : List SchemaRow) → schemas_in s rows ≡ map schema_of (visible_at schema_validity s rows)
schemas_seen s rows = again (filter (is_visible schema_validity s) rows)
  where
    again : (rs : List SchemaRow) → map schema_of rs ≡ map schema_of (map (λ (r : SchemaRow). record r { end_snapshot = None }) rs)
    again [] = refl
    again (r ∷ rs) = ap (λ l. schema_of r ∷ l) (again rs)
