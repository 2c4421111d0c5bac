-- Over more files the files of a content are as they were, and so are the states of its versions.
use Rattle.std.proofs.Common.{◌≡◌, ◌==◌, ℕ, Bool, true, false, cond, List, [], ◌∷◌, filter, Some, None, IfSome, option_map, sym, ap, ◌∙◌, subst}
use Rattle.std.specs.Prelude.{is_some}
use Rattle.std.specs.List.{AllByRecursion, AllZip}
use Rattle.lake_types.specs.declared.sheet.Sheet.{Sheet}
use Rattle.lake_model.proofs.TableLemmas.{all-mapped}
use Rattle.lake_model.specs.Core.{Version}
use Rattle.lake_model.specs.State.{State}
use Rattle.cat_rows.specs.Seen.{Seen, seen_at}
use Rattle.cat_rows.specs.Tables.{Tables}
use Rattle.cat_rows.specs.declared.files.DataFileRow.{DataFileRow}
use Rattle.cat_rows.specs.declared.files.DeleteFileRow.{DeleteFileRow}
use Rattle.cat_rows.specs.declared.history.SnapshotRow.{SnapshotRow}
use Rattle.cat_rows.specs.declared.schemas.TableRow.{TableRow}
use Rattle.cat_rows.specs.Validities.{data_file_validity, delete_file_validity}
use Rattle.cat_tables.specs.Validity.{Validity, is_visible, visible_at}
use Rattle.cat_view.proofs.MoreLemmas.{HasSame, HasSameFiles, IsSame, same_tables}
use Rattle.cat_view.specs.Files.{Extends, Filed, Files}
use Rattle.cat_view.specs.Named.{NamedDeletes, NamedFile, NamedTable, state_of}
use Rattle.cat_view.specs.Sight.{IsTableAt, data_rows, delete_row, deletes_of, file_of}
use Rattle.cat_stands.specs.FileFacts.{IsDataFile, IsDeleteFile, IsThere}
use Rattle.cat_stands.specs.Laws.{MoreFilesStand}
use Rattle.cat_stands.specs.Stands.{IsPlain, uncounted}

-- what holds of each row holds of those that pass a test, and of those that a snapshot sees where ends don't matter
pub all-passing : {R : Type 0} (P : R → Type 0) (p : R → Bool) (rows : List R) → AllByRecursion P rows → AllByRecursion P (filter p rows)
all-passing P p [] h = tt
all-passing P p (r ∷ rows) h = go (p r) (all-passing P p rows h.1)
  where
    go : (b : Bool) → AllByRecursion P (filter p rows) → AllByRecursion P (cond b (r ∷ filter p rows) (filter p rows))
    go true all = (h.0, all)
    go false all = all

pub all-seen : {R : Type 0} (v : Validity R) (P : R → Type 0) (s : ℕ) (rows : List R) → ((r : R) → P r → P (v.with_end None r)) → AllByRecursion P rows → AllByRecursion P (visible_at v s rows)
all-seen v P s rows plain h = all-mapped P P (v.with_end None) plain (filter (is_visible v s) rows) (all-passing P (is_visible v s) rows h)

module _ (files more : Files) (extends : Extends files more) where
  same : (name : List ℕ) (filed : Filed) → files name ≡ Some filed → IsSame files more name
  same name filed there = extends name (ap is_some there)

  still_there : (name : List ℕ) (size : ℕ) (sheet : Sheet) → IsThere files name size sheet → IsThere more name size sheet
  still_there name size sheet h = record { filed = h.filed; there = same name h.filed h.there ∙ h.there; size_is = h.size_is; sheet_is = h.sheet_is }

  -- ---- names of a version's files

  abbrev pub HasSameData : DataFileRow → Type 0
  HasSameData f = IsSame files more f.path

  abbrev pub HasSameDelete : DeleteFileRow → Type 0
  HasSameDelete d = IsSame files more d.path

  same_delete : (id : ℕ) (ds : List DeleteFileRow) → AllByRecursion HasSameDelete ds → IfSome (option_map deletes_of (delete_row ds id)) (λ (d : NamedDeletes). IsSame files more d.name)
  same_delete id [] h = tt
  same_delete id (d ∷ ds) h = go (d.data_file_id == id) (same_delete id ds h.1)
    where
      go : (b : Bool) → IfSome (option_map deletes_of (delete_row ds id)) (λ (x : NamedDeletes). IsSame files more x.name)
          → IfSome (option_map deletes_of (cond b (Some d) (delete_row ds id))) (λ (x : NamedDeletes). IsSame files more x.name)
      go true rest = h.0
      go false rest = rest

  module _ (seen : Seen) (named : AllByRecursion HasSameData seen.data_file) (deletes : AllByRecursion HasSameDelete seen.delete_file) where
    table_files : (r : TableRow) (x : NamedTable) → IsTableAt seen r x → HasSameFiles files more x
    table_files r x h =
        let rows = data_rows r.table_id seen.data_file in
        let all = all-passing HasSameData (λ (f : DataFileRow). f.table_id == r.table_id) seen.data_file named in
        let files_of = all-mapped HasSameData (HasSame files more) (file_of seen.delete_file) (λ (f : DataFileRow) e. (e, same_delete f.data_file_id seen.delete_file deletes)) rows all in
        subst (λ (fs : List NamedFile). AllByRecursion (HasSame files more) fs) (sym h.files) files_of

    pub all_files : (rs : List TableRow) (xs : List NamedTable) → AllZip (IsTableAt seen) rs xs → AllByRecursion (HasSameFiles files more) xs
    all_files [] [] h = tt
    all_files [] (x ∷ xs) h = absurd h
    all_files (r ∷ rs) [] h = absurd h
    all_files (r ∷ rs) (x ∷ xs) h = (table_files r x h.0, all_files rs xs h.1)

    still_plain : (state : State) → IsPlain files seen state → IsPlain more seen state
    still_plain state p =
        let states : state_of more 0 p.version ≡ state_of files 0 p.version =
        ap (λ tables. record (state_of files 0 p.version) { tables = tables }) (same_tables files more p.version.tables (all_files seen.table p.version.tables p.sees.tables)) in
        record { version = p.version; sees = p.sees; same = p.same ∙ ap uncounted (sym states) }

  -- ---- a content

  pub data_names : (t : Tables) (fs : List DataFileRow) → AllByRecursion (IsDataFile t files) fs → AllByRecursion HasSameData fs
  data_names t [] h = tt
  data_names t (f ∷ fs) h = (same f.path h.0.there.filed h.0.there.there, data_names t fs h.1)

  pub delete_names : (t : Tables) (ds : List DeleteFileRow) → AllByRecursion (IsDeleteFile t files) ds → AllByRecursion HasSameDelete ds
  delete_names t [] h = tt
  delete_names t (d ∷ ds) h = (same d.path h.0.there.filed h.0.there.there, delete_names t ds h.1)

  data_there : (t : Tables) (fs : List DataFileRow) → AllByRecursion (IsDataFile t files) fs → AllByRecursion (IsDataFile t more) fs
  data_there t [] h = tt
  data_there t (f ∷ fs) h = (
    record {
      sheet = h.0.sheet;
      there = still_there f.path f.file_size_bytes h.0.sheet h.0.there;
      rows = h.0.rows;
      weight = h.0.weight;
      laid = h.0.laid;
      has_ids = h.0.has_ids;
      counts = h.0.counts;
      fields = h.0.fields;
    },
    data_there t fs h.1,
  )

  deletes_there : (t : Tables) (ds : List DeleteFileRow) → AllByRecursion (IsDeleteFile t files) ds → AllByRecursion (IsDeleteFile t more) ds
  deletes_there t [] h = tt
  deletes_there t (d ∷ ds) h = (
    record {
      sheet = h.0.sheet;
      there = still_there d.path d.file_size_bytes h.0.sheet h.0.there;
      data_file = h.0.data_file;
      of_file = h.0.of_file;
      places = h.0.places;
      lists = h.0.lists;
    },
    deletes_there t ds h.1,
  )

  module _ (t : Tables) (named : AllByRecursion HasSameData t.data_file) (deletes : AllByRecursion HasSameDelete t.delete_file) where
    all_plain : (rows : List SnapshotRow) (versions : List Version) → AllZip (λ (r : SnapshotRow) (v : Version). IsPlain files (seen_at r.snapshot_id t) v.state) rows versions
        → AllZip (λ (r : SnapshotRow) (v : Version). IsPlain more (seen_at r.snapshot_id t) v.state) rows versions
    all_plain [] [] h = tt
    all_plain [] (v ∷ vs) h = absurd h
    all_plain (r ∷ rs) [] h = absurd h
    all_plain (r ∷ rs) (v ∷ vs) h = (
      still_plain (seen_at r.snapshot_id t)
          (all-seen data_file_validity HasSameData r.snapshot_id t.data_file (λ f e. e) named)
          (all-seen delete_file_validity HasSameDelete r.snapshot_id t.delete_file (λ d e. e) deletes)
          v.state h.0,
      all_plain rs vs h.1,
    )

pub more_files-stand : MoreFilesStand
more_files-stand t files more first versions extends h = record {
  rules = h.rules;
  newest = h.newest;
  before = h.before;
  snapshots = h.snapshots;
  older = h.older;
  head = h.head;
  versions_are = h.versions_are;
  numbers = h.numbers;
  texts = h.texts;
  plain = all_plain files more extends t (data_names files more extends t t.data_file h.data_files) (delete_names files more extends t t.delete_file h.delete_files) t.snapshot versions h.plain;
  counters = h.counters;
  counted = h.counted;
  ids = h.ids;
  kinds = h.kinds;
  data_files = data_there files more extends t t.data_file h.data_files;
  delete_files = deletes_there files more extends t t.delete_file h.delete_files;
  inlined = h.inlined;
}
