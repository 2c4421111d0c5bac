-- Old data files, delete files and inlined rows after a commit.
use Rattle.std.proofs.Common.{◌≡◌, ⊎_elim, ℕ, ◌+◌, ◌<◌, ◌≤◌, ◌==◌, Bool, true, false, cond, not, ◌&&◌, List, [], ◌∷◌, filter, map, Option, Some, None, IfSome, option_map, refl, sym, ap, ◌∙◌, subst, arith, append-nil}
use Rattle.std.specs.Prelude.{is_none, is_some, nat_le}
use Rattle.std.specs.List.{AllByRecursion, AllZip}
use Rattle.std.proofs.lemmas.Bool.{lt-ltb, ne_eqb, not-true}
use Rattle.std.proofs.lemmas.Bool.Decides.{nat_tests}
use Rattle.lake_types.specs.declared.sheet.Sheet.{Sheet}
use Rattle.lake_types.specs.declared.sheet.SheetColumn.{SheetColumn}
use Rattle.lake_model.proofs.TableLemmas.{all-joined}
use Rattle.lake_model.specs.Creations.{creations}
use Rattle.lake_model.specs.Kinds.{drops_table}
use Rattle.lake_model.specs.declared.change.Ref.TheVariants as ref
use Rattle.lake_rebase.proofs.MemberLemmas.{In, all_by, all_in, in_kept, kept_in, map_in}
use Rattle.sheet_rows.specs.Live.{deleted_in}
use Rattle.sheet_rows.specs.Sheets.{is_data}
use Rattle.cat_tables.proofs.KeyLemmas.{key_eq}
use Rattle.cat_tables.proofs.SightLemmas.{sees-now}
use Rattle.cat_tables.specs.Table.{put_all, row_of}
use Rattle.cat_tables.specs.Validity.{IsBy, all_ended, ended_at, ends_at, is_before, is_visible, visible_at}
use Rattle.cat_rows.proofs.EarlierLemmas.{seen_before}
use Rattle.cat_rows.proofs.PartLemmas.{applied-parts}
use Rattle.cat_rows.specs.Keys.{data_file_key, delete_file_key, file_column_stats_key, inlined_row_key}
use Rattle.cat_rows.specs.Parts.{batch_of}
use Rattle.cat_rows.specs.Seen.{Seen, seen_at}
use Rattle.cat_rows.specs.Tables.{Tables}
use Rattle.cat_rows.specs.Validities.{data_file_laws, data_file_validity, delete_file_validity, inlined_row_validity}
use Rattle.cat_rows.specs.declared.files.DataFileRow.{DataFileRow}
use Rattle.cat_rows.specs.declared.files.DeleteFileRow.{DeleteFileRow}
use Rattle.cat_rows.specs.declared.files.FileColumnStatsRow.{FileColumnStatsRow}
use Rattle.cat_rows.specs.declared.files.TableStatsRow.{TableStatsRow}
use Rattle.cat_rows.specs.declared.history.SnapshotRow.{SnapshotRow}
use Rattle.cat_rows.specs.declared.inlined.InlinedRow.{InlinedRow}
use Rattle.cat_rules.proofs.FirstLemmas.{all_like}
use Rattle.commit_rules.proofs.HistoryLemmas.{first_number}
use Rattle.commit_rules.proofs.TableLemmas.{FindsNew, all-ended, filter-put_all, over_end, row_of-ended, row_of-put_all}
use Rattle.cat_texts.specs.Spelled.{IsColumnOf}
use Rattle.cat_texts.specs.Written as written
use Rattle.cat_view.specs.Sight.{column_rows, stats_row}
use Rattle.cat_view.specs.Staged.{NamedStagedFile, staged_for}
use Rattle.cat_stands.specs.FileFacts.{CanBeLaid, Counts, HasCellBelow, HasFieldBelow, HasFields, IsBelowFields, IsDataFile, IsDeleteFile, IsThere, file_stats}
use Rattle.rebase.specs.Parts.{FreshFile, file_rows_from, fresh_files, stats_rows_from}
use Rattle.commit_laws.proofs.StandCaseLemmas.{Case, after, deletes-low, files-low, inlined-low, n, newest-in, next, next_file, now, p, sees}
use Rattle.commit_laws.proofs.CoreLemmas.{low, past, snapshots}
use Rattle.commit_laws.proofs.StandListLemmas.{all_both}
use Rattle.commit_laws.proofs.StatsLemmas.{gained, stats-old}
use Rattle.commit_laws.proofs.VersionLemmas.{same-columns}

-- ---- new ids are past the old ones

pub ids-from : (t : Tables) (begin from : ℕ) (new : List _) (least id : ℕ) (xs : List FreshFile) → least ≤ id → AllByRecursion (λ (f : DataFileRow). least ≤ f.data_file_id) (file_rows_from t begin from new id xs)
ids-from t begin from new least id [] h = tt
ids-from t begin from new least id (y ∷ xs) h = (h, ids-from t begin from new least (id + 1) xs (omega (arith, h)))

stats_of-file : (least id : ℕ) (ss : List _) → least ≤ id → AllByRecursion (λ (r : FileColumnStatsRow). least ≤ r.data_file_id) (map (written.stats_row id) ss)
stats_of-file least id [] h = tt
stats_of-file least id (s ∷ ss) h = (h, stats_of-file least id ss h)

pub stats-from : (least id : ℕ) (xs : List FreshFile) → least ≤ id → AllByRecursion (λ (r : FileColumnStatsRow). least ≤ r.data_file_id) (stats_rows_from id xs)
stats-from least id [] h = tt
stats-from least id (y ∷ xs) h = all-joined (λ (r : FileColumnStatsRow). least ≤ r.data_file_id) (map (written.stats_row id) y.file.stats) (stats_rows_from (id + 1) xs) (stats_of-file least id y.file.stats h) (stats-from least (id + 1) xs (omega (arith, h)))

-- an end past s is not seen at s
seen-still : (s m : ℕ) (f : DataFileRow) → s < m → is_visible data_file_validity s (ended_at data_file_validity m f) ≡ is_visible data_file_validity s f
seen-still s m f h = go f.end_snapshot refl
  where
    go : (e : Option ℕ) → f.end_snapshot ≡ e → is_visible data_file_validity s (cond (is_none e) (record f { end_snapshot = Some m }) f) ≡ is_visible data_file_validity s f
    go None e = ap (λ b. nat_le f.begin_snapshot s && b) (lt-ltb s m h ∙ ap (is_before s) (sym e))
    go (Some k) e = refl

below-gained : (k : ℕ) (o : Option NamedStagedFile) (s : Option TableStatsRow) → IfSome s (λ (r : TableStatsRow). k < r.next_field_id) → IfSome (option_map (gained o) s) (λ (r : TableStatsRow). k < r.next_field_id)
below-gained k o None h = tt
below-gained k None (Some r) h = h
below-gained k (Some f) (Some r) h = h

record IsMapped {X Y : Type 0} (f : X → Y) (o : Option X) (y : Y) : Type 0 where
  of : X
  there : o ≡ Some of
  is : f of ≡ y

mapped : {X Y : Type 0} (f : X → Y) (o : Option X) (y : Y) → option_map f o ≡ Some y → IsMapped f o y
mapped f None y e = absurd cc
mapped f (Some x) y e = record { of = x; there = refl; is = cc }

-- at the new snapshot a row that began by the one before was seen there too
seen-earlier : (k : ℕ) (f : DataFileRow) → f.begin_snapshot ≤ k → is_visible data_file_validity (k + 1) f ≡ true → is_visible data_file_validity k f ≡ true
seen-earlier k f low visible = go f.end_snapshot refl
  where
    go : (e : Option ℕ) → f.end_snapshot ≡ e → is_visible data_file_validity k f ≡ true
    go None e = rw e (search (arith, nat_tests))
    go (Some m) e = let v : (nat_le f.begin_snapshot (k + 1) && is_before (k + 1) (Some m)) ≡ true = ap (λ o. nat_le f.begin_snapshot (k + 1) && is_before (k + 1) o) (sym e) ∙ visible in rw e (grind (arith, nat_tests))

module _ (x : Case) where
  abbrev m : ℕ
  m = (p x).snapshot.snapshot_id

  -- field ids stay below the counters of old tables
  pub fields-old : (table k : ℕ) → table < next x → IsBelowFields x.t table k → IsBelowFields (after x) table k
  fields-old table k under h =
      subst (λ o. IfSome o (λ (r : TableStatsRow). k < r.next_field_id)) (sym (stats-old x table under)) (below-gained k (staged_for x.staged (ref.Old table)).fresh (stats_row x.t table) h)

  pub still-there : (name : List ℕ) (size : ℕ) (sheet : Sheet) → IsThere x.files name size sheet → IsThere x.more name size sheet
  still-there name size sheet h = record { filed = h.filed; there = x.is.extends name (ap is_some h.there) ∙ h.there; size_is = h.size_is; sheet_is = h.sheet_is }

  -- ---- inlined rows

  pub inlined-after : AllByRecursion (HasFields (after x)) (after x).inlined_row
  inlined-after =
      subst (AllByRecursion (HasFields (after x))) (sym (ap (λ (u : Tables). u.inlined_row) (applied-parts (p x) x.t)))
      (all_like (λ (r : InlinedRow). (r.table_id < next x) × HasFields x.t r) (HasFields (after x)) (λ r h cells spelled. all_like (HasCellBelow x.t r.table_id) (HasCellBelow (after x) r.table_id) (λ c k. fields-old r.table_id c.0 h.0 k) cells (h.1 cells spelled)) _
      (all-ended inlined_row_key inlined_row_validity (λ (r : InlinedRow). (r.table_id < next x) × HasFields x.t r) m (over_end inlined_row_key inlined_row_validity _ m (λ e r h. h)) (p x).ended_inlined_row x.t.inlined_row
      (all_both (λ (r : InlinedRow). r.table_id < next x) (HasFields x.t) x.t.inlined_row (inlined-low x) x.sound.inlined)))

  -- ---- delete files

  -- the data file of an old id is the one that was there, up to its end
  data-still : (id : ℕ) → id < next_file x → option_map (data_file_validity.with_end None) (row_of data_file_key (id ∷ []) (after x).data_file) ≡ option_map (data_file_validity.with_end None) (row_of data_file_key (id ∷ []) x.t.data_file)
  data-still id under =
      ap (λ (u : Tables). option_map (data_file_validity.with_end None) (row_of data_file_key (id ∷ []) u.data_file)) (applied-parts (p x) x.t)
      ∙ ⊎_elim
      (λ (k : FindsNew data_file_key (id ∷ []) (p x).data_file (row_of data_file_key (id ∷ []) (put_all data_file_key (p x).data_file (all_ended data_file_validity data_file_key (ends_at data_file_key m (p x).ended_data_file) x.t.data_file)))).
      let same : k.row.data_file_id ≡ id = first_number (key_eq (data_file_key k.row) (id ∷ []) k.has) in
      let past = all_in (λ (r : DataFileRow). next_file x ≤ r.data_file_id) k.row (p x).data_file (ids-from x.t (n x + 1) (next x) (creations 0 0 x.own) (next_file x) (next_file x) (fresh_files x.staged) (omega arith)) k.there in
      absurd (omega (arith, same, past, under)))
      (λ k. ap (option_map (data_file_validity.with_end None)) k.is ∙ row_of-ended data_file_key data_file_validity data_file_laws (id ∷ []) m (p x).ended_data_file x.t.data_file)
      (row_of-put_all data_file_key (id ∷ []) (p x).data_file (all_ended data_file_validity data_file_key (ends_at data_file_key m (p x).ended_data_file) x.t.data_file))

  delete-one : (d : DeleteFileRow) → d.data_file_id < next_file x → IsDeleteFile x.t x.files d → IsDeleteFile (after x) x.more d
  delete-one d under is =
      let found = mapped (data_file_validity.with_end None) (row_of data_file_key (d.data_file_id ∷ []) (after x).data_file) (data_file_validity.with_end None is.data_file)
      (data-still d.data_file_id under ∙ ap (option_map (data_file_validity.with_end None)) is.of_file) in
      record {
        sheet = is.sheet;
        there = still-there d.path d.file_size_bytes is.sheet is.there;
        data_file = found.of;
        of_file = found.there;
        places = is.places;
        lists = subst (λ (q : DataFileRow). deleted_in (record { path = q.path; rows = q.record_count; count = d.delete_count }) is.sheet ≡ Some is.places) (sym found.is) is.lists;
      }

  pub deletes-after : AllByRecursion (IsDeleteFile (after x) x.more) (after x).delete_file
  deletes-after =
      subst (AllByRecursion (IsDeleteFile (after x) x.more)) (sym (ap (λ (u : Tables). u.delete_file) (applied-parts (p x) x.t)))
      (all-ended delete_file_key delete_file_validity (IsDeleteFile (after x) x.more) m
      (over_end delete_file_key delete_file_validity (IsDeleteFile (after x) x.more) m (λ e d k. record { sheet = k.sheet; there = k.there; data_file = k.data_file; of_file = k.of_file; places = k.places; lists = k.lists })) (p x).ended_delete_file x.t.delete_file
      (all_like (λ (d : DeleteFileRow). ((d.data_file_id < next_file x) × (d.table_id < next x)) × IsDeleteFile x.t x.files d) (IsDeleteFile (after x) x.more) (λ d h. delete-one d h.0.0 h.1) x.t.delete_file
      (all_both (λ (d : DeleteFileRow). (d.data_file_id < next_file x) × (d.table_id < next x)) (IsDeleteFile x.t x.files) x.t.delete_file (deletes-low x) x.sound.delete_files)))

  -- ---- data files

  -- an end at the new snapshot leaves what is known of the file
  ended-file : (f : DataFileRow) → IsDataFile x.t x.files f → IsDataFile x.t x.files (ended_at data_file_validity m f)
  ended-file f is =
      elim (is_none f.end_snapshot) as (λ b. ((s : ℕ) → s ≤ n x → is_visible data_file_validity s (cond b (record f { end_snapshot = Some m }) f) ≡ is_visible data_file_validity s f) → IsDataFile x.t x.files (cond b (record f { end_snapshot = Some m }) f)) [
        | true ↦ λ same. record { sheet = is.sheet; there = is.there; rows = is.rows; weight = is.weight; laid = laid_again same; has_ids = is.has_ids; counts = is.counts; fields = is.fields }
        | false ↦ λ same. is
      ] (λ s old. seen-still s m f (omega (arith, old)))
    where
      laid_again : ((s : ℕ) → s ≤ n x → is_visible data_file_validity s (record f { end_snapshot = Some m }) ≡ is_visible data_file_validity s f) → AllByRecursion (CanBeLaid x.t (record f { end_snapshot = Some m }) is.sheet) x.t.snapshot
      laid_again same =
          all_like (λ (r : SnapshotRow). (r.snapshot_id ≤ n x) × CanBeLaid x.t f is.sheet r) (CanBeLaid x.t (record f { end_snapshot = Some m }) is.sheet)
          (λ r h visible columns spelled. h.1 (sym (same r.snapshot_id h.0) ∙ visible) columns spelled) x.t.snapshot (all_both (λ (r : SnapshotRow). r.snapshot_id ≤ n x) (CanBeLaid x.t f is.sheet) x.t.snapshot (low x) is.laid)

  abbrev old_files : List DataFileRow
  old_files = all_ended data_file_validity data_file_key (ends_at data_file_key m (p x).ended_data_file) x.t.data_file

  -- a file that the new snapshot sees is of a table that stays
  stays-seen : (f : DataFileRow) → In f old_files → is_visible data_file_validity (n x + 1) f ≡ true → drops_table x.own (ref.Old f.table_id) ≡ false
  stays-seen f there visible =
      let keeps : DataFileRow → Bool = λ r. not (drops_table x.own (ref.Old r.table_id)) in
      let sees-old : visible_at data_file_validity (n x + 1) old_files ≡ filter keeps (visible_at data_file_validity (n x) x.t.data_file) =
      ap (λ es. visible_at data_file_validity (n x + 1) (all_ended data_file_validity data_file_key (ends_at data_file_key m es) x.t.data_file)) x.is.parts.data_file.ends
      ∙ sees-now data_file_key data_file_validity data_file_laws (n x) (λ (r : DataFileRow). drops_table x.own (ref.Old r.table_id)) [] x.t.data_file x.is.parts.settled.data_file.rises x.is.parts.settled.data_file.by tt tt
      ∙ append-nil (filter keeps (visible_at data_file_validity (n x) x.t.data_file)) in
      let seen_row : In (record f { end_snapshot = None }) (visible_at data_file_validity (n x + 1) old_files) =
      map_in (data_file_validity.with_end None) f (filter (is_visible data_file_validity (n x + 1)) old_files) (kept_in (is_visible data_file_validity (n x + 1)) f old_files there visible) in
      not-true (drops_table x.own (ref.Old f.table_id)) (in_kept keeps (record f { end_snapshot = None }) (visible_at data_file_validity (n x) x.t.data_file) (subst (In (record f { end_snapshot = None })) sees-old seen_row)).1

  abbrev Known : DataFileRow → Type 0
  Known f = (f.begin_snapshot ≤ n x) × (((f.data_file_id < next_file x) × (f.table_id < next x)) × IsDataFile x.t x.files f)

  file-after : (f : DataFileRow) → In f old_files → Known f → IsDataFile (after x) x.more f
  file-after f there (begun, (ids, is)) = record {
    sheet = is.sheet;
    there = still-there f.path f.file_size_bytes is.sheet is.there;
    rows = is.rows;
    weight = is.weight;
    laid = subst (AllByRecursion (CanBeLaid (after x) f is.sheet)) (sym (snapshots x))
        (all-joined (CanBeLaid (after x) f is.sheet) x.t.snapshot ((p x).snapshot ∷ [])
        (all_like (λ (r : SnapshotRow). (r.snapshot_id ≤ n x) × CanBeLaid x.t f is.sheet r) (CanBeLaid (after x) f is.sheet) older x.t.snapshot (all_both (λ (r : SnapshotRow). r.snapshot_id ≤ n x) (CanBeLaid x.t f is.sheet) x.t.snapshot (low x) is.laid))
        (newly, tt));
    has_ids = is.has_ids;
    counts = subst (AllZip Counts (filter is_data is.sheet.columns)) (sym stats) is.counts;
    fields = all_like (HasFieldBelow x.t f.table_id) (HasFieldBelow (after x) f.table_id) below-after (filter is_data is.sheet.columns) is.fields;
  }
    where
      older : (r : SnapshotRow) → (r.snapshot_id ≤ n x) × CanBeLaid x.t f is.sheet r → CanBeLaid (after x) f is.sheet r
      older r h visible columns spelled =
          h.1 visible columns (subst (λ (seen : Seen). AllZip IsColumnOf (column_rows f.table_id seen.column) columns) (seen_before (batch_of (p x)) x.t r.snapshot_id (past x r.snapshot_id h.0)) spelled)

      newly : CanBeLaid (after x) f is.sheet (p x).snapshot
      newly visible columns spelled =
          let stays = stays-seen f there visible in
          let rows : column_rows f.table_id (seen_at (n x + 1) (after x)).column ≡ column_rows f.table_id (now x).column =
          ap (λ (seen : Seen). column_rows f.table_id seen.column) (sees x) ∙ same-columns x f.table_id stays ids.1 in
          all_in (CanBeLaid x.t f is.sheet) x.sound.newest x.t.snapshot is.laid (newest-in x) (seen-earlier (n x) f begun visible) columns (subst (λ l. AllZip IsColumnOf l columns) rows spelled)

      stats : file_stats (after x) f.data_file_id ≡ file_stats x.t f.data_file_id
      stats =
          ap (λ (u : Tables). file_stats u f.data_file_id) (applied-parts (p x) x.t)
          ∙ filter-put_all file_column_stats_key (λ (r : FileColumnStatsRow). r.data_file_id == f.data_file_id) (p x).file_column_stats x.t.file_column_stats
          (all_like (λ (r : FileColumnStatsRow). next_file x ≤ r.data_file_id) (λ (r : FileColumnStatsRow). (r.data_file_id == f.data_file_id) ≡ false) (λ r k. ne_eqb r.data_file_id f.data_file_id (λ same. absurd (let under = ids.0 in omega (arith, k, under, same)))) (p x).file_column_stats
          (stats-from (next_file x) (next_file x) (fresh_files x.staged) (omega arith)))

      below-some : (o : Option ℕ) → IfSome o (IsBelowFields x.t f.table_id) → IfSome o (IsBelowFields (after x) f.table_id)
      below-some None h = tt
      below-some (Some k) h = fields-old f.table_id k ids.1 h

      below-after : (c : SheetColumn) → HasFieldBelow x.t f.table_id c → HasFieldBelow (after x) f.table_id c
      below-after c h = below-some c.field h

  pub old-files-after : AllByRecursion (IsDataFile (after x) x.more) (all_ended data_file_validity data_file_key (ends_at data_file_key (p x).snapshot.snapshot_id (p x).ended_data_file) x.t.data_file)
  old-files-after =
      let known = all-ended data_file_key data_file_validity Known m keep (p x).ended_data_file x.t.data_file
      (all_both (λ (f : DataFileRow). f.begin_snapshot ≤ n x) _ x.t.data_file (all_like (IsBy data_file_validity (n x)) (λ (f : DataFileRow). f.begin_snapshot ≤ n x) (λ f k. k.0) x.t.data_file x.is.parts.settled.data_file.by)
      (all_both (λ (f : DataFileRow). (f.data_file_id < next_file x) × (f.table_id < next x)) (IsDataFile x.t x.files) x.t.data_file (files-low x) x.sound.data_files)) in
      all_by (IsDataFile (after x) x.more) old_files (λ f there. file-after f there (all_in Known f old_files known there))
    where
      keep : (f : DataFileRow) → Known f → Known (ended_at data_file_validity m f)
      keep f k = (
        elim (is_none f.end_snapshot) as (λ b. (cond b (record f { end_snapshot = Some m }) f).begin_snapshot ≤ n x) [ true ↦ k.0 | false ↦ k.0 ],
        (elim (is_none f.end_snapshot) as (λ b. ((cond b (record f { end_snapshot = Some m }) f).data_file_id < next_file x) × ((cond b (record f { end_snapshot = Some m }) f).table_id < next x)) [ true ↦ k.1.0 | false ↦ k.1.0 ], ended-file f k.1.1),
      )
