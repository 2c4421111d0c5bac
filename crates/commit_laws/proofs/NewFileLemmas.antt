-- New data files after a commit.
use Rattle.std.proofs.Common.{◌≡◌, inl, inr, ℕ, ◌+◌, ◌<◌, ◌≤◌, ◌==◌, Bool, true, false, true≢false, List, [], ◌∷◌, ◌++◌, filter, map, Some, None, IfSome, is_lt, refl, sym, ap, ap₂, ◌∙◌, subst, arith, append-nil}
use Rattle.std.specs.Prelude.{is_some}
use Rattle.std.specs.List.{AllByRecursion, AllZip}
use Rattle.std.proofs.lemmas.Bool.{eq-eqb, ne_eqb}
use Rattle.std.proofs.lemmas.List.Elements.{filter-append}
use Rattle.std.proofs.lemmas.Option.{same_Some}
use Rattle.lake_types.specs.Cells.{laid_cells}
use Rattle.lake_types.specs.declared.sheet.SheetColumn.{SheetColumn}
use Rattle.lake_types.specs.declared.value.Column.{Column}
use Rattle.lake_model.proofs.TableLemmas.{all-joined}
use Rattle.lake_model.specs.Apply.{Cells, Draft, left, settled_table, table_id}
use Rattle.lake_model.specs.Creations.{creations}
use Rattle.lake_model.specs.Growth.{made_tables, rows_for}
use Rattle.lake_model.specs.Laws.{HasFieldIds, RiseBelow, fields_of}
use Rattle.lake_model.specs.State.{Table}
use Rattle.lake_model.specs.declared.change.Ref.TheVariants as ref
use Rattle.lake_model.specs.Kinds.{drops_table}
use Rattle.lake_rebase.proofs.MemberLemmas.{In, all_by, all_in}
use Rattle.field_map.specs.Laid.{first_fault}
use Rattle.sheet_rows.specs.Sheets.{is_data}
use Rattle.col_stats.specs.declared.stats.ColStats.{ColStats}
use Rattle.cat_tables.proofs.FrameLemmas.{unseen_later}
use Rattle.cat_tables.proofs.SightLemmas.{put_all-last}
use Rattle.cat_tables.specs.Table.{ArePast, IsAscending, key_cmp}
use Rattle.cat_rows.proofs.PartLemmas.{applied-parts}
use Rattle.cat_rows.specs.Keys.{data_file_key, file_column_stats_key}
use Rattle.cat_rows.specs.Seen.{Seen}
use Rattle.cat_rows.specs.Tables.{Tables}
use Rattle.cat_rows.specs.Validities.{data_file_validity}
use Rattle.cat_rows.specs.declared.files.FileColumnStatsRow.{FileColumnStatsRow}
use Rattle.cat_rows.specs.declared.files.TableStatsRow.{TableStatsRow}
use Rattle.cat_rows.specs.declared.history.SnapshotRow.{SnapshotRow}
use Rattle.cat_rows.specs.declared.schemas.ColumnRow.{ColumnRow}
use Rattle.cat_rules.proofs.FirstLemmas.{all_like}
use Rattle.commit_rules.proofs.TableLemmas.{all-put_all}
use Rattle.cat_texts.proofs.RowLemmas.{one_column}
use Rattle.cat_texts.specs.Spelled.{IsColumnOf}
use Rattle.cat_texts.specs.Written as written
use Rattle.cat_view.specs.Sight.{IsTableAt, column_rows, stats_row}
use Rattle.cat_view.specs.Staged as staging
use Rattle.cat_view.specs.Staged.{HasStats, HoldsCells, MayHoldCells, staged_for}
use Rattle.cat_stands.specs.FileFacts.{CanBeLaid, Counts, IsBelowFields, IsDataFile, file_stats}
use Rattle.rebase.specs.Parts.{FreshFile, file_row, file_rows_from, fresh_files, stats_rows_from}
use Rattle.commit_laws.proofs.ListLemmas.{lt_first, lt_second, past_from}
use Rattle.commit_laws.specs.StandLaws.{FilesGoOn}
use Rattle.commit_laws.proofs.StandCaseLemmas.{Case, after, column_stats-low, head, head-ids, n, next, next_file, now, p, seen_then, sees}
use Rattle.commit_laws.proofs.CoreLemmas.{low, snapshots}
use Rattle.commit_laws.proofs.StandCounterLemmas.{counters-made, counters-old, head-low, named-of}
use Rattle.commit_laws.proofs.FaultLemmas.{all-data, no-faults}
use Rattle.commit_laws.proofs.HeldLemmas.{made-has}
use Rattle.commit_laws.proofs.IdLemmas.{made-fields}
use Rattle.commit_laws.proofs.StandListLemmas.{all_unmapped, filter-all, filter-none}
use Rattle.commit_laws.proofs.OldFileLemmas.{deletes-after, inlined-after, old-files-after, stats-from}
use Rattle.commit_laws.proofs.PlainLemmas.{v, v-sees, zip_left}
use Rattle.commit_laws.proofs.TargetLemmas.{IsTarget}
use Rattle.commit_laws.proofs.VersionLemmas.{fresh-for, new-table, same-columns, target}

-- ---- keys that rise

asc_append : {X : Type 0} (R : X → X → Type 0) (xs ys : List X) → IsAscending R xs → IsAscending R ys → AllByRecursion (λ x. AllByRecursion (R x) ys) xs → IsAscending R (xs ++ ys)
asc_append R [] ys a b h = b
asc_append R (x ∷ xs) ys a b h = (all-joined (R x) xs ys a.0 h.0, asc_append R xs ys a.1 b h.1)

abbrev Sooner : FileColumnStatsRow → FileColumnStatsRow → Type 0
Sooner a b = is_lt (key_cmp (file_column_stats_key a) (file_column_stats_key b)) ≡ true

abbrev field_of : ColStats → ℕ
field_of s = s.field

own-id : (id : ℕ) (ss : List ColStats) → AllByRecursion (λ (r : FileColumnStatsRow). r.data_file_id ≡ id) (map (written.stats_row id) ss)
own-id id [] = tt
own-id id (s ∷ ss) = (refl, own-id id ss)

own-rises : (id limit : ℕ) (ss : List ColStats) → RiseBelow limit (map field_of ss) → IsAscending Sooner (map (written.stats_row id) ss)
own-rises id limit [] h = tt
own-rises id limit (s ∷ ss) h = (go ss h.1, own-rises id limit ss h.2)
  where
    go : (us : List ColStats) → AllByRecursion (λ k. s.field < k) (map field_of us) → AllByRecursion (Sooner (written.stats_row id s)) (map (written.stats_row id) us)
    go [] k = tt
    go (u ∷ us) k = (lt_second id s.field u.field [] [] k.0, go us k.1)

-- the fields of a file's statistics rise
pub record HaveRisingFields (ss : List ColStats) : Type 0 where
  pub limit : ℕ
  pub rise : RiseBelow limit (map field_of ss)

stats-rise : (id : ℕ) (xs : List FreshFile) → AllByRecursion (λ (y : FreshFile). HaveRisingFields y.file.stats) xs → IsAscending Sooner (stats_rows_from id xs)
stats-rise id [] h = tt
stats-rise id (y ∷ xs) h =
    asc_append Sooner (map (written.stats_row id) y.file.stats) (stats_rows_from (id + 1) xs) (own-rises id h.0.limit y.file.stats h.0.rise) (stats-rise (id + 1) xs h.1)
    (all_like (λ (r : FileColumnStatsRow). r.data_file_id ≡ id) (λ r. AllByRecursion (Sooner r) (stats_rows_from (id + 1) xs))
    (λ r same. all_like (λ (q : FileColumnStatsRow). id + 1 ≤ q.data_file_id) (Sooner r) (λ q k. lt_first r.data_file_id q.data_file_id (r.column_id ∷ []) (q.column_id ∷ []) (omega (arith, same, k))) (stats_rows_from (id + 1) xs) (stats-from (id + 1) (id + 1) xs (omega arith)))
    (map (written.stats_row id) y.file.stats) (own-id id y.file.stats))

-- ---- columns of one table

one_list : (rs : List ColumnRow) (cs ds : List Column) → AllZip IsColumnOf rs cs → AllZip IsColumnOf rs ds → cs ≡ ds
one_list [] [] [] h k = refl
one_list [] [] (d ∷ ds) h k = absurd k
one_list [] (c ∷ cs) ds h k = absurd h
one_list (r ∷ rs) [] ds h k = absurd h
one_list (r ∷ rs) (c ∷ cs) [] h k = absurd k
one_list (r ∷ rs) (c ∷ cs) (d ∷ ds) h k = ap₂ (λ a l. a ∷ l) (one_column r c d h.0 k.0) (one_list rs cs ds h.1 k.1)

stats-fields : (cs : List Column) (sheet : List SheetColumn) (ss : List ColStats) → AllZip staging.IsColumnOf cs sheet → AllZip HasStats sheet ss → map field_of ss ≡ fields_of cs
stats-fields [] [] [] h k = refl
stats-fields [] [] (s ∷ ss) h k = absurd k
stats-fields [] (c ∷ sheet) ss h k = absurd h
stats-fields (c ∷ cs) [] ss h k = absurd h
stats-fields (c ∷ cs) (d ∷ sheet) [] h k = absurd k
stats-fields (c ∷ cs) (d ∷ sheet) (s ∷ ss) h k = ap₂ (λ a l. a ∷ l) (same_Some s.field c.field (sym k.0.field ∙ h.0.field)) (stats-fields cs sheet ss h.1 k.1)

counts-of : (id : ℕ) (sheet : List SheetColumn) (ss : List ColStats) → AllZip HasStats sheet ss → AllZip Counts sheet (map (written.stats_row id) ss)
counts-of id [] [] h = tt
counts-of id [] (s ∷ ss) h = absurd h
counts-of id (c ∷ sheet) [] h = absurd h
counts-of id (c ∷ sheet) (s ∷ ss) h = (
  record { field = h.0.field; counted = record { nulls = h.0.counted.nulls; min = (s.min, h.0.counted.min, refl); max = (s.max, h.0.counted.max, refl) } },
  counts-of id sheet ss h.1,
)

fields-below : (P : ℕ → Type 0) (cs : List Column) (sheet : List SheetColumn) → AllByRecursion P (fields_of cs) → AllZip staging.IsColumnOf cs sheet → AllByRecursion (λ (c : SheetColumn). IfSome c.field P) sheet
fields-below P [] [] all h = tt
fields-below P [] (c ∷ sheet) all h = absurd h
fields-below P (c ∷ cs) [] all h = absurd h
fields-below P (c ∷ cs) (d ∷ sheet) all h = (subst (λ o. IfSome o P) (sym h.0.field) all.0, fields-below P cs sheet all.1 h.1)

below-limit : (limit : ℕ) (ks : List ℕ) → RiseBelow limit ks → AllByRecursion (λ k. k < limit) ks
below-limit limit [] h = tt
below-limit limit (k ∷ ks) h = (h.0, below-limit limit ks h.2)

module _ (x : Case) where
  -- ---- what is known of a staged file

  abbrev table_at : FreshFile → ℕ
  table_at y = table_id (next x) (creations 0 0 x.own) y.table

  pub record HasTable (y : FreshFile) : Type 0 where
    pub columns : List Column
    pub spelled : AllZip IsColumnOf (column_rows (table_id (next x) (creations 0 0 x.own) y.table) (seen_then x).column) columns
    pub rows : List Cells
    pub held : HoldsCells x.is.at_staging columns y.file rows
    pub row : TableStatsRow
    pub there : stats_row (after x) (table_id (next x) (creations 0 0 x.own) y.table) ≡ Some row
    pub rise : RiseBelow row.next_field_id (fields_of columns)

  old-table : (y : FreshFile) → In y (fresh_files x.staged) → (tb : Table) → In tb (head x).tables → drops_table x.own (ref.Old tb.id) ≡ false → ref.Old tb.id ≡ y.table
      → MayHoldCells x.is.at_staging tb.columns (staged_for x.staged (ref.Old tb.id)).fresh (map (laid_cells tb.columns) (rows_for (ref.Old tb.id) x.own)) → HasTable y
  old-table y there tb in_head stays at held =
      let named = named-of x tb in_head in
      let r = zip_left (IsTableAt (now x)) (now x).table (v x).tables named.named (v-sees x).tables named.there in
      let id : r.0.table_id ≡ tb.id = sym r.2.id ∙ ap (λ (u : Table). u.id) named.is in
      let rows : column_rows r.0.table_id (now x).column ≡ column_rows (table_at y) (seen_then x).column =
      ap (λ k. column_rows k (now x).column) id ∙ sym (same-columns x tb.id stays (head-low x tb in_head)) ∙ ap (λ a. column_rows (table_id (next x) (creations 0 0 x.own) a) (seen_then x).column) at in
      let has = counters-old x tb in_head stays in
      let fields = all_in HasFieldIds tb (head x).tables (head-ids x).fields in_head in
      record {
        columns = tb.columns;
        spelled = subst (λ l. AllZip IsColumnOf l tb.columns) rows (subst (λ (u : Table). AllZip IsColumnOf (column_rows r.0.table_id (now x).column) u.columns) named.is r.2.columns);
        rows = map (laid_cells tb.columns) (rows_for (ref.Old tb.id) x.own);
        held = subst (λ o. MayHoldCells x.is.at_staging tb.columns o (map (laid_cells tb.columns) (rows_for (ref.Old tb.id) x.own))) (ap (λ a. (staged_for x.staged a).fresh) at ∙ fresh-for x y there) held;
        row = has.row;
        there = ap (λ a. stats_row (after x) (table_id (next x) (creations 0 0 x.own) a)) (sym at) ∙ has.there;
        rise = subst (λ k. RiseBelow k (fields_of tb.columns)) has.next_field fields.rise;
      }

  new-draft : (y : FreshFile) → In y (fresh_files x.staged) → (d : Draft) → In d (made_tables 0 x.own) → d.at ≡ y.table → HasTable y
  new-draft y there d made at =
      let has = counters-made x d made in
      let fields = all_in (λ (e : Draft). HasFieldIds (settled_table (next x) (creations 0 0 x.own) e)) d (made_tables 0 x.own) (all_unmapped HasFieldIds (settled_table (next x) (creations 0 0 x.own)) (made_tables 0 x.own) (made-fields (next x) x.own)) made in
      record {
        columns = d.columns;
        spelled = subst (λ a. AllZip IsColumnOf (column_rows (table_id (next x) (creations 0 0 x.own) a) (seen_then x).column) d.columns) at (new-table x d made).columns;
        rows = left d.fresh;
        held = subst (λ o. MayHoldCells x.is.at_staging d.columns o (left d.fresh)) (ap (λ a. (staged_for x.staged a).fresh) at ∙ fresh-for x y there) (made-has x d made);
        row = has.row;
        there = ap (λ a. stats_row (after x) (table_id (next x) (creations 0 0 x.own) a)) (sym at) ∙ has.there;
        rise = subst (λ k. RiseBelow k (fields_of d.columns)) has.next_field fields.rise;
      }

  has-table : (y : FreshFile) → In y (fresh_files x.staged) → HasTable y
  has-table y there = go (target x y.table y.file (fresh-for x y there))
    where
      go : IsTarget x.is.told x.is.base (head x) x.own x.is.free x.is.version x.is.at_staging x.staged x.is.are_staged y.table → HasTable y
      go (inl old) = old-table y there old.table old.there old.stays old.at_is old.held
      go (inr made) = new-draft y there made.draft made.there made.at_is

  -- ---- statistics of new files

  rising : (y : FreshFile) → In y (fresh_files x.staged) → HaveRisingFields y.file.stats
  rising y there =
      let h = has-table y there in
      record { limit = h.row.next_field_id; rise = subst (RiseBelow h.row.next_field_id) (sym (stats-fields h.columns (filter is_data h.held.sheet.columns) y.file.stats h.held.staged.columns_are h.held.staged.stats)) h.rise }

  stats-past : ArePast file_column_stats_key (p x).file_column_stats x.t.file_column_stats
  stats-past = past_from file_column_stats_key (p x).file_column_stats x.t.file_column_stats
      (all_like (λ (r : FileColumnStatsRow). next_file x ≤ r.data_file_id) (λ (r : FileColumnStatsRow). AllByRecursion (λ q. is_lt (key_cmp (file_column_stats_key q) (file_column_stats_key r)) ≡ true) x.t.file_column_stats)
      (λ r k. all_like (λ (q : FileColumnStatsRow). q.data_file_id < next_file x) (λ q. is_lt (key_cmp (file_column_stats_key q) (file_column_stats_key r)) ≡ true) (λ q l. lt_first q.data_file_id r.data_file_id (q.column_id ∷ []) (r.column_id ∷ []) (omega (arith, k, l))) x.t.file_column_stats (column_stats-low x))
      (p x).file_column_stats (stats-from (next_file x) (next_file x) (fresh_files x.staged) (omega arith)))
      (stats-rise (next_file x) (fresh_files x.staged) (all_by (λ (y : FreshFile). HaveRisingFields y.file.stats) (fresh_files x.staged) rising))

  stats-new : (k : ℕ) → next_file x ≤ k → file_stats (after x) k ≡ filter (λ (r : FileColumnStatsRow). r.data_file_id == k) (p x).file_column_stats
  stats-new k from =
      ap (λ (u : Tables). file_stats u k) (applied-parts (p x) x.t)
      ∙ ap (filter (λ (r : FileColumnStatsRow). r.data_file_id == k)) (put_all-last file_column_stats_key (p x).file_column_stats x.t.file_column_stats stats-past)
      ∙ filter-append (λ (r : FileColumnStatsRow). r.data_file_id == k) x.t.file_column_stats (p x).file_column_stats
      ∙ ap (λ l. l ++ filter (λ (r : FileColumnStatsRow). r.data_file_id == k) (p x).file_column_stats)
      (filter-none (λ (r : FileColumnStatsRow). r.data_file_id == k) x.t.file_column_stats (all_like (λ (q : FileColumnStatsRow). q.data_file_id < next_file x) (λ (q : FileColumnStatsRow). (q.data_file_id == k) ≡ false) (λ q l. ne_eqb q.data_file_id k (λ same. absurd (omega (arith, same, l, from)))) x.t.file_column_stats (column_stats-low x)))

  -- ---- a new file

  new-file : (y : FreshFile) → In y (fresh_files x.staged) → (k : ℕ) → file_stats (after x) k ≡ map (written.stats_row k) y.file.stats → IsDataFile (after x) x.more (file_row x.t (n x + 1) (next x) (creations 0 0 x.own) k y)
  new-file y there k stats =
      let h = has-table y there in
      let s = h.held.staged in
      let row = file_row x.t (n x + 1) (next x) (creations 0 0 x.own) k y in
      record {
        sheet = h.held.sheet;
        there = record { filed = s.sealed.filed; there = x.is.still y.file.name (ap is_some s.sealed.there) ∙ s.sealed.there; size_is = s.sealed.size_is; sheet_is = s.sealed.sheet_is };
        rows = s.rows;
        weight = s.weight;
        laid = subst (AllByRecursion (CanBeLaid (after x) row h.held.sheet)) (sym (snapshots x))
            (all-joined (CanBeLaid (after x) row h.held.sheet) x.t.snapshot ((p x).snapshot ∷ [])
            (all_like (λ (r : SnapshotRow). r.snapshot_id ≤ n x) (CanBeLaid (after x) row h.held.sheet)
            (λ r old visible columns spelled. absurd (true≢false (sym visible ∙ unseen_later data_file_key data_file_validity r.snapshot_id row (omega (arith, old))))) x.t.snapshot (low x))
            (newly h, tt));
        has_ids = λ none. absurd cc;
        counts = subst (AllZip Counts (filter is_data h.held.sheet.columns)) (sym stats) (counts-of k (filter is_data h.held.sheet.columns) y.file.stats s.stats);
        fields = fields-below (IsBelowFields (after x) (table_at y)) h.columns (filter is_data h.held.sheet.columns)
            (all_like (λ f. f < h.row.next_field_id) (IsBelowFields (after x) (table_at y)) (λ f under. subst (λ o. IfSome o (λ (r : TableStatsRow). f < r.next_field_id)) (sym h.there) under) (fields_of h.columns) (below-limit h.row.next_field_id (fields_of h.columns) h.rise)) s.columns_are;
      }
    where
      newly : (h : HasTable y) → CanBeLaid (after x) (file_row x.t (n x + 1) (next x) (creations 0 0 x.own) k y) h.held.sheet (p x).snapshot
      newly h visible columns spelled =
          let same : columns ≡ h.columns = one_list _ columns h.columns (subst (λ (seen : Seen). AllZip IsColumnOf (column_rows (table_at y) seen.column) columns) (sees x) spelled) h.spelled in
          let zip : AllZip staging.IsColumnOf h.columns h.held.sheet.columns = subst (AllZip staging.IsColumnOf h.columns) (all-data h.held.sheet.columns h.held.without_ids) h.held.staged.columns_are in
          subst (λ cs. first_fault h.held.sheet.columns cs ≡ None) (sym same) (no-faults h.row.next_field_id h.columns h.held.sheet.columns h.rise zip)

  -- ---- all of them

  abbrev is_of : ℕ → FileColumnStatsRow → Bool
  is_of k r = r.data_file_id == k

  first-own : (id : ℕ) (y : FreshFile) (xs : List FreshFile) → filter (is_of id) (stats_rows_from id (y ∷ xs)) ≡ map (written.stats_row id) y.file.stats
  first-own id y xs =
      filter-append (is_of id) (map (written.stats_row id) y.file.stats) (stats_rows_from (id + 1) xs)
      ∙ ap₂ ◌++◌ (filter-all (is_of id) (map (written.stats_row id) y.file.stats) (all_like (λ (r : FileColumnStatsRow). r.data_file_id ≡ id) (λ r. is_of id r ≡ true) (λ r same. eq-eqb r.data_file_id id same) _ (own-id id y.file.stats)))
      (filter-none (is_of id) (stats_rows_from (id + 1) xs) (all_like (λ (r : FileColumnStatsRow). id + 1 ≤ r.data_file_id) (λ r. is_of id r ≡ false) (λ r past. ne_eqb r.data_file_id id (λ same. absurd (omega (arith, same, past)))) _ (stats-from (id + 1) (id + 1) xs (omega arith))))
      ∙ append-nil _

  later-own : (id k : ℕ) (y : FreshFile) (xs : List FreshFile) → id + 1 ≤ k → filter (is_of k) (stats_rows_from id (y ∷ xs)) ≡ filter (is_of k) (stats_rows_from (id + 1) xs)
  later-own id k y xs past =
      filter-append (is_of k) (map (written.stats_row id) y.file.stats) (stats_rows_from (id + 1) xs)
      ∙ ap (λ l. l ++ filter (is_of k) (stats_rows_from (id + 1) xs)) (filter-none (is_of k) (map (written.stats_row id) y.file.stats) (all_like (λ (r : FileColumnStatsRow). r.data_file_id ≡ id) (λ r. is_of k r ≡ false) (λ r same. ne_eqb r.data_file_id k (λ e. absurd (omega (arith, same, e, past)))) _ (own-id id y.file.stats)))

  new-files : (id : ℕ) (xs : List FreshFile) → next_file x ≤ id → ((y : FreshFile) → In y xs → In y (fresh_files x.staged))
      → ((k : ℕ) → id ≤ k → filter (is_of k) (p x).file_column_stats ≡ filter (is_of k) (stats_rows_from id xs))
      → AllByRecursion (IsDataFile (after x) x.more) (file_rows_from x.t (n x + 1) (next x) (creations 0 0 x.own) id xs)
  new-files id [] from within stats = tt
  new-files id (y ∷ xs) from within stats = (
    new-file y (within y (inl refl)) id (stats-new id from ∙ stats id (omega arith) ∙ first-own id y xs),
    new-files (id + 1) xs (omega (arith, from)) (λ z there. within z (inr there)) (λ k past. stats k (omega (arith, past)) ∙ later-own id k y xs past),
  )

  pub data-after : AllByRecursion (IsDataFile (after x) x.more) (after x).data_file
  data-after =
      subst (AllByRecursion (IsDataFile (after x) x.more)) (sym (ap (λ (u : Tables). u.data_file) (applied-parts (p x) x.t)))
      (all-put_all data_file_key (IsDataFile (after x) x.more) (p x).data_file _ (new-files (next_file x) (fresh_files x.staged) (omega arith) (λ y there. there) (λ k past. refl)) (old-files-after x))

pub files-go_on : FilesGoOn
files-go_on t files more first versions sound time own staged is =
    let x : Case = record { t = t; files = files; more = more; first = first; versions = versions; sound = sound; time = time; own = own; staged = staged; is = is } in
    record { data_files = data-after x; delete_files = deletes-after x; inlined = inlined-after x }
