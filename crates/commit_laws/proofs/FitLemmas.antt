-- The batch of a commit fits the rows: no key stands twice, what goes or ends is there, and what is added isn't.
use Rattle.std.proofs.Common.{◌≡◌, ◌≢◌, ◌⊎◌, inl, inr, ⊎_elim, ℕ, ◌+◌, ◌<◌, ◌≤◌, ◌&&◌, Bool, true, false, not, List, [], ◌∷◌, map, refl, sym, ap, ◌∙◌, subst, arith, Option, Some, None, is_some, is_lt}
use Rattle.std.specs.Prelude.{IsTrue, filter, is_none, option_map}
use Rattle.std.specs.List.{AllByRecursion, AllZip}
use Rattle.std.proofs.lemmas.Bool.{and_parts}
use Rattle.std.proofs.lemmas.Option.{same_Some}
use Rattle.lake_types.specs.declared.sheet.SheetColumn.{SheetColumn}
use Rattle.lake_types.specs.declared.value.Column.{Column}
use Rattle.lake_model.specs.Apply.{Draft}
use Rattle.lake_model.specs.Laws.{HasFieldIds}
use Rattle.lake_model.specs.declared.change.Ref.TheVariants as ref
use Rattle.lake_rebase.proofs.MemberLemmas.{In, IsImage, all_by, all_in, in_kept, map_in}
use Rattle.col_stats.specs.declared.stats.ColStats.{ColStats}
use Rattle.sheet_rows.specs.Sheets.{is_data}
use Rattle.cat_tables.specs.Table.{ArePast, IsAscending, RisesByKey, all_removed, has_key, key_cmp, row_of, without}
use Rattle.cat_tables.specs.Validity.{Validity}
use Rattle.cat_tables.proofs.PlaceLemmas.{row_of-lacking}
use Rattle.cat_tables.proofs.PutLemmas.{RisesByKey-filter}
use Rattle.cat_tables.proofs.RowLemmas.{LacksKey-none, key-row_of, row_of-without}
use Rattle.cat_rows.specs.Batches.{AllDiffer, Fits, has_no_end, holds, is_open, key_of}
use Rattle.cat_rows.specs.Keys.{column_key, data_file_key, delete_file_key, file_column_stats_key, inlined_row_key, schema_key, snapshot_changes_key, snapshot_key, table_key, table_stats_key}
use Rattle.cat_rows.specs.Parts.{batch_of}
use Rattle.cat_rows.specs.Tables.{Tables}
use Rattle.cat_rows.specs.Validities.{column_validity, data_file_validity, delete_file_validity, inlined_row_validity, schema_validity, table_validity}
use Rattle.cat_rows.specs.declared.batch.CatRow.{CatRow}
use Rattle.cat_rows.specs.declared.batch.CatRow.TheVariants as row
use Rattle.cat_rows.specs.declared.batch.Key.{Key}
use Rattle.cat_rows.specs.declared.batch.Key.TheVariants as key
use Rattle.cat_rows.specs.declared.files.DataFileRow.{DataFileRow}
use Rattle.cat_rows.specs.declared.files.DeleteFileRow.{DeleteFileRow}
use Rattle.cat_rows.specs.declared.files.FileColumnStatsRow.{FileColumnStatsRow}
use Rattle.cat_rows.specs.declared.files.TableStatsRow.{TableStatsRow}
use Rattle.cat_rows.specs.declared.history.SnapshotChangesRow.{SnapshotChangesRow}
use Rattle.cat_rows.specs.declared.history.SnapshotRow.{SnapshotRow}
use Rattle.cat_rows.specs.declared.inlined.InlinedRow.{InlinedRow}
use Rattle.cat_rows.specs.declared.schemas.ColumnRow.{ColumnRow}
use Rattle.cat_rows.specs.declared.schemas.SchemaRow.{SchemaRow}
use Rattle.cat_rows.specs.declared.schemas.TableRow.{TableRow}
use Rattle.cat_rules.specs.CounterRule.{is_not_past}
use Rattle.cat_rules.specs.HistoryRule.{snapshot_of}
use Rattle.cat_rules.specs.Places.{of_column_stats}
use Rattle.cat_rules.proofs.DatedLemmas.{all_fine, row_of_all}
use Rattle.cat_rules.proofs.FirstLemmas.{all_like, ascends_like}
use Rattle.cat_texts.specs.Written.{stats_row}
use Rattle.cat_view.specs.Staged.{HasStats, IsColumnOf, NamedStagedFile, NamedStagedTable}
use Rattle.cat_rows.proofs.PartLemmas.{removes-table_stats}
use Rattle.commit_rules.proofs.CoreLemmas.{lower_key, newest_low}
use Rattle.commit_rules.proofs.HistoryLemmas.{first_number, is_true, some_of}
use Rattle.commit_rules.proofs.StatsLemmas.{below}
use Rattle.commit_rules.proofs.TableLemmas.{all-all_removed}
use Rattle.rebase.specs.Parts.{FreshFile, fresh_file, going, old_stats, restated, restated_of, stats_rows_from}
use Rattle.commit_laws.proofs.AfterLemmas.{IsRestated, made_new, old_stats_id, restated-is, restated_low, stats_cases, stats_low, stats_of_made}
use Rattle.commit_laws.proofs.CaseLemmas.{Case, counted, fresh, head, is-head, newest, next, number, of-cases, parts}
use Rattle.commit_laws.proofs.ColumnLemmas.{id_of, made}
use Rattle.commit_laws.proofs.FileLemmas.{head_ids}
use Rattle.commit_laws.proofs.FreshLemmas.{OtherTable, apart_each}
use Rattle.commit_laws.proofs.HolderLemmas.{NewHolder, OldHolder, holder}
use Rattle.commit_laws.proofs.ListLemmas.{all_append, all_mapped, all_of, asc_append, asc_mapped, in_picked, lt_first, mapped_some, numbers_rise, picked_in}
use Rattle.commit_laws.proofs.MadeLemmas.{IsMade, made_are, made_fields_rise, table_ids_rise}
use Rattle.commit_laws.proofs.PartLemmas.{parts_of-case}
use Rattle.commit_laws.specs.AgainLaws.{BatchesFit}
use Rattle.commit_laws.proofs.ApartLemmas.{AreApart, asc_picked, more_apart, news_lack, none_apart, none_below, rises_apart, row_there}
use Rattle.commit_laws.proofs.RiseLemmas.{news_rise}

-- ---- statistics of new files' columns

asc_unmapped : {X Y : Type 0} (R : Y → Y → Type 0) (f : X → Y) (xs : List X) → IsAscending R (map f xs) → IsAscending (λ a b. R (f a) (f b)) xs
asc_unmapped R f [] up = tt
asc_unmapped {X} {Y} R f (x ∷ xs) up = (each xs up.0, asc_unmapped R f xs up.1)
  where
    each : (zs : List X) → AllByRecursion (R (f x)) (map f zs) → AllByRecursion (λ z. R (f x) (f z)) zs
    each [] h = tt
    each (z ∷ zs) h = (h.0, each zs h.1)

fields_same : (cs : List Column) (ds : List SheetColumn) (ss : List ColStats) → AllZip IsColumnOf cs ds → AllZip HasStats ds ss → map (λ (s : ColStats). s.field) ss ≡ map (λ (c : Column). c.field) cs
fields_same [] [] [] a b = refl
fields_same [] [] (s ∷ ss) a b = absurd b
fields_same [] (d ∷ ds) ss a b = absurd a
fields_same (c ∷ cs) [] ss a b = absurd a
fields_same (c ∷ cs) (d ∷ ds) [] a b = absurd b
fields_same (c ∷ cs) (d ∷ ds) (s ∷ ss) a b =
    let one : s.field ≡ c.field = same_Some _ _ (sym b.0.field ∙ a.0.field) in
    let rest = fields_same cs ds ss a.1 b.1 in cc

abbrev OtherStats : FileColumnStatsRow → FileColumnStatsRow → Type 0
OtherStats a b = file_column_stats_key a ≢ file_column_stats_key b

stats_from : (low id : ℕ) (xs : List FreshFile) → low ≤ id → AllByRecursion (λ (r : FileColumnStatsRow). low ≤ r.data_file_id) (stats_rows_from id xs)
stats_from low id [] le = tt
stats_from low id (x ∷ xs) le =
    all_append (λ (r : FileColumnStatsRow). low ≤ r.data_file_id) (map (stats_row id) x.file.stats) (stats_rows_from (id + 1) xs)
    (all_mapped (λ (r : FileColumnStatsRow). low ≤ r.data_file_id) (stats_row id) x.file.stats (all_of _ (λ s. le) x.file.stats)) (stats_from low (id + 1) xs (omega (arith, le)))

two_same : (a b c d : ℕ) → a ∷ b ∷ [] ≡ c ∷ d ∷ [] → (a ≡ c) × (b ≡ d)
two_same a b c d e = (cc, cc)

stats_apart : (id : ℕ) (xs : List FreshFile) → AllByRecursion (λ (x : FreshFile). IsAscending (λ (a b : ColStats). a.field < b.field) x.file.stats) xs → IsAscending OtherStats (stats_rows_from id xs)
stats_apart id [] up = tt
stats_apart id (x ∷ xs) up =
    asc_append OtherStats (map (stats_row id) x.file.stats) (stats_rows_from (id + 1) xs)
    (asc_mapped OtherStats (stats_row id) x.file.stats
    (ascends_like (λ (a b : ColStats). a.field < b.field) (λ (a b : ColStats). OtherStats (stats_row id a) (stats_row id b)) (λ a b lt e. let same = (two_same id a.field id b.field e).1 in omega (arith, lt, same)) x.file.stats up.0))
    (stats_apart (id + 1) xs up.1)
    (all_mapped (λ (r : FileColumnStatsRow). AllByRecursion (OtherStats r) (stats_rows_from (id + 1) xs)) (stats_row id) x.file.stats
    (all_of _ (λ (s : ColStats).
    all_like (λ (r : FileColumnStatsRow). id + 1 ≤ r.data_file_id) (OtherStats (stats_row id s)) (λ r le e. let same = (two_same id s.field r.data_file_id r.column_id e).0 in omega (arith, le, same)) (stats_rows_from (id + 1) xs) (stats_from (id + 1) (id + 1) xs (omega arith))) x.file.stats))

-- ---- rows that end

open_rows : {R : Type 0} (key : R → List ℕ) (v : Validity R) (goes : R → Bool) (rows : List R) → RisesByKey key rows → AllByRecursion (λ r. has_no_end v (row_of key (key r) rows) ≡ true) (going v goes rows)
open_rows key v goes rows up =
    all_by (λ r. has_no_end v (row_of key (key r) rows) ≡ true) (going v goes rows)
    (λ r there. let h = in_kept (λ q. is_none (v.end q) && goes q) r rows there in ap (has_no_end v) (row_there key r rows up h.0) ∙ (and_parts (is_none (v.end r)) (goes r) h.1).0)

-- ---- what is left of keys after removals

abbrev stats_keys : List TableStatsRow → List Key
stats_keys rs = map (λ (r : TableStatsRow). key.TableStats r.table_id) rs

lacks_removed : {R : Type 0} (key : R → List ℕ) (k : List ℕ) (ks : List (List ℕ)) (rs : List R) → In k ks → row_of key k (all_removed key ks rs) ≡ None
lacks_removed key k [] rs there = absurd there
lacks_removed key k (l ∷ ks) rs (inl e) =
    let lacks = LacksKey-none key k (without key l rs) (subst (λ m. row_of key k (without key m rs) ≡ None) (sym e) (row_of-without key k rs)) in
    row_of-lacking key k (all_removed key ks (without key l rs)) (all-all_removed key (λ r. has_key key k r ≡ false) ks (without key l rs) lacks)
lacks_removed key k (l ∷ ks) rs (inr there) = lacks_removed key k ks (without key l rs) there

module _ (k : Case) where
  abbrev m : ℕ
  m = number k + 1

  abbrev olds : List TableStatsRow
  olds = (parts k).old_stats

  -- ---- tables' statistics

  abbrev OtherFile : FreshFile → FreshFile → Type 0
  OtherFile x y = x.table ≢ y.table

  files_apart : IsAscending OtherFile (fresh k)
  files_apart = asc_picked OtherTable OtherFile fresh_file
      (λ s u x y apart e f same. apart (sym (table_is s s.fresh x e) ∙ same ∙ table_is u u.fresh y f)) k.staged (apart_each k.staged k.c.stage.once)
    where
      table_is : (s : NamedStagedTable) (o : Option NamedStagedFile) (x : FreshFile) → option_map (λ (f : NamedStagedFile). record { table = s.table; file = f }) o ≡ Some x → x.table ≡ s.table
      table_is s None x e = absurd cc
      table_is s (Some f) x e = let same : record { table = s.table; file = f } ≡ x = cc in sym (ap (λ (y : FreshFile). y.table) same)

  olds_apart : IsAscending (λ (a b : TableStatsRow). a.table_id ≢ b.table_id) olds
  olds_apart = asc_picked OtherFile (λ (a b : TableStatsRow). a.table_id ≢ b.table_id) (λ (x : FreshFile). old_stats k.t x.table)
      (λ x y a b apart e f same. apart (old_stats_id k.t x.table a e ∙ ap ref.Old same ∙ sym (old_stats_id k.t y.table b f))) (fresh k) files_apart

  abbrev OtherTableStats : TableStatsRow → TableStatsRow → Type 0
  OtherTableStats a b = table_stats_key a ≢ table_stats_key b

  restated_apart : IsAscending OtherTableStats (restated_of k.t (fresh k))
  restated_apart = asc_picked OtherFile OtherTableStats (λ (x : FreshFile). option_map (restated x.file) (old_stats k.t x.table))
      (λ x y a b apart e f same.
      let q = mapped_some (restated x.file) (old_stats k.t x.table) a e in
      let r = mapped_some (restated y.file) (old_stats k.t y.table) b f in
      let id : q.0.table_id ≡ r.0.table_id = ap (λ (s : TableStatsRow). s.table_id) q.2 ∙ first_number same ∙ sym (ap (λ (s : TableStatsRow). s.table_id) r.2) in
      apart (old_stats_id k.t x.table q.0 q.1 ∙ ap ref.Old id ∙ sym (old_stats_id k.t y.table r.0 r.1))) (fresh k) files_apart

  made_apart : IsAscending OtherTableStats (map (stats_of_made k) (made k))
  made_apart = asc_mapped OtherTableStats (stats_of_made k) (made k)
      (ascends_like (λ (d e : Draft). id_of k d < id_of k e) (λ (d e : Draft). OtherTableStats (stats_of_made k d) (stats_of_made k e)) (λ d e lt same. let id : id_of k d ≡ id_of k e = first_number same in omega (arith, lt, id)) (made k) (table_ids_rise (next k) k.own))

  table_stats_apart : IsAscending OtherTableStats (parts k).table_stats
  table_stats_apart = asc_append OtherTableStats (restated_of k.t (fresh k)) (map (stats_of_made k) (made k)) restated_apart made_apart
      (all_by (λ (r : TableStatsRow). AllByRecursion (OtherTableStats r) (map (stats_of_made k) (made k))) (restated_of k.t (fresh k)) (λ r there.
      let low = restated_low k r (restated-is k r there) in
      all_mapped (OtherTableStats r) (stats_of_made k) (made k) (all_by (λ (d : Draft). OtherTableStats r (stats_of_made k d)) (made k) (λ d h same. let past = made_new k d h in let id : r.table_id ≡ id_of k d = first_number same in omega (arith, low, past, id)))))

  -- ---- columns' statistics

  stats_rise : (x : FreshFile) → In x (fresh k) → IsAscending (λ (a b : ColStats). a.field < b.field) x.file.stats
  stats_rise x there =
      let h = holder k x there in
      asc_unmapped (λ a b. a < b) (λ (s : ColStats). s.field) x.file.stats
      (subst (IsAscending (λ a b. a < b)) (sym (fields_same h.columns (filter is_data h.sheet.columns) x.file.stats h.staged.columns_are h.staged.stats)) (asc_mapped (λ a b. a < b) (λ (c : Column). c.field) h.columns (columns_up h.columns h.of)))
    where
      columns_up : (cs : List Column) → OldHolder k x cs ⊎ NewHolder k x cs → IsAscending (λ (a b : Column). a.field < b.field) cs
      columns_up cs (inl old) =
          let ids = all_in HasFieldIds old.table (head k).tables (head_ids k).fields old.there in
          subst (IsAscending (λ (a b : Column). a.field < b.field)) old.columns_are (numbers_rise (λ (c : Column). c.field) old.table.next_field old.table.columns ids.rise)
      columns_up cs (inr now) = subst (IsAscending (λ (a b : Column). a.field < b.field)) now.columns_are (made_fields_rise now.draft (all_in IsMade now.draft (made k) (made_are 0 k.own) now.there))

  column_stats_apart : IsAscending OtherStats (parts k).file_column_stats
  column_stats_apart = stats_apart k.c.sound.newest.next_file_id (fresh k) (all_by (λ (x : FreshFile). IsAscending (λ (a b : ColStats). a.field < b.field) x.file.stats) (fresh k) stats_rise)

  -- ---- no key twice

  news : {R : Type 0} (key : R → List ℕ) (rs rows : List R) → ArePast key rs rows → IsAscending (λ a b. key a ≢ key b) rs
  news key rs rows past = rises_apart key rs (news_rise key rs rows past)

  goers : {R : Type 0} (key : R → List ℕ) (v : Validity R) (goes : R → Bool) (rows : List R) → RisesByKey key rows → IsAscending (λ a b. key a ≢ key b) (going v goes rows)
  goers key v goes rows up = rises_apart key (going v goes rows) (RisesByKey-filter key (λ r. is_none (v.end r) && goes r) rows up)

  adds_apart : AreApart key_of 1 (batch_of (parts k)).adds
  adds_apart =
      more_apart key_of snapshot_key 1 2 (λ r. row.Snapshot r) (λ r. refl) (omega arith) ((parts k).snapshot ∷ []) (tt, tt) _
      (more_apart key_of snapshot_changes_key 2 3 (λ r. row.SnapshotChanges r) (λ r. refl) (omega arith) ((parts k).changes ∷ []) (tt, tt) _
      (more_apart key_of schema_key 3 4 (λ r. row.Schema r) (λ r. refl) (omega arith) (parts k).schema (news schema_key (parts k).schema k.t.schema (parts_of-case k).schema.past) _
      (more_apart key_of table_key 4 5 (λ r. row.Table r) (λ r. refl) (omega arith) (parts k).table (news table_key (parts k).table k.t.table (parts_of-case k).table.past) _
      (more_apart key_of column_key 5 6 (λ r. row.Column r) (λ r. refl) (omega arith) (parts k).column (news column_key (parts k).column k.t.column (parts_of-case k).column.past) _
      (more_apart key_of data_file_key 6 8 (λ r. row.DataFile r) (λ r. refl) (omega arith) (parts k).data_file (news data_file_key (parts k).data_file k.t.data_file (parts_of-case k).data_file.past) _
      (more_apart key_of file_column_stats_key 8 9 (λ r. row.FileColumnStats r) (λ r. refl) (omega arith) (parts k).file_column_stats column_stats_apart _
      (more_apart key_of table_stats_key 9 10 (λ r. row.TableStats r) (λ r. refl) (omega arith) (parts k).table_stats table_stats_apart [] (none_apart key_of 10))))))))

  abbrev key_at : Key × ℕ → Key
  key_at e = e.0

  ends_apart : AreApart key_at 3 (batch_of (parts k)).ends
  ends_apart =
      more_apart key_at schema_key 3 4 (λ (r : SchemaRow). (key.Schema r.schema_id, m)) (λ r. refl) (omega arith) (parts k).ended_schema (goers schema_key schema_validity _ k.t.schema k.c.rising.schema) _
      (more_apart key_at table_key 4 5 (λ (r : TableRow). (key.Table r.table_id, m)) (λ r. refl) (omega arith) (parts k).ended_table (goers table_key table_validity _ k.t.table k.c.rising.table) _
      (more_apart key_at column_key 5 6 (λ (r : ColumnRow). (key.Column r.table_id r.column_id r.begin_snapshot, m)) (λ r. refl) (omega arith) (parts k).ended_column (goers column_key column_validity _ k.t.column k.c.rising.column) _
      (more_apart key_at data_file_key 6 7 (λ (r : DataFileRow). (key.DataFile r.data_file_id, m)) (λ r. refl) (omega arith) (parts k).ended_data_file (goers data_file_key data_file_validity _ k.t.data_file k.c.rising.data_file) _
      (more_apart key_at delete_file_key 7 10 (λ (r : DeleteFileRow). (key.DeleteFile r.delete_file_id, m)) (λ r. refl) (omega arith) (parts k).ended_delete_file (goers delete_file_key delete_file_validity _ k.t.delete_file k.c.rising.delete_file) _
      (more_apart key_at inlined_row_key 10 11 (λ (r : InlinedRow). (key.Inlined r.table_id r.row_id r.begin_snapshot, m)) (λ r. refl) (omega arith) (parts k).ended_inlined_row (goers inlined_row_key inlined_row_validity _ k.t.inlined_row k.c.rising.inlined_row) [] (none_apart key_at 11))))))

  removes_apart : AllDiffer (stats_keys olds)
  removes_apart = asc_mapped (λ a b. a ≢ b) (λ (r : TableStatsRow). key.TableStats r.table_id) olds
      (ascends_like (λ (a b : TableStatsRow). a.table_id ≢ b.table_id) (λ (a b : TableStatsRow). key.TableStats a.table_id ≢ key.TableStats b.table_id) (λ a b apart e. apart cc) olds olds_apart)

  -- ---- what goes is there

  there : AllByRecursion (λ l. IsTrue (holds k.t l)) (stats_keys olds)
  there = all_mapped (λ l. IsTrue (holds k.t l)) (λ (r : TableStatsRow). key.TableStats r.table_id) olds
      (all_by (λ (r : TableStatsRow). IsTrue (holds k.t (key.TableStats r.table_id))) olds (λ r h.
      let x = in_picked (λ (y : FreshFile). old_stats k.t y.table) r (fresh k) h in
      ap is_some (ap (old_stats k.t) (sym (old_stats_id k.t x.item.table r x.is)) ∙ x.is)))

  -- so of all ends, of each table
  ends_all : (P : Key × ℕ → Type 0) → AllByRecursion (λ (r : SchemaRow). P (key.Schema r.schema_id, m)) (parts k).ended_schema
      → AllByRecursion (λ (r : TableRow). P (key.Table r.table_id, m)) (parts k).ended_table
      → AllByRecursion (λ (r : ColumnRow). P (key.Column r.table_id r.column_id r.begin_snapshot, m)) (parts k).ended_column
      → AllByRecursion (λ (r : DataFileRow). P (key.DataFile r.data_file_id, m)) (parts k).ended_data_file
      → AllByRecursion (λ (r : DeleteFileRow). P (key.DeleteFile r.delete_file_id, m)) (parts k).ended_delete_file
      → AllByRecursion (λ (r : InlinedRow). P (key.Inlined r.table_id r.row_id r.begin_snapshot, m)) (parts k).ended_inlined_row
      → AllByRecursion P (batch_of (parts k)).ends
  ends_all P a b c d e f =
      all_append P _ _ (all_mapped P (λ (r : SchemaRow). (key.Schema r.schema_id, m)) (parts k).ended_schema a)
      (all_append P _ _ (all_mapped P (λ (r : TableRow). (key.Table r.table_id, m)) (parts k).ended_table b)
      (all_append P _ _ (all_mapped P (λ (r : ColumnRow). (key.Column r.table_id r.column_id r.begin_snapshot, m)) (parts k).ended_column c)
      (all_append P _ _ (all_mapped P (λ (r : DataFileRow). (key.DataFile r.data_file_id, m)) (parts k).ended_data_file d)
      (all_append P _ _ (all_mapped P (λ (r : DeleteFileRow). (key.DeleteFile r.delete_file_id, m)) (parts k).ended_delete_file e)
      (all_append P _ [] (all_mapped P (λ (r : InlinedRow). (key.Inlined r.table_id r.row_id r.begin_snapshot, m)) (parts k).ended_inlined_row f) tt)))))

  opened : AllByRecursion (λ (e : Key × ℕ). IsTrue (is_open k.t e.0)) (batch_of (parts k)).ends
  opened = ends_all (λ (e : Key × ℕ). IsTrue (is_open k.t e.0))
      (open_rows schema_key schema_validity _ k.t.schema k.c.rising.schema) (open_rows table_key table_validity _ k.t.table k.c.rising.table)
      (open_rows column_key column_validity _ k.t.column k.c.rising.column) (open_rows data_file_key data_file_validity _ k.t.data_file k.c.rising.data_file)
      (open_rows delete_file_key delete_file_validity _ k.t.delete_file k.c.rising.delete_file) (open_rows inlined_row_key inlined_row_validity _ k.t.inlined_row k.c.rising.inlined_row)

  stays : (l : Key) → ((n : ℕ) → key.TableStats n ≢ l) → AllByRecursion (λ j. j ≢ l) (stats_keys olds)
  stays l other = all_mapped (λ j. j ≢ l) (λ (r : TableStatsRow). key.TableStats r.table_id) olds (all_of (λ (r : TableStatsRow). key.TableStats r.table_id ≢ l) (λ r. other r.table_id) olds)

  abbrev Stays : Key × ℕ → Type 0
  Stays e = AllByRecursion (λ j. j ≢ e.0) (stats_keys olds)

  stay : AllByRecursion Stays (batch_of (parts k)).ends
  stay = ends_all Stays
      (all_of (λ (r : SchemaRow). Stays (key.Schema r.schema_id, m)) (λ r. stays (key.Schema r.schema_id) (λ n e. cc)) (parts k).ended_schema)
      (all_of (λ (r : TableRow). Stays (key.Table r.table_id, m)) (λ r. stays (key.Table r.table_id) (λ n e. cc)) (parts k).ended_table)
      (all_of (λ (r : ColumnRow). Stays (key.Column r.table_id r.column_id r.begin_snapshot, m)) (λ r. stays (key.Column r.table_id r.column_id r.begin_snapshot) (λ n e. cc)) (parts k).ended_column)
      (all_of (λ (r : DataFileRow). Stays (key.DataFile r.data_file_id, m)) (λ r. stays (key.DataFile r.data_file_id) (λ n e. cc)) (parts k).ended_data_file)
      (all_of (λ (r : DeleteFileRow). Stays (key.DeleteFile r.delete_file_id, m)) (λ r. stays (key.DeleteFile r.delete_file_id) (λ n e. cc)) (parts k).ended_delete_file)
      (all_of (λ (r : InlinedRow). Stays (key.Inlined r.table_id r.row_id r.begin_snapshot, m)) (λ r. stays (key.Inlined r.table_id r.row_id r.begin_snapshot) (λ n e. cc)) (parts k).ended_inlined_row)

  -- ---- what is added isn't there

  abbrev left : List TableStatsRow
  left = all_removed table_stats_key (map (λ (r : TableStatsRow). r.table_id ∷ []) olds) k.t.table_stats

  abbrev rest : Tables
  rest = record k.t { table_stats = left }

  snapshot_new : row_of snapshot_key (m ∷ []) k.t.snapshot ≡ None
  snapshot_new = none_below snapshot_key (parts k).snapshot k.t.snapshot
      (all_like (λ (q : SnapshotRow). q.snapshot_id ≤ number k) (λ (q : SnapshotRow). is_lt (key_cmp (q.snapshot_id ∷ []) (m ∷ [])) ≡ true) (λ q le. lower_key q.snapshot_id m (omega (arith, le))) k.t.snapshot (newest_low k.t.snapshot (newest k) (is-head k).rises (is-head k).last))

  changes_new : row_of snapshot_changes_key (m ∷ []) k.t.snapshot_changes ≡ None
  changes_new = none_below snapshot_changes_key (parts k).changes k.t.snapshot_changes
      (all_like (λ (r : SnapshotChangesRow). not (holds k.t (snapshot_of r)) ≡ true → ⊥) (λ (r : SnapshotChangesRow). is_lt (key_cmp (r.snapshot_id ∷ []) (m ∷ [])) ≡ true) old k.t.snapshot_changes
      (all_fine snapshot_of (λ (r : SnapshotChangesRow). not (holds k.t (snapshot_of r)) ≡ true) k.t.snapshot_changes (λ j h. k.c.sound.rules.1.0 j (inl (inr (inr h))))))
    where
      old : (r : SnapshotChangesRow) → (not (holds k.t (snapshot_of r)) ≡ true → ⊥) → is_lt (key_cmp (r.snapshot_id ∷ []) (m ∷ [])) ≡ true
      old r fine =
          let q = some_of (row_of snapshot_key (r.snapshot_id ∷ []) k.t.snapshot) (is_true (holds k.t (snapshot_of r)) fine) in
          let same : q.0.snapshot_id ≡ r.snapshot_id = first_number (key-row_of snapshot_key (r.snapshot_id ∷ []) k.t.snapshot q.0 q.1) in
          let le = row_of_all snapshot_key (r.snapshot_id ∷ []) (λ (x : SnapshotRow). x.snapshot_id ≤ number k) k.t.snapshot (newest_low k.t.snapshot (newest k) (is-head k).rises (is-head k).last) q.0 q.1 in
          lower_key r.snapshot_id m (omega (arith, same, le))

  column_stats_low : AllByRecursion (λ (r : FileColumnStatsRow). r.data_file_id < k.c.sound.newest.next_file_id) k.t.file_column_stats
  column_stats_low =
      all_like (λ (r : FileColumnStatsRow). is_not_past k.c.sound.newest.next_file_id r.data_file_id ≡ true → ⊥) (λ (r : FileColumnStatsRow). r.data_file_id < k.c.sound.newest.next_file_id) (λ r fine. below k.c.sound.newest.next_file_id r.data_file_id fine) k.t.file_column_stats
      (all_fine of_column_stats (λ (r : FileColumnStatsRow). is_not_past k.c.sound.newest.next_file_id r.data_file_id ≡ true) k.t.file_column_stats (λ j h. counted k j (inr (inr (inr (inr (inr (inr (inl h)))))))))

  column_stats_new : AllByRecursion (λ (r : FileColumnStatsRow). holds rest (key_of (row.FileColumnStats r)) ≡ false) (parts k).file_column_stats
  column_stats_new =
      all_like (λ (r : FileColumnStatsRow). k.c.sound.newest.next_file_id ≤ r.data_file_id) (λ (r : FileColumnStatsRow). holds rest (key_of (row.FileColumnStats r)) ≡ false)
      (λ r past. ap is_some (none_below file_column_stats_key r k.t.file_column_stats
      (all_like (λ (q : FileColumnStatsRow). q.data_file_id < k.c.sound.newest.next_file_id) (λ (q : FileColumnStatsRow). is_lt (key_cmp (file_column_stats_key q) (file_column_stats_key r)) ≡ true)
      (λ q low. lt_first q.data_file_id r.data_file_id (q.column_id ∷ []) (r.column_id ∷ []) (omega (arith, low, past))) k.t.file_column_stats column_stats_low)))
      (parts k).file_column_stats (stats_from k.c.sound.newest.next_file_id k.c.sound.newest.next_file_id (fresh k) (omega arith))

  stats_new : (r : TableStatsRow) → In r (parts k).table_stats → row_of table_stats_key (r.table_id ∷ []) left ≡ None
  stats_new r h = ⊎_elim again made_now (stats_cases k r h)
    where
      again : IsRestated k r → row_of table_stats_key (r.table_id ∷ []) left ≡ None
      again q =
          let id : q.old.table_id ≡ r.table_id = ap (λ (s : TableStatsRow). s.table_id) q.is in
          let old : In q.old olds = picked_in (λ (y : FreshFile). old_stats k.t y.table) q.file q.old (fresh k) q.there q.old_is in
          lacks_removed table_stats_key (r.table_id ∷ []) (map (λ (s : TableStatsRow). s.table_id ∷ []) olds) k.t.table_stats
          (subst (λ n. In (n ∷ []) (map (λ (s : TableStatsRow). s.table_id ∷ []) olds)) id (map_in (λ (s : TableStatsRow). s.table_id ∷ []) q.old olds old))

      made_now : IsImage (stats_of_made k) r (made k) → row_of table_stats_key (r.table_id ∷ []) left ≡ None
      made_now d =
          let id : id_of k d.of ≡ r.table_id = ap (λ (s : TableStatsRow). s.table_id) d.is in
          let past = made_new k d.of d.there in
          none_below table_stats_key r left
          (all_like (λ (q : TableStatsRow). q.table_id < next k) (λ (q : TableStatsRow). is_lt (key_cmp (table_stats_key q) (table_stats_key r)) ≡ true) (λ q low. lower_key q.table_id r.table_id (omega (arith, low, past, id))) left
          (all-all_removed table_stats_key (λ (q : TableStatsRow). q.table_id < next k) (map (λ (s : TableStatsRow). s.table_id ∷ []) olds) k.t.table_stats (stats_low k)))

  abbrev IsNew : CatRow → Type 0
  IsNew r = holds rest (key_of r) ≡ false

  added_new : AllByRecursion IsNew (batch_of (parts k)).adds
  added_new = (
    ap is_some snapshot_new,
    (
      ap is_some changes_new,
      all_append IsNew _ _ (all_mapped IsNew (λ r. row.Schema r) (parts k).schema (all_like (λ (r : SchemaRow). row_of schema_key (schema_key r) k.t.schema ≡ None) (λ (r : SchemaRow). IsNew (row.Schema r)) (λ r e. ap is_some e) (parts k).schema (news_lack schema_key (parts k).schema k.t.schema (parts_of-case k).schema.past)))
          (all_append IsNew _ _ (all_mapped IsNew (λ r. row.Table r) (parts k).table (all_like (λ (r : TableRow). row_of table_key (table_key r) k.t.table ≡ None) (λ (r : TableRow). IsNew (row.Table r)) (λ r e. ap is_some e) (parts k).table (news_lack table_key (parts k).table k.t.table (parts_of-case k).table.past)))
          (all_append IsNew _ _ (all_mapped IsNew (λ r. row.Column r) (parts k).column (all_like (λ (r : ColumnRow). row_of column_key (column_key r) k.t.column ≡ None) (λ (r : ColumnRow). IsNew (row.Column r)) (λ r e. ap is_some e) (parts k).column (news_lack column_key (parts k).column k.t.column (parts_of-case k).column.past)))
          (all_append IsNew _ _ (all_mapped IsNew (λ r. row.DataFile r) (parts k).data_file (all_like (λ (r : DataFileRow). row_of data_file_key (data_file_key r) k.t.data_file ≡ None) (λ (r : DataFileRow). IsNew (row.DataFile r)) (λ r e. ap is_some e) (parts k).data_file (news_lack data_file_key (parts k).data_file k.t.data_file (parts_of-case k).data_file.past)))
          (all_append IsNew _ _ (all_mapped IsNew (λ r. row.FileColumnStats r) (parts k).file_column_stats column_stats_new)
          (all_append IsNew _ [] (all_mapped IsNew (λ r. row.TableStats r) (parts k).table_stats (all_by (λ (r : TableStatsRow). IsNew (row.TableStats r)) (parts k).table_stats (λ r h. ap is_some (stats_new r h)))) tt))))),
    ),
  )

  -- ---- the whole

  fits : Fits k.t (batch_of (parts k))
  fits = record {
    removes_differ = removes_apart;
    ends_differ = asc_mapped (λ a b. a ≢ b) key_at (batch_of (parts k)).ends ends_apart.differ;
    adds_differ = asc_mapped (λ a b. a ≢ b) key_of (batch_of (parts k)).adds adds_apart.differ;
    removed_there = there;
    ended_open = opened;
    ended_stay = stay;
    added_new = subst (λ u. AllByRecursion (λ r. holds u (key_of r) ≡ false) (batch_of (parts k)).adds) (sym (removes-table_stats olds k.t)) added_new;
  }

pub batches-fit : BatchesFit
batches-fit = of-cases (λ t head p own. Fits t (batch_of p)) fits
