-- Files after a commit: each has its table, delete files go with theirs, and new ones are right by themselves.
use Rattle.std.proofs.Common.{◌≡◌, ◌≢◌, ◌⊎◌, inl, inr, ⊎_elim, ℕ, ◌+◌, ◌*◌, ◌<◌, ◌≤◌, Bool, true, false, cond, ◌||◌, ◌==◌, List, [], ◌∷◌, map, filter, length, sum_by, refl, sym, ap, ap₂, ◌∙◌, subst, arith, Option, Some, None, append-nil}
use Rattle.std.specs.Prelude.{nat_lt, option_and_then}
use Rattle.std.specs.List.{AllByRecursion, AllZip}
use Rattle.std.proofs.lemmas.Bool.{eqb-true, false_from_ne_true, le-ltb, ne_eqb, not-false, or_parts}
use Rattle.std.proofs.lemmas.List.Sums.{sum_by-cons}
use Rattle.lake_types.specs.Weights.{weight}
use Rattle.lake_types.specs.declared.sheet.SheetColumn.{SheetColumn}
use Rattle.lake_types.specs.declared.value.Column.{Column}
use Rattle.lake_types.specs.declared.value.Value.{Value}
use Rattle.lake_types.specs.declared.value.Value.TheVariants as value
use Rattle.lake_model.specs.Apply.{table_id}
use Rattle.lake_model.specs.Kinds.{drops_table}
use Rattle.lake_model.specs.Laws.{HasFieldIds, fields_of}
use Rattle.lake_model.specs.Core.{Version}
use Rattle.lake_model.specs.State.{Table}
use Rattle.lake_model.specs.declared.change.Ref.TheVariants as ref
use Rattle.lake_model.proofs.RiseLemmas.{all-below}
use Rattle.lake_rebase.proofs.MemberLemmas.{In, all_by, all_in, in_right, map_in}
use Rattle.sheet_rows.specs.Sheets.{data_weight, is_data}
use Rattle.cat_tables.specs.Table.{IsBelow, has_key, row_of}
use Rattle.cat_tables.proofs.KeyLemmas.{key_eq}
use Rattle.cat_tables.proofs.RowLemmas.{key-row_of}
use Rattle.cat_tables.proofs.SightLemmas.{same_key}
use Rattle.lake_rebase.specs.Tidy.{AreTidyColumns}
use Rattle.cat_rows.specs.Batches.{AllDiffer}
use Rattle.cat_rows.specs.Keys.{data_file_key, delete_file_key, table_key, table_stats_key}
use Rattle.cat_rows.specs.declared.files.DataFileRow.{DataFileRow}
use Rattle.cat_rows.specs.declared.files.DeleteFileRow.{DeleteFileRow}
use Rattle.cat_rows.specs.declared.files.TableStatsRow.{TableStatsRow}
use Rattle.cat_rows.specs.declared.schemas.TableRow.{TableRow}
use Rattle.cat_rules.specs.DataFileRule.{IsDataFileUnmatched, has_row_id_past, has_wrong_numbers}
use Rattle.cat_rules.specs.DeleteFileRule.{HaveOneFile, IsDeleteFileDiffering, IsDeleteFileUnmatched, IsSecondDeleteFile, differs_from}
use Rattle.cat_rules.specs.EachKept.{HasAlike, SeesTable}
use Rattle.cat_rules.specs.First.{Holds}
use Rattle.cat_rules.specs.Lookups.{HasRow, stats_of_table}
use Rattle.cat_rules.specs.Places.{of_data_file, of_delete_file}
use Rattle.cat_rules.specs.Rows.{NamesIf}
use Rattle.cat_stands.specs.LakeFacts.{HasIds}
use Rattle.cat_stands.specs.Stands.{HasCounters}
use Rattle.cat_view.specs.Files.{Filed, sheet_at}
use Rattle.cat_view.specs.Staged.{IsColumnOf, staged_for}
use Rattle.commit_rules.specs.Lawful.{AreDeletesRight, AreFilesRight, ArePathsNew, all_paths, new_paths}
use Rattle.commit_rules.proofs.HistoryLemmas.{first_number}
use Rattle.commit_rules.proofs.NextLemmas.{row_member, some_row}
use Rattle.rebase.specs.Parts.{FreshFile, file_row, file_rows_from, first_row, old_stats, restated, rows_in}
use Rattle.cat_view.specs.Typed.{IsTyped}
use Rattle.commit_laws.specs.Commits.{AreTyped}
use Rattle.commit_laws.proofs.AfterLemmas.{after, made_stats_after, old_stats_after, row_of_made, stats_of_made}
use Rattle.commit_laws.proofs.CaseLemmas.{Case, fresh, head, new, next, number, parts, seen}
use Rattle.commit_laws.proofs.ColumnLemmas.{at_head, made, made_tidy}
use Rattle.commit_laws.proofs.HolderLemmas.{Holder, NewHolder, OldHolder, holder}
use Rattle.commit_laws.proofs.ListLemmas.{all_mapped, all_unmapped, found, in_of_some, in_zip, next_cases, next_kept, next_new, some_in, Found}
use Rattle.commit_laws.proofs.MadeLemmas.{IsMade, fields_end, made_are}
use Rattle.commit_laws.proofs.SeenLemmas.{tables_seen, then}

pub some_is : {X : Type 0} (o : Option X) → (o ≡ None → ⊥) → (x : X) × (o ≡ Some x)
some_is None h = absurd (h refl)
some_is (Some x) h = (x, refl)

-- ---- the row of a file

module _ (k : Case) where
  abbrev pub row_of_file : ℕ → FreshFile → DataFileRow
  row_of_file = file_row k.t (number k + 1) (next k) (new k)

  pub record IsFileRow (r : DataFileRow) : Type 0 where
    pub id : ℕ
    pub file : FreshFile
    pub there : In file (fresh k)
    pub is : row_of_file id file ≡ r

  rows-of : (id : ℕ) (xs : List FreshFile) → ((x : FreshFile) → In x xs → In x (fresh k)) → (r : DataFileRow) → In r (file_rows_from k.t (number k + 1) (next k) (new k) id xs) → IsFileRow r
  rows-of id [] within r there = absurd there
  rows-of id (x ∷ xs) within r (inl e) = record { id = id; file = x; there = within x (inl refl); is = e }
  rows-of id (x ∷ xs) within r (inr there) = rows-of (id + 1) xs (λ y h. within y (inr h)) r there

  pub file-row : (r : DataFileRow) → In r (parts k).data_file → IsFileRow r
  file-row r there = rows-of k.c.sound.newest.next_file_id (fresh k) (λ x h. h) r there

  -- ---- the statistics of a file's table

  pub head_ids : HasIds (head k)
  head_ids =
      all_in (λ (v : Version). HasIds v.state) k.c.sound.head k.versions k.c.sound.ids
      (subst (In k.c.sound.head) (sym k.c.sound.versions_are) (in_right k.c.sound.head k.c.sound.older (k.c.sound.head ∷ []) (inl refl)))

  pub record HasStatsAfter (x : FreshFile) (columns : List Column) : Type 0 where
    pub stats : TableStatsRow
    pub is : stats_of_table (after k) (table_id (next k) (new k) x.table) ≡ Some stats
    pub rows : first_row (old_stats k.t x.table) + x.file.rows ≡ stats.next_row_id
    pub fields : AllByRecursion (λ (c : Column). c.field < stats.next_field_id) columns

  old-stats : (x : FreshFile) (columns : List Column) → In x (fresh k) → OldHolder k x columns → HasStatsAfter x columns
  old-stats x columns there h =
      let counters = all_in (HasCounters k.t) h.table (head k).tables k.c.sound.counters.tables h.there in
      let row = counters.row in
      let is : old_stats k.t x.table ≡ Some row = ap (old_stats k.t) h.at_is ∙ counters.there in
      let id : row.table_id ≡ h.table.id = first_number (key-row_of table_stats_key (h.table.id ∷ []) k.t.table_stats row counters.there) in
      let ids = all_in HasFieldIds h.table (head k).tables head_ids.fields h.there in
      record {
        stats = restated x.file row;
        is = ap (λ at. stats_of_table (after k) (table_id (next k) (new k) at)) h.at_is ∙ ap (stats_of_table (after k)) (sym id) ∙ old_stats_after k x row there is;
        rows = ap (λ o. first_row o + x.file.rows) is;
        fields = subst (AllByRecursion (λ (c : Column). c.field < row.next_field_id)) h.columns_are
            (subst (λ n. AllByRecursion (λ (c : Column). c.field < n) h.table.columns) counters.next_field (all_unmapped (λ n. n < h.table.next_field) (λ (c : Column). c.field) h.table.columns (all-below h.table.next_field (fields_of h.table.columns) ids.rise)));
      }

  new-stats : (x : FreshFile) (columns : List Column) → NewHolder k x columns → HasStatsAfter x columns
  new-stats x columns h =
      let m = all_in IsMade h.draft (made k) (made_are 0 k.own) h.there in
      let none : old_stats k.t x.table ≡ None = ap (old_stats k.t) (h.at_is ∙ m.at_is) in
      let file : rows_in (staged_for k.staged h.draft.at).fresh ≡ x.file.rows = ap rows_in h.file_is in
      let zero : first_row (old_stats k.t x.table) ≡ 0 = ap first_row none in
      record {
        stats = stats_of_made k h.draft;
        is = ap (λ at. stats_of_table (after k) (table_id (next k) (new k) at)) h.at_is ∙ made_stats_after k h.draft h.there;
        rows = omega (arith, zero, file);
        fields = subst (AllByRecursion (λ (c : Column). c.field < h.draft.next_field)) h.columns_are (fields_end h.draft m);
      }

  pub stats-after : (x : FreshFile) → In x (fresh k) → (h : Holder k x) → HasStatsAfter x h.columns
  stats-after x there h = ⊎_elim (λ old. old-stats x h.columns there old) (λ now. new-stats x h.columns now) h.of

  -- ---- each file has its table

  sees : (id : ℕ) (q : TableRow) → In q (then k).table → q.table_id ≡ id → SeesTable (then k) id
  sees id q there same = some_row table_key (id ∷ []) (then k).table (some_in (λ (r : TableRow). has_key table_key (id ∷ []) r ≡ true) q (then k).table there (subst (λ n. has_key table_key (n ∷ []) q ≡ true) same (same_key table_key q)))

  abbrev GoneTable : TableRow → Bool
  GoneTable r = drops_table k.own (ref.Old r.table_id)

  abbrev GoneFile : DataFileRow → Bool
  GoneFile r = drops_table k.own (ref.Old r.table_id)

  abbrev GoneDelete : DeleteFileRow → Bool
  GoneDelete r = drops_table k.own (ref.Old r.table_id)

  old_table : (r : DataFileRow) → In r (seen k).data_file → GoneFile r ≡ false → SeesTable (then k) r.table_id
  old_table r there stays =
      let q = some_is (row_of table_key (r.table_id ∷ []) (seen k).table)
      (λ none. at_head k (λ seen j. IsDataFileUnmatched k.t seen j ⊎ NamesIf of_data_file (has_wrong_numbers k.t) seen.data_file j) (λ j bad. k.c.sound.rules.1.1.1.1.1.1.0 j (inl bad)) _ (inl (some_in _ r (seen k).data_file there (none, refl)))) in
      let m = row_member table_key (r.table_id ∷ []) (seen k).table q.0 q.1 in
      let same : q.0.table_id ≡ r.table_id = first_number (key_eq (table_key q.0) (r.table_id ∷ []) m.1) in
      sees r.table_id q.0 (next_kept GoneTable (seen k).table (parts k).table q.0 (in_of_some q.0 (seen k).table m.0) (ap (λ n. drops_table k.own (ref.Old n)) same ∙ stays)) same

  table_of_file : (x : FreshFile) → In x (fresh k) → SeesTable (then k) (table_id (next k) (new k) x.table)
  table_of_file x there = let h = holder k x there in ⊎_elim (old h.columns) (now h.columns) h.of
    where
      old : (columns : List Column) → OldHolder k x columns → SeesTable (then k) (table_id (next k) (new k) x.table)
      old columns h =
          let q = in_zip _ h.table (seen k).table (head k).tables (tables_seen k) h.there in
          let id : q.item.table_id ≡ h.table.id = sym q.is.id in
          sees _ q.item (next_kept GoneTable (seen k).table (parts k).table q.item q.there (ap (λ n. drops_table k.own (ref.Old n)) id ∙ h.stays)) (id ∙ sym (ap (table_id (next k) (new k)) h.at_is))

      now : (columns : List Column) → NewHolder k x columns → SeesTable (then k) (table_id (next k) (new k) x.table)
      now columns h =
          sees _ (row_of_made k h.draft) (next_new GoneTable (seen k).table (parts k).table (row_of_made k h.draft) (map_in (row_of_made k) h.draft (made k) h.there)) (sym (ap (table_id (next k) (new k)) h.at_is))

  pub has_table : (r : DataFileRow) → In r (then k).data_file → SeesTable (then k) r.table_id
  has_table r there =
      ⊎_elim (λ old. old_table r old.0 old.1)
      (λ now. let m = file-row r now in subst (λ (q : DataFileRow). SeesTable (then k) q.table_id) m.is (table_of_file m.file m.there))
      (next_cases GoneFile (seen k).data_file (parts k).data_file r there)

  files_matched : Holds (IsDataFileUnmatched (after k) (then k))
  files_matched j bad =
      let r = found (λ (x : DataFileRow). (row_of table_key (x.table_id ∷ []) (then k).table ≡ None) × (_ ≡ j)) (then k).data_file bad in
      subst (λ o. HasRow o (λ (q : TableRow). Unit {0})) r.is.0 (has_table r.item r.there)

  -- ---- new files have right numbers

  value_weight : (v : Value) → 1 ≤ weight v
  value_weight value.Null = omega arith
  value_weight (value.Bool b) = omega arith
  value_weight (value.Int n) = omega arith
  value_weight (value.Text text) = omega arith
  value_weight (value.Bytes bytes) = omega arith
  value_weight (value.Date day) = omega arith

  values_weight : (vs : List Value) → length vs ≤ sum_by weight vs
  values_weight [] = omega arith
  values_weight (v ∷ vs) = let one = value_weight v in let more = values_weight vs in let sum = sum_by-cons weight v vs in omega (arith, one, more, sum)

  column-weight : (c : SheetColumn) → is_data c ≡ true → length c.cells ≤ data_weight c
  column-weight c data_is = let w = values_weight c.cells in rw data_is w

  columns_weight : (c : SheetColumn) (cs : List SheetColumn) → In c (filter is_data cs) → length c.cells ≤ sum_by data_weight cs
  columns_weight c [] there = absurd there
  columns_weight c (x ∷ cs) there = go (is_data x) refl there (columns_weight c cs)
    where
      go : (b : Bool) → is_data x ≡ b → In c (cond b (x ∷ filter is_data cs) (filter is_data cs)) → (In c (filter is_data cs) → length c.cells ≤ sum_by data_weight cs) → length c.cells ≤ sum_by data_weight (x ∷ cs)
      go true e (inl same) more =
          let w : length c.cells ≤ data_weight c = column-weight c (ap is_data (sym same) ∙ e) in let one : data_weight x ≡ data_weight c = ap data_weight same in let sum = sum_by-cons data_weight x cs in omega (arith, w, one, sum)
      go true e (inr later) more = let w = more later in let sum = sum_by-cons data_weight x cs in omega (arith, w, sum)
      go false e later more = let w = more later in let sum = sum_by-cons data_weight x cs in omega (arith, w, sum)

  -- what a staged file holds
  pub sheet_of : (x : FreshFile) (h : Holder k x) → sheet_at k.more x.file.name ≡ Some h.sheet
  sheet_of x h = ap (λ o. option_and_then (λ (f : Filed). f.sheet) o) h.staged.sealed.there ∙ h.staged.sealed.sheet_is

  heavy : (x : FreshFile) → In x (fresh k) → (h : Holder k x) → 1 ≤ length h.columns → 17 * x.file.rows ≤ x.file.weight
  heavy x there h some =
      let c = first h.columns some h.staged.columns_are in
      let typed = all_in (IsTyped h.sheet.rows) c.item (filter is_data h.sheet.columns) (all_in (AreTyped k.more) x (fresh k) k.c.typed there h.sheet (sheet_of x h)) c.there in
      let w = columns_weight c.item h.sheet.columns c.there in
      let count = typed.count in let rows = h.staged.rows in let whole = h.staged.weight in
      omega (arith, w, count, rows, whole)
    where
      first : (cs : List Column) → 1 ≤ length cs → AllZip IsColumnOf cs (filter is_data h.sheet.columns) → Found (λ (c : SheetColumn). Unit {0}) (filter is_data h.sheet.columns)
      first cs some zip = go cs (filter is_data h.sheet.columns) some zip
        where
          go : (cs : List Column) (ss : List SheetColumn) → 1 ≤ length cs → AllZip IsColumnOf cs ss → Found (λ (c : SheetColumn). Unit {0}) ss
          go [] ss some zip = absurd (omega (arith, some))
          go (c ∷ cs) [] some zip = absurd zip
          go (c ∷ cs) (s ∷ ss) some zip = record { item = s; there = inl refl; is = tt }

  some_columns : (x : FreshFile) (h : Holder k x) → 1 ≤ length h.columns
  some_columns x h = ⊎_elim
      (λ old. subst (λ cs. 1 ≤ length cs) old.columns_are (all_in (λ (y : Table). AreTidyColumns y.columns) old.table (head k).tables k.c.free.head_tidy.columns old.there).some)
      (λ now. subst (λ cs. 1 ≤ length cs) now.columns_are (made_tidy k now.draft now.there).some) h.of

  right_numbers : (r : DataFileRow) → In r (parts k).data_file → has_wrong_numbers (after k) r ≡ false
  right_numbers r there =
      let m = file-row r there in
      let h = holder k m.file m.there in
      let s = stats-after m.file m.there h in
      let some = h.staged.some in let few = h.staged.few in
      let heavy_is = heavy m.file m.there h (some_columns m.file h) in
      let rows = s.rows in
      let a : (m.file.file.rows == 0) ≡ false = ne_eqb m.file.file.rows 0 (λ zero. omega (arith, zero, some)) in
      let b : nat_lt 4194304 m.file.file.rows ≡ false = le-ltb 4194304 m.file.file.rows (omega (arith, few)) in
      let c : nat_lt m.file.file.weight (17 * m.file.file.rows) ≡ false = le-ltb m.file.file.weight (17 * m.file.file.rows) heavy_is in
      let d : has_row_id_past (stats_of_table (after k) (table_id (next k) (new k) m.file.table)) (Some (first_row (old_stats k.t m.file.table))) m.file.file.rows ≡ false =
      ap (λ o. has_row_id_past o (Some (first_row (old_stats k.t m.file.table))) m.file.file.rows) s.is ∙ le-ltb s.stats.next_row_id (first_row (old_stats k.t m.file.table) + m.file.file.rows) (omega (arith, rows)) in
      subst (λ (q : DataFileRow). has_wrong_numbers (after k) q ≡ false) m.is (ap₂ ◌||◌ a (ap₂ ◌||◌ b (ap₂ ◌||◌ c d)))

  pub files_right : AreFilesRight k.t (parts k) (then k)
  files_right = record { tables = files_matched; new = all_by (λ (r : DataFileRow). has_wrong_numbers (after k) r ≡ false) (parts k).data_file right_numbers }

  -- ---- paths

  paths_are : (id : ℕ) (xs : List FreshFile) → map (λ (r : DataFileRow). r.path) (file_rows_from k.t (number k + 1) (next k) (new k) id xs) ≡ map (λ (x : FreshFile). x.file.name) xs
  paths_are id [] = refl
  paths_are id (x ∷ xs) = ap (λ l. x.file.name ∷ l) (paths_are (id + 1) xs)

  new_paths_are : new_paths (parts k) ≡ map (λ (x : FreshFile). x.file.name) (fresh k)
  new_paths_are = append-nil _ ∙ paths_are k.c.sound.newest.next_file_id (fresh k)

  pub paths_new : ArePathsNew k.t (parts k)
  paths_new = record {
    short = subst (AllByRecursion (λ (path : List ℕ). length path ≤ 200)) (sym new_paths_are)
        (all_mapped (λ (path : List ℕ). length path ≤ 200) (λ (x : FreshFile). x.file.name) (fresh k) (all_by (λ (x : FreshFile). length x.file.name ≤ 200) (fresh k) (λ x there. let short = (holder k x there).staged.sealed.short in omega (arith, short))));
    differ = subst AllDiffer (sym new_paths_are) k.c.differ;
    unused = subst (AllByRecursion (λ path. AllByRecursion (λ used. used ≢ path) (all_paths k.t))) (sym new_paths_are) (all_mapped (λ path. AllByRecursion (λ used. used ≢ path) (all_paths k.t)) (λ (x : FreshFile). x.file.name) (fresh k) k.c.unused);
  }

  -- ---- delete files

  delete_then : (d : DeleteFileRow) → In d (then k).delete_file → In d (seen k).delete_file × (GoneDelete d ≡ false)
  delete_then d there = ⊎_elim (λ old. old) (λ none. absurd none) (next_cases GoneDelete (seen k).delete_file [] d there)

  deletes_matched : Holds (IsDeleteFileUnmatched (after k) (then k))
  deletes_matched j bad =
      let d = found (λ (x : DeleteFileRow). (row_of data_file_key (x.data_file_id ∷ []) (then k).data_file ≡ None) × (_ ≡ j)) (then k).delete_file bad in
      let old = delete_then d.item d.there in
      let f = some_is (row_of data_file_key (d.item.data_file_id ∷ []) (seen k).data_file) (λ none. wrong _ (inl (some_in _ d.item (seen k).delete_file old.0 (none, refl)))) in
      let m = row_member data_file_key (d.item.data_file_id ∷ []) (seen k).data_file f.0 f.1 in
      let goes_with : differs_from (Some f.0) d.item ≡ false =
      false_from_ne_true (differs_from (Some f.0) d.item) (λ e. wrong (of_delete_file d.item) (inr (some_in _ d.item (seen k).delete_file old.0 (ap (λ o. differs_from o d.item) f.1 ∙ e, refl)))) in
      let table : d.item.table_id ≡ f.0.table_id = eqb-true d.item.table_id f.0.table_id (not-false (d.item.table_id == f.0.table_id) (or_parts _ _ goes_with).0) in
      let there = next_kept GoneFile (seen k).data_file (parts k).data_file f.0 (in_of_some f.0 (seen k).data_file m.0) (ap (λ n. drops_table k.own (ref.Old n)) (sym table) ∙ old.1) in
      subst (λ o. HasRow o (λ (q : DataFileRow). Unit {0})) d.is.0
      (some_row data_file_key (d.item.data_file_id ∷ []) (then k).data_file (some_in (λ (r : DataFileRow). has_key data_file_key (d.item.data_file_id ∷ []) r ≡ true) f.0 (then k).data_file there m.1))
    where
      wrong : Holds (λ i. IsDeleteFileUnmatched k.t (seen k) i ⊎ IsDeleteFileDiffering (seen k) i)
      wrong = at_head k (λ seen i. IsDeleteFileUnmatched k.t seen i ⊎ IsDeleteFileDiffering seen i) (λ i h. k.c.sound.rules.1.1.1.1.1.1.1.0 i (inl h))

  deletes_single : Holds (IsSecondDeleteFile (then k))
  deletes_single j bad =
      let d = found (λ (x : DeleteFileRow). HasAlike HaveOneFile delete_file_key (then k).delete_file x × (of_delete_file x ≡ j)) (then k).delete_file bad in
      let e = found (λ (x : DeleteFileRow). IsBelow delete_file_key x d.item × HaveOneFile x d.item) (then k).delete_file d.is.0 in
      at_head k IsSecondDeleteFile (λ i h. k.c.sound.rules.1.1.1.1.1.1.1.0 i (inr h)) j
      (some_in (λ (x : DeleteFileRow). HasAlike HaveOneFile delete_file_key (seen k).delete_file x × (of_delete_file x ≡ j)) d.item (seen k).delete_file (delete_then d.item d.there).0
      (some_in (λ (x : DeleteFileRow). IsBelow delete_file_key x d.item × HaveOneFile x d.item) e.item (seen k).delete_file (delete_then e.item e.there).0 e.is, d.is.1))

  pub deletes_right : AreDeletesRight k.t (parts k) (then k)
  deletes_right = record { files = deletes_matched; single = deletes_single; new = tt }
