-- The rules about data files and delete files, but for paths, after a commit.
use Rattle.std.proofs.Common.{◌≡◌, ℕ, ◌<◌, ◌≤◌, ◌⊎◌, inl, inr, true, ◌||◌, [], ◌∷◌, refl, sym, ap, ap₂, arith, ◌∙◌, subst, Option, Some, None, true≢false, false, ⊎_elim}
use Rattle.std.specs.Prelude.{◌*◌, ◌==◌, nat_lt}
use Rattle.std.specs.List.{AllByRecursion}
use Rattle.std.proofs.lemmas.Bool.{false_from_ne_true, or_parts, or_right}
use Rattle.cat_tables.specs.Table.{row_of}
use Rattle.cat_tables.specs.Validity.{is_visible}
use Rattle.cat_rows.specs.Batches.{holds}
use Rattle.cat_rows.specs.Keys.{data_file_key, table_key}
use Rattle.cat_rows.specs.Parts.{Endings, Parts}
use Rattle.cat_rows.specs.Seen.{Seen, seen_at}
use Rattle.cat_rows.specs.Tables.{Tables}
use Rattle.cat_rows.specs.Validities.{data_file_laws, data_file_validity, delete_file_validity}
use Rattle.cat_tables.proofs.KeyLemmas.{key_eq}
use Rattle.cat_rows.specs.declared.batch.Key.{Key}
use Rattle.cat_rows.specs.declared.batch.Key.TheVariants as key
use Rattle.cat_rows.specs.declared.files.DataFileRow.{DataFileRow}
use Rattle.cat_rows.specs.declared.files.DeleteFileRow.{DeleteFileRow}
use Rattle.cat_rows.specs.declared.history.SnapshotRow.{SnapshotRow}
use Rattle.cat_rules.specs.DataFileRule.{IsDataFileBad, IsDataFileUnmatched, IsDataFileWrong, has_row_id_past, has_wrong_numbers, table_id_of}
use Rattle.cat_rules.specs.DeleteFileRule.{IsDeleteFileBad, IsDeleteFileDiffering, IsDeleteFileUnmatched, IsSecondDeleteFile, data_file_of, differs_from, file_id_of}
use Rattle.cat_rules.specs.EachKept.{SeesTable, missing_or_own}
use Rattle.cat_rules.specs.First.{Holds}
use Rattle.cat_rules.specs.Kept.{IsKept}
use Rattle.cat_rules.specs.Lookups.{HasRow, stats_of_table, table_of}
use Rattle.cat_rules.specs.CounterRule.{is_not_past}
use Rattle.cat_rules.specs.Places.{of_data_file, of_delete_file}
use Rattle.cat_rules.specs.Rows.{NamesIf}
use Rattle.cat_rules.proofs.DatedLemmas.{all_fine, dated_data_files}
use Rattle.cat_rules.proofs.FirstLemmas.{all_like}
use Rattle.cat_rules.proofs.LawLemmas.{names-alike, row_ids-stay}
use Rattle.cat_rules.proofs.SeenLemmas.{some_visible}
use Rattle.cat_rules.proofs.SightLemmas.{IsDated, is_seen}
use Rattle.commit_rules.specs.Lawful.{is_unlike, seen_then}
use Rattle.commit_rules.specs.Laws.{RuleStays}
use Rattle.commit_rules.proofs.CoreLemmas.{IsCommit, after, after-commit, rule_stays}
use Rattle.commit_rules.proofs.HistoryLemmas.{first_number, holds-all}
use Rattle.commit_rules.proofs.CounterLemmas.{counted_before}
use Rattle.commit_rules.proofs.NextLemmas.{all_next, all_visible, at_head, member_row, next_member, row_member}
use Rattle.commit_rules.proofs.StatsLemmas.{below, grow, seen_there}
use Rattle.commit_rules.proofs.TableLemmas.{In, all_by, all_in, found, in_some}

abbrev pub IsFileWrong : Tables → Seen → Key → Type 0
IsFileWrong t seen k = IsDataFileUnmatched t seen k ⊎ NamesIf of_data_file (has_wrong_numbers t) seen.data_file k

abbrev Deletes : Tables → Seen → Key → Type 0
Deletes t seen k = IsDeleteFileUnmatched t seen k ⊎ IsDeleteFileDiffering seen k

not_none : {R : Type 0} (o : Option R) → (o ≡ None → ⊥) → HasRow o (λ r. Unit {0})
not_none None h = absurd (h refl)
not_none (Some r) h = tt

module _ (t : Tables) (head : SnapshotRow) (p : Parts) (endings : Endings) (c : IsCommit t head p endings) where
  abbrev u : Tables
  u = after t head p endings c

  old : Holds (IsDataFileBad t)
  old = c.sane.1.1.1.1.1.1.0

  -- ---- data files

  -- the table of a file that a snapshot sees is seen
  pub has_table : (seen : Seen) → ((k : Key) → IsFileWrong t seen k → ⊥) → AllByRecursion (λ (r : DataFileRow). SeesTable seen r.table_id) seen.data_file
  has_table seen h =
      all_like (λ (r : DataFileRow). row_of table_key (r.table_id ∷ []) seen.table ≡ None → ⊥) (λ (r : DataFileRow). SeesTable seen r.table_id) (λ r fine. not_none (row_of table_key (r.table_id ∷ []) seen.table) fine) seen.data_file
      (all_fine (missing_or_own (λ (r : DataFileRow). table_of t r.table_id) table_id_of of_data_file) (λ (r : DataFileRow). row_of table_key (r.table_id ∷ []) seen.table ≡ None) seen.data_file (λ k x. h k (inl x)))

  numbers_still : (r : DataFileRow) → holds t (key.Table r.table_id) ≡ true → (has_wrong_numbers t r ≡ true → ⊥) → has_wrong_numbers u r ≡ true → ⊥
  numbers_still r there fine bad =
      let none = r.record_count == 0 in
      let many = nat_lt 4194304 r.record_count in
      let light = nat_lt r.weight (17 * r.record_count) in
      let past = has_row_id_past (stats_of_table t r.table_id) r.row_id_start r.record_count in
      let one = or_parts none (many || (light || past)) (false_from_ne_true (has_wrong_numbers t r) fine) in
      let two = or_parts many (light || past) one.1 in
      let three = or_parts light past two.1 in
      true≢false (sym bad ∙ ap₂ ◌||◌ one.0 (ap₂ ◌||◌ two.0 (ap₂ ◌||◌ three.0 (row_ids-stay (stats_of_table t r.table_id) (stats_of_table u r.table_id) r.row_id_start r.record_count (grow t head p endings c r.table_id there) three.1))))

  files_still : (s : ℕ) → IsKept t s → Holds (IsFileWrong t (seen_at s t)) → Holds (IsFileWrong u (seen_at s t))
  files_still s kept h k (inl bad) =
      names-alike (missing_or_own (λ (r : DataFileRow). table_of t r.table_id) table_id_of of_data_file) (missing_or_own (λ (r : DataFileRow). table_of u r.table_id) table_id_of of_data_file)
      (λ (r : DataFileRow). row_of table_key (r.table_id ∷ []) (seen_at s t).table ≡ None) (seen_at s t).data_file (λ j x. h j (inl x)) k bad
  files_still s kept h k (inr bad) =
      holds-all of_data_file (λ (r : DataFileRow). has_wrong_numbers u r ≡ true) (seen_at s t).data_file
      (all_by (λ (r : DataFileRow). has_wrong_numbers u r ≡ true → ⊥) (seen_at s t).data_file
      (λ r there. numbers_still r (seen_there t head p endings c s r.table_id (all_in (λ (q : DataFileRow). SeesTable (seen_at s t) q.table_id) r (seen_at s t).data_file (has_table (seen_at s t) h) there))
      (all_in (λ (q : DataFileRow). has_wrong_numbers t q ≡ true → ⊥) r (seen_at s t).data_file (all_fine of_data_file (λ (q : DataFileRow). has_wrong_numbers t q ≡ true) (seen_at s t).data_file (λ j x. h j (inr x))) there))) k bad

  abbrev before : Seen
  before = seen_at head.snapshot_id t

  abbrev now : Seen
  now = seen_then t head p endings

  -- a file that was seen has right numbers still
  file_seen : (r : DataFileRow) → In r before.data_file → has_wrong_numbers u r ≡ true → ⊥
  file_seen r there =
      let right = at_head t head p endings c IsFileWrong (λ k x. old k (inl x)) in
      numbers_still r (seen_there t head p endings c head.snapshot_id r.table_id (all_in (λ (q : DataFileRow). SeesTable before q.table_id) r before.data_file (has_table before right) there))
      (all_in (λ (q : DataFileRow). has_wrong_numbers t q ≡ true → ⊥) r before.data_file (all_fine of_data_file (λ (q : DataFileRow). has_wrong_numbers t q ≡ true) before.data_file (λ k x. right k (inr x))) there)

  files_now : Holds (IsFileWrong u now)
  files_now k (inl bad) = c.lawful.data_files.tables k bad
  files_now k (inr bad) =
      holds-all of_data_file (λ (r : DataFileRow). has_wrong_numbers u r ≡ true) now.data_file
      (all_next (λ (r : DataFileRow). has_wrong_numbers u r ≡ true → ⊥) _ before.data_file p.data_file (all_by (λ (r : DataFileRow). has_wrong_numbers u r ≡ true → ⊥) before.data_file file_seen)
      (all_like (λ (r : DataFileRow). has_wrong_numbers u r ≡ false) (λ (r : DataFileRow). has_wrong_numbers u r ≡ true → ⊥) (λ r fine wrong. true≢false (sym wrong ∙ fine)) p.data_file c.lawful.data_files.new)) k bad

  pub data_files_after : Holds (IsDataFileWrong u)
  data_files_after = rule_stays t head p endings c IsFileWrong files_still (λ k x. old k (inl x)) files_now

  -- ---- the table of each data file is there, as a kept snapshot sees the file

  wrong_at : (s : ℕ) → IsKept t s → Holds (IsFileWrong t (seen_at s t))
  wrong_at s kept k bad = let q = found (λ (x : SnapshotRow). x.snapshot_id ≡ s) t.snapshot kept in old k (inl (in_some (λ (x : SnapshotRow). IsFileWrong t (seen_at x.snapshot_id t) k) q.item t.snapshot q.there (subst (λ n. IsFileWrong t (seen_at n t) k) (sym q.is) bad)))

  pub table_there : AllByRecursion (λ (f : DataFileRow). holds t (key.Table f.table_id) ≡ true) t.data_file
  table_there = all_by (λ (f : DataFileRow). holds t (key.Table f.table_id) ≡ true) t.data_file one
    where
      one : (f : DataFileRow) → In f t.data_file → holds t (key.Table f.table_id) ≡ true
      one f there =
          let dated = all_in (IsDated t data_file_validity) f t.data_file (dated_data_files t c.sane.1.1.0) there in
          let q = found (λ (x : SnapshotRow). is_visible data_file_validity x.snapshot_id f ≡ true) t.snapshot (is_seen t c.is_head.rises (λ k x. c.sane.1.0 k (inl (inl x))) data_file_validity f dated) in
          let s = q.item.snapshot_id in
          let sees = not_none (row_of table_key (f.table_id ∷ []) (seen_at s t).table) (λ none. wrong_at s (in_some (λ (x : SnapshotRow). x.snapshot_id ≡ s) q.item t.snapshot q.there refl) (named (data_file_validity.with_end None f))
          (inl (some_visible data_file_validity s (λ (r : DataFileRow). (row_of table_key (r.table_id ∷ []) (seen_at s t).table ≡ None) × (named r ≡ named (data_file_validity.with_end None f))) t.data_file
          (in_some (λ (r : DataFileRow). (is_visible data_file_validity s r ≡ true) × ((row_of table_key (r.table_id ∷ []) (seen_at s t).table ≡ None) × (named (data_file_validity.with_end None r) ≡ named (data_file_validity.with_end None f)))) f t.data_file there (q.is, (none, refl)))))) in
          seen_there t head p endings c s f.table_id sees
        where
          named : DataFileRow → Key
          named = missing_or_own (λ (r : DataFileRow). table_of t r.table_id) table_id_of of_data_file

  -- ---- delete files

  deletes_still : (s : ℕ) → IsKept t s → Holds (Deletes t (seen_at s t)) → Holds (Deletes u (seen_at s t))
  deletes_still s kept h k (inl bad) =
      names-alike (missing_or_own (data_file_of t) file_id_of of_delete_file) (missing_or_own (data_file_of u) file_id_of of_delete_file)
      (λ (r : DeleteFileRow). row_of data_file_key (r.data_file_id ∷ []) (seen_at s t).data_file ≡ None) (seen_at s t).delete_file (λ j x. h j (inl x)) k bad
  deletes_still s kept h k (inr bad) = h k (inr bad)

  deletes_below : AllByRecursion (λ (r : DeleteFileRow). r.data_file_id < head.next_file_id) t.delete_file
  deletes_below =
      all_like Counted (λ (r : DeleteFileRow). r.data_file_id < head.next_file_id)
      (λ r fine. below head.next_file_id r.data_file_id (λ e. fine (or_right (is_not_past head.next_file_id r.delete_file_id) _ (ap (λ b. b || is_not_past head.next_catalog_id r.table_id) e)))) t.delete_file
      (all_fine of_delete_file (λ (r : DeleteFileRow). (is_not_past head.next_file_id r.delete_file_id || (is_not_past head.next_file_id r.data_file_id || is_not_past head.next_catalog_id r.table_id)) ≡ true) t.delete_file
      (λ k h. counted_before t head p endings c k (inr (inr (inr (inr (inr (inl h))))))))
    where
      Counted : DeleteFileRow → Type 0
      Counted r = (is_not_past head.next_file_id r.delete_file_id || (is_not_past head.next_file_id r.data_file_id || is_not_past head.next_catalog_id r.table_id)) ≡ true → ⊥

  -- a data file of an old id that is seen was seen
  file_seen_still : (id : ℕ) (f : DataFileRow) → id < head.next_file_id → row_of data_file_key (id ∷ []) now.data_file ≡ Some f → row_of data_file_key (id ∷ []) before.data_file ≡ Some f
  file_seen_still id f low found_now =
      let m = row_member data_file_key (id ∷ []) now.data_file f found_now in
      ⊎_elim (λ kept. member_row data_file_key data_file_validity data_file_laws head.snapshot_id t.data_file c.parts.settled.data_file.rises (id ∷ []) f kept m.1)
      (λ new.
      let same : f.data_file_id ≡ id = first_number (key_eq (data_file_key f) (id ∷ []) m.1) in
      let past = all_in (λ (r : DataFileRow). head.next_file_id ≤ r.data_file_id) f p.data_file c.lawful.counters.data_files new in
      absurd (omega (arith, same, past, low)))
      (next_member _ before.data_file p.data_file f m.0)

  unlike_still : (r : DeleteFileRow) (now_file before_file : Option DataFileRow) → ((f : DataFileRow) → now_file ≡ Some f → before_file ≡ Some f) → (differs_from before_file r ≡ true → ⊥) → differs_from now_file r ≡ true → ⊥
  unlike_still r None before_file same fine bad = true≢false (sym bad)
  unlike_still r (Some f) before_file same fine bad = fine (ap (λ o. differs_from o r) (same f refl) ∙ bad)

  delete_seen : (r : DeleteFileRow) → In r before.delete_file → is_unlike now r ≡ true → ⊥
  delete_seen r there =
      let low = all_in (λ (q : DeleteFileRow). q.data_file_id < head.next_file_id) r before.delete_file (all_visible delete_file_validity (λ (q : DeleteFileRow). q.data_file_id < head.next_file_id) (λ q h. h) head.snapshot_id t.delete_file deletes_below) there in
      unlike_still r (row_of data_file_key (r.data_file_id ∷ []) now.data_file) (row_of data_file_key (r.data_file_id ∷ []) before.data_file) (λ f. file_seen_still r.data_file_id f low)
      (all_in (λ (q : DeleteFileRow). is_unlike before q ≡ true → ⊥) r before.delete_file
      (all_fine of_delete_file (λ (q : DeleteFileRow). is_unlike before q ≡ true) before.delete_file (λ k x. at_head t head p endings c Deletes (λ j y. c.sane.1.1.1.1.1.1.1.0 j (inl y)) k (inr x))) there)

  deletes_now : Holds (Deletes u now)
  deletes_now k (inl bad) = c.lawful.delete_files.files k bad
  deletes_now k (inr bad) =
      holds-all of_delete_file (λ (r : DeleteFileRow). is_unlike now r ≡ true) now.delete_file
      (all_next (λ (r : DeleteFileRow). is_unlike now r ≡ true → ⊥) _ before.delete_file p.delete_file (all_by (λ (r : DeleteFileRow). is_unlike now r ≡ true → ⊥) before.delete_file delete_seen)
      (all_like (λ (r : DeleteFileRow). is_unlike now r ≡ false) (λ (r : DeleteFileRow). is_unlike now r ≡ true → ⊥) (λ r fine wrong. true≢false (sym wrong ∙ fine)) p.delete_file c.lawful.delete_files.new)) k bad

  delete_files_after : Holds (IsDeleteFileBad u)
  delete_files_after k (inl bad) = rule_stays t head p endings c Deletes deletes_still (λ j x. c.sane.1.1.1.1.1.1.1.0 j (inl x)) deletes_now k bad
  delete_files_after k (inr bad) = rule_stays t head p endings c (λ _. IsSecondDeleteFile) (λ s kept h. h) (λ j x. c.sane.1.1.1.1.1.1.1.0 j (inr x)) c.lawful.delete_files.single k bad

pub delete_files-stay : RuleStays IsDeleteFileBad
delete_files-stay = after-commit (λ (u : Tables). Holds (IsDeleteFileBad u)) delete_files_after
