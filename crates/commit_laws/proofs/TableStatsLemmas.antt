-- The statistics of tables after a commit: each table that is made has its own, and counters only grow, to their last values at most.
use Rattle.std.proofs.Common.{◌≡◌, inr, ⊎_elim, ℕ, ◌+◌, ◌<◌, ◌≤◌, true, false, ◌||◌, ◌==◌, List, [], ◌∷◌, ◌++◌, map, length, refl, sym, ap, ap₂, ◌∙◌, subst, arith, Option, Some, None, true≢false}
use Rattle.std.specs.Prelude.{IfSome, find, min, nat_lt, option_map}
use Rattle.std.specs.List.{AllByRecursion, AllZip}
use Rattle.std.proofs.lemmas.Bool.{and_from, eq-eqb, eqb-true, false_from_ne_true, le-ltb, or_parts}
use Rattle.std.proofs.lemmas.Option.{same_Some}
use Rattle.std.proofs.lemmas.List.{length-map}
use Rattle.lake_types.specs.declared.limits.TheConstants.{MAX_COUNTER, MAX_FILE_ROWS}
use Rattle.lake_types.specs.declared.value.Column.{Column}
use Rattle.lake_types.specs.declared.value.Row.{Row}
use Rattle.lake_model.specs.Apply.{Cells, Draft, fields_from}
use Rattle.lake_model.specs.Core.{Version}
use Rattle.lake_model.specs.Laws.{HasRowIds, RiseBelow}
use Rattle.lake_model.specs.State.{Table}
use Rattle.lake_rebase.proofs.MakeLemmas.{tables-of-made}
use Rattle.lake_rebase.proofs.MemberLemmas.{In, all_by, all_in, found_in, in_left, in_right, map_in, none_in, one_of_id}
use Rattle.cat_tables.specs.Table.{has_key, row_of}
use Rattle.cat_tables.proofs.RowLemmas.{key-row_of}
use Rattle.cat_tables.proofs.SightLemmas.{same_key}
use Rattle.cat_rows.specs.Batches.{holds}
use Rattle.cat_rows.specs.Keys.{table_key, table_stats_key}
use Rattle.cat_rows.specs.Validities.{table_validity}
use Rattle.cat_rows.specs.declared.batch.Key.TheVariants as key
use Rattle.cat_rows.specs.declared.files.TableStatsRow.{TableStatsRow}
use Rattle.cat_rows.specs.declared.history.SnapshotRow.{SnapshotRow}
use Rattle.cat_rows.specs.declared.schemas.TableRow.{TableRow}
use Rattle.cat_rules.specs.Lookups.{stats_of_table}
use Rattle.cat_rules.specs.Places.{of_table_stats}
use Rattle.cat_rules.specs.TableStatsRule.{are_stats_large, has_large_counter, last_field, last_id}
use Rattle.cat_rules.proofs.DatedLemmas.{all_fine, row_of_all}
use Rattle.cat_rules.proofs.FirstLemmas.{all_like}
use Rattle.cat_rules.proofs.SeenLemmas.{visible_some}
use Rattle.cat_stands.specs.Stands.{HasCounters, IsCounted, IsCountedLast, last_with, later_or, states_at}
use Rattle.cat_view.specs.Sight.{stats_row}
use Rattle.cat_view.specs.Staged.{IsStagedTable, MayHoldCells, NamedStagedFile, staged_for}
use Rattle.commit_rules.specs.Lawful.{AreStated, IsGrown, IsStated}
use Rattle.commit_rules.proofs.HistoryLemmas.{first_number}
use Rattle.commit_rules.proofs.NextLemmas.{row_member, some_row}
use Rattle.commit_rules.proofs.StatsLemmas.{has_some}
use Rattle.rebase.specs.Parts.{FreshFile, first_row, old_stats, restated, restated_of, rows_in}
use Rattle.commit_laws.proofs.AfterLemmas.{IsRestated, made_new, old_stats_id, row_of_made, stats_cases, stats_low, stats_of_made}
use Rattle.commit_laws.proofs.CaseLemmas.{Case, fresh, head, newest, next, number, parts, seen}
use Rattle.commit_laws.proofs.ColumnLemmas.{made, made_tidy}
use Rattle.commit_laws.proofs.FileLemmas.{head_ids}
use Rattle.commit_laws.proofs.HolderLemmas.{NewHolder, OldHolder, holder}
use Rattle.commit_laws.proofs.ListLemmas.{Found, all_mapped, found, in_of_some, in_picked, in_zip, picked_in, some_in}
use Rattle.commit_laws.proofs.MadeLemmas.{IsMade, made_are}
use Rattle.commit_laws.proofs.SeenLemmas.{IsState, tables_seen}

-- ---- the last state that has a table

last-state : (P : SnapshotRow → Version → Type 0) (id : ℕ) (x : Table) (rows : List SnapshotRow) (r : SnapshotRow) (vs : List Version) (v : Version) → AllZip P (rows ++ r ∷ []) (vs ++ v ∷ [])
    → find (λ (table : Table). table.id == id) v.state.tables ≡ Some x → last_with id (states_at (rows ++ r ∷ []) (vs ++ v ∷ [])) ≡ Some (r.snapshot_id, x)
last-state P id x [] r [] v h e = ap (option_map (λ (table : Table). (r.snapshot_id, table))) e
last-state P id x [] r (w ∷ []) v h e = absurd h.1
last-state P id x [] r (w ∷ u ∷ vs) v h e = absurd h.1
last-state P id x (q ∷ []) r [] v h e = absurd h.1
last-state P id x (q ∷ p ∷ rows) r [] v h e = absurd h.1
last-state P id x (q ∷ rows) r (w ∷ vs) v h e = ap (λ o. later_or o (option_map (λ (table : Table). (q.snapshot_id, table)) (find (λ (table : Table). table.id == id) w.state.tables))) (last-state P id x rows r vs v h.1 e)

rise_length : (limit low : ℕ) (xs : List ℕ) → RiseBelow limit xs → AllByRecursion (λ x. low ≤ x) xs → low ≤ limit → low + length xs ≤ limit
rise_length limit low [] up past le = omega (arith, le)
rise_length limit low (x ∷ xs) up past le =
    let more = rise_length limit (x + 1) xs up.2 (all_like (λ y. x < y) (λ y. x + 1 ≤ y) (λ y lt. omega (arith, lt)) xs up.1) (omega (arith, up.0)) in
    omega (arith, more, past.0)

fields_length : (field : ℕ) (cs : List Column) → length (fields_from field cs) ≡ length cs
fields_length field [] = refl
fields_length field (c ∷ cs) = let more = fields_length (field + 1) cs in omega (arith, more)

all_zero : (xs : List ℕ) → AllByRecursion (λ x. 0 ≤ x) xs
all_zero [] = tt
all_zero (x ∷ xs) = (omega arith, all_zero xs)

module _ (k : Case) where
  -- ---- an old table's statistics

  pub record IsOldStats (x : FreshFile) (q : TableStatsRow) : Type 0 where
    pub counts : q.record_count ≤ q.next_row_id
    pub small : has_large_counter q ≡ false

  found_table : (h : Table) → In h (head k).tables → find (λ (table : Table). table.id == h.id) (head k).tables ≡ Some h
  found_table h there = go (find (λ (table : Table). table.id == h.id) (head k).tables) refl
    where
      go : (o : Option Table) → find (λ (table : Table). table.id == h.id) (head k).tables ≡ o → o ≡ Some h
      go None e = absurd (true≢false (sym (eq-eqb h.id h.id refl) ∙ none_in (λ (table : Table). table.id == h.id) h (head k).tables e there))
      go (Some y) e =
          let m = found_in (λ (table : Table). table.id == h.id) y (head k).tables e in
          ap Some (one_of_id (λ (table : Table). table.id) (head k).next_catalog y h (head k).tables (head_ids k).catalog.tables m.0 there (eqb-true y.id h.id m.1))

  -- a table of the head has its row
  table-row : (h : Table) → In h (head k).tables → Found (λ (r : TableRow). r.table_id ≡ h.id) k.t.table
  table-row h there =
      let q = in_zip _ h (seen k).table (head k).tables (tables_seen k) there in
      let m = found _ k.t.table (visible_some table_validity (number k) (λ (r : TableRow). r ≡ q.item) k.t.table (some_in (λ (r : TableRow). r ≡ q.item) q.item (seen k).table q.there refl)) in
      record { item = m.item; there = m.there; is = ap (λ (r : TableRow). r.table_id) m.is.1 ∙ sym q.is.id }

  counted_last : (h : Table) → In h (head k).tables → IsCounted k.t (number k, h)
  counted_last h there =
      let r = table-row h there in
      let zip = subst (λ rows. AllZip (IsState k) rows (k.c.sound.older ++ k.c.sound.head ∷ [])) k.c.sound.snapshots (subst (AllZip (IsState k) k.t.snapshot) k.c.sound.versions_are k.c.sound.plain) in
      let last = last-state (IsState k) h.id h k.c.sound.before (newest k) k.c.sound.older k.c.sound.head zip (found_table h there) in
      let states : last_with r.item.table_id (states_at k.t.snapshot k.versions) ≡ Some (number k, h) =
      ap₂ (λ (rows : List SnapshotRow) vs. last_with r.item.table_id (states_at rows vs)) k.c.sound.snapshots k.c.sound.versions_are ∙ ap (λ n. last_with n (states_at (k.c.sound.before ++ newest k ∷ []) (k.c.sound.older ++ k.c.sound.head ∷ []))) r.is ∙ last in
      subst (λ o. IfSome o (IsCounted k.t)) states (all_in (IsCountedLast k.t k.versions) r.item k.t.table k.c.sound.counted r.there)

  table_holds : (h : Table) → In h (head k).tables → holds k.t (key.Table h.id) ≡ true
  table_holds h there =
      let r = table-row h there in
      has_some (row_of table_key (h.id ∷ []) k.t.table) (λ q. Unit {0}) (some_row table_key (h.id ∷ []) k.t.table (some_in (λ (q : TableRow). has_key table_key (h.id ∷ []) q ≡ true) r.item k.t.table r.there (subst (λ n. has_key table_key (n ∷ []) r.item ≡ true) r.is (same_key table_key r.item))))

  old_is : (x : FreshFile) (q : TableStatsRow) (columns : List Column) → OldHolder k x columns → old_stats k.t x.table ≡ Some q → IsOldStats x q
  old_is x q columns h e =
      let here : stats_row k.t h.table.id ≡ Some q = ap (old_stats k.t) (sym h.at_is) ∙ e in
      let c = counted_last h.table h.there in
      let counters = all_in (HasCounters k.t) h.table (head k).tables k.c.sound.counters.tables h.there in
      let count : c.row ≡ q = same_Some _ _ (sym c.there ∙ here) in
      let one : counters.row ≡ q = same_Some _ _ (sym counters.there ∙ here) in
      let rows = rise_length h.table.next_row 0 (map (λ (r : Row). r.id) h.table.rows) (all_in HasRowIds h.table (head k).tables (head_ids k).rows h.there) (all_zero (map (λ (r : Row). r.id) h.table.rows)) (omega arith) in
      let size = length-map h.table.rows (λ (r : Row). r.id) in
      let a : q.record_count ≡ length h.table.rows = subst (λ (y : TableStatsRow). y.record_count ≡ length h.table.rows) count c.records in
      let b : h.table.next_row ≡ q.next_row_id = subst (λ (y : TableStatsRow). h.table.next_row ≡ y.next_row_id) one counters.next_row in
      let id : q.table_id ≡ h.table.id = first_number (key-row_of table_stats_key (h.table.id ∷ []) k.t.table_stats q here) in
      let m = row_member table_stats_key (h.table.id ∷ []) k.t.table_stats q here in
      record {
        counts = omega (arith, rows, size, a, b);
        small = false_from_ne_true (has_large_counter q)
            (λ large. all_in (λ (y : TableStatsRow). are_stats_large k.t y ≡ true → ⊥) q k.t.table_stats (all_fine of_table_stats (λ (y : TableStatsRow). are_stats_large k.t y ≡ true) k.t.table_stats (λ j bad. k.c.sound.rules.1.1.1.1.1.1.1.1.1.1.0 j (inr bad))) (in_of_some q k.t.table_stats m.0) (and_from _ _ (ap (λ n. holds k.t (key.Table n)) id ∙ table_holds h.table h.there) large));
      }

  restated_old : (x : FreshFile) (q : TableStatsRow) → In x (fresh k) → old_stats k.t x.table ≡ Some q → IsOldStats x q
  restated_old x q there e = let h = holder k x there in ⊎_elim (λ old. old_is x q h.columns old e) (λ now. absurd (new_none h.columns now)) h.of
    where
      new_none : (columns : List Column) → NewHolder k x columns → ⊥
      new_none columns h = let m = all_in IsMade h.draft (made k) (made_are 0 k.own) h.there in let none : None ≡ Some q = sym (ap (old_stats k.t) (h.at_is ∙ m.at_is)) ∙ e in cc

  -- ---- none is too large

  restated_small : (r : TableStatsRow) → IsRestated k r → has_large_counter r ≡ false
  restated_small r m =
      let h = restated_old m.file m.old m.there m.old_is in
      let rows_fine = or_parts (nat_lt last_id m.old.record_count) (nat_lt last_id m.old.next_row_id || (nat_lt last_field m.old.next_field_id || nat_lt last_id m.old.file_size_bytes)) h.small in
      let ids_fine = or_parts (nat_lt last_id m.old.next_row_id) (nat_lt last_field m.old.next_field_id || nat_lt last_id m.old.file_size_bytes) rows_fine.1 in
      let rest = or_parts (nat_lt last_field m.old.next_field_id) (nat_lt last_id m.old.file_size_bytes) ids_fine.1 in
      let room = all_in (λ (x : FreshFile). first_row (old_stats k.t x.table) + x.file.rows ≤ last_id) m.file (fresh k) k.c.room.rows m.there in
      let first : first_row (old_stats k.t m.file.table) ≡ m.old.next_row_id = ap first_row m.old_is in
      let counts = h.counts in
      let a : nat_lt last_id (m.old.record_count + m.file.file.rows) ≡ false = le-ltb last_id (m.old.record_count + m.file.file.rows) (omega (arith, room, first, counts)) in
      let b : nat_lt last_id (m.old.next_row_id + m.file.file.rows) ≡ false = le-ltb last_id (m.old.next_row_id + m.file.file.rows) (omega (arith, room, first)) in
      let d : nat_lt last_id (min MAX_COUNTER (m.old.file_size_bytes + m.file.file.size)) ≡ false = le-ltb last_id (min MAX_COUNTER (m.old.file_size_bytes + m.file.file.size)) (omega arith) in
      subst (λ (y : TableStatsRow). has_large_counter y ≡ false) m.is (ap₂ ◌||◌ a (ap₂ ◌||◌ b (ap₂ ◌||◌ rest.0 d)))

  few_rows : (d : Draft) → In d (made k) → rows_in (staged_for k.staged d.at).fresh ≤ MAX_FILE_ROWS
  few_rows d there =
      let h = all_in (λ (e : Draft). IsStagedTable k.more k.own k.base e (staged_for k.staged e.at)) d _ k.c.stage.tables (tables-of-made k.state k.own k.c.free.grows d there) in
      go (staged_for k.staged d.at).fresh h.in_file h.fresh
    where
      go : (o : Option NamedStagedFile) (rows : List Cells) → MayHoldCells k.more d.columns o rows → rows_in o ≤ MAX_FILE_ROWS
      go None rows held = omega arith
      go (Some f) rows held = held.staged.few

  made_small : (d : Draft) → In d (made k) → has_large_counter (stats_of_made k d) ≡ false
  made_small d there =
      let few = few_rows d there in
      let m = all_in IsMade d (made k) (made_are 0 k.own) there in
      let tidy = (made_tidy k d there).few in
      let columns : length d.columns ≡ length m.given = ap length m.columns_are ∙ fields_length 1 m.given in
      let end = m.next_is in
      let n = rows_in (staged_for k.staged d.at).fresh in
      let a : nat_lt last_id n ≡ false = le-ltb last_id n (omega (arith, few)) in
      let b : nat_lt last_field d.next_field ≡ false = le-ltb last_field d.next_field (omega (arith, tidy, columns, end)) in
      let c : nat_lt last_id (stats_of_made k d).file_size_bytes ≡ false = le-ltb last_id (stats_of_made k d).file_size_bytes (omega arith) in
      ap₂ ◌||◌ a (ap₂ ◌||◌ a (ap₂ ◌||◌ b c))

  small_then : (r : TableStatsRow) → In r (parts k).table_stats → has_large_counter r ≡ false
  small_then r there = ⊎_elim (restated_small r) (λ m. subst (λ (y : TableStatsRow). has_large_counter y ≡ false) m.is (made_small m.of m.there)) (stats_cases k r there)

  -- ---- and each grows

  none_yet : (id : ℕ) → next k ≤ id → stats_of_table k.t id ≡ None
  none_yet id past = go (stats_of_table k.t id) refl
    where
      go : (o : Option TableStatsRow) → stats_of_table k.t id ≡ o → o ≡ None
      go None e = refl
      go (Some q) e =
          let low = row_of_all table_stats_key (id ∷ []) (λ (r : TableStatsRow). r.table_id < next k) k.t.table_stats (stats_low k) q e in
          let same : q.table_id ≡ id = first_number (key-row_of table_stats_key (id ∷ []) k.t.table_stats q e) in
          absurd (omega (arith, low, same, past))

  grown_then : (r : TableStatsRow) → In r (parts k).table_stats → IsGrown (stats_of_table k.t r.table_id) r
  grown_then r there =
      ⊎_elim
      (λ m.
      let at : stats_of_table k.t m.old.table_id ≡ Some m.old = ap (old_stats k.t) (sym (old_stats_id k.t m.file.table m.old m.old_is)) ∙ m.old_is in
      subst (λ (y : TableStatsRow). IsGrown (stats_of_table k.t y.table_id) y) m.is (subst (λ o. IsGrown o (restated m.file.file m.old)) (sym at) (omega arith, omega arith)))
      (λ m. subst (λ (y : TableStatsRow). IsGrown (stats_of_table k.t y.table_id) y) m.is (subst (λ o. IsGrown o (stats_of_made k m.of)) (sym (none_yet _ (made_new k m.of m.there))) tt))
      (stats_cases k r there)

  again : (r : TableStatsRow) → In r (parts k).old_stats → IsStated (parts k) r.table_id
  again r there =
      let m = in_picked (λ (x : FreshFile). old_stats k.t x.table) r (fresh k) there in
      some_in (λ (y : TableStatsRow). y.table_id ≡ r.table_id) (restated m.item.file r) (parts k).table_stats
      (in_left (restated m.item.file r) (restated_of k.t (fresh k)) _ (picked_in (λ (x : FreshFile). option_map (restated x.file) (old_stats k.t x.table)) m.item (restated m.item.file r) (fresh k) m.there (ap (option_map (restated m.item.file)) m.is))) refl

  pub stated : AreStated k.t (parts k)
  stated = record {
    tables = all_mapped (λ (r : TableRow). IsStated (parts k) r.table_id) (row_of_made k) (made k)
        (all_by _ (made k) (λ d there. some_in (λ (y : TableStatsRow). y.table_id ≡ (row_of_made k d).table_id) (stats_of_made k d) (parts k).table_stats (in_right (stats_of_made k d) (restated_of k.t (fresh k)) (map (stats_of_made k) (made k)) (map_in (stats_of_made k) d (made k) there)) refl));
    again = all_by (λ (r : TableStatsRow). IsStated (parts k) r.table_id) (parts k).old_stats again;
    small = all_by (λ (r : TableStatsRow). has_large_counter r ≡ false) (parts k).table_stats small_then;
    grown = all_by (λ (r : TableStatsRow). IsGrown (stats_of_table k.t r.table_id) r) (parts k).table_stats grown_then;
  }
