-- The statistics of tables after a commit: they grow, and each table has its own. What is found of tables that were there.
use Rattle.std.proofs.Common.{◌≡◌, ℕ, ◌<◌, ◌≤◌, inl, inr, ⊎_elim, true, false, not, ◌||◌, List, [], ◌∷◌, map, refl, sym, ap, ◌∙◌, subst, arith, Option, Some, None, is_some, true≢false}
use Rattle.std.specs.List.{AllByRecursion}
use Rattle.std.specs.Option.{option_map}
use Rattle.std.proofs.lemmas.Bool.{and_from, and_parts, false_from_ne_true, leb-false}
use Rattle.cat_tables.specs.Table.{all_removed, has_key, row_of}
use Rattle.cat_tables.proofs.KeyLemmas.{key_eq}
use Rattle.cat_tables.proofs.RowLemmas.{key-row_of}
use Rattle.cat_tables.proofs.SightLemmas.{same_key}
use Rattle.cat_rows.specs.Batches.{holds}
use Rattle.cat_rows.specs.Keys.{data_file_key, table_key, table_stats_key}
use Rattle.cat_rows.specs.Parts.{Endings, Parts}
use Rattle.cat_rows.specs.Seen.{seen_at}
use Rattle.cat_rows.specs.Tables.{Tables}
use Rattle.cat_rows.specs.Validities.{data_file_laws, data_file_validity, table_laws, table_validity}
use Rattle.cat_rows.specs.declared.batch.Key.TheVariants as key
use Rattle.cat_rows.specs.declared.files.DataFileRow.{DataFileRow}
use Rattle.cat_rows.specs.declared.files.TableStatsRow.{TableStatsRow}
use Rattle.cat_rows.specs.declared.history.SnapshotRow.{SnapshotRow}
use Rattle.cat_rows.specs.declared.schemas.TableRow.{TableRow}
use Rattle.cat_rules.specs.CounterRule.{is_not_past}
use Rattle.cat_rules.specs.EachKept.{SeesTable}
use Rattle.cat_rules.specs.First.{Holds}
use Rattle.cat_rules.specs.Laws.{Grow}
use Rattle.cat_rules.specs.Lookups.{HasRow, file_of, stats_of_table, table_of}
use Rattle.cat_rules.specs.Places.{of_table, of_table_stats}
use Rattle.cat_rules.specs.Rows.{SomeOf}
use Rattle.cat_rules.specs.TableStatsRule.{IsStatsBad, are_stats_large, has_large_counter, stats_of}
use Rattle.cat_rules.proofs.DatedLemmas.{all_fine, row_of_all}
use Rattle.cat_rules.proofs.FirstLemmas.{all_like}
use Rattle.cat_rules.proofs.SeenLemmas.{table_seen}
use Rattle.commit_rules.specs.Lawful.{IsGrown, IsStated}
use Rattle.commit_rules.specs.Laws.{RuleStays}
use Rattle.commit_rules.proofs.CoreLemmas.{IsCommit, after, after-commit}
use Rattle.commit_rules.proofs.CounterLemmas.{counted_before}
use Rattle.commit_rules.proofs.HistoryLemmas.{first_number, holds-all, is_true, no_not, some_of}
use Rattle.commit_rules.proofs.TableLemmas.{FindsNew, FindsOld, In, all-all_removed, all-ended, all-put_all, all_by, all_in, found, over_end, row_of-all_removed, row_of-ended, row_of-put_all}

some_mapped : {X Y : Type 0} (P : Y → Type 0) (f : X → Y) (xs : List X) → SomeOf P (map f xs) → SomeOf (λ x. P (f x)) xs
some_mapped P f [] h = h
some_mapped P f (x ∷ xs) (inl h) = inl h
some_mapped P f (x ∷ xs) (inr h) = inr (some_mapped P f xs h)

pub has_some : {R : Type 0} (o : Option R) (P : R → Type 0) → HasRow o P → is_some o ≡ true
has_some None P h = absurd h
has_some (Some r) P h = refl

map_some : {R S : Type 0} (f : R → S) (o : Option R) → is_some (option_map f o) ≡ is_some o
map_some f None = refl
map_some f (Some r) = refl

-- an id that isn't bad is below the counter
pub below : (counter id : ℕ) → (is_not_past counter id ≡ true → ⊥) → id < counter
below counter id fine = leb-false counter id (false_from_ne_true (is_not_past counter id) fine)

-- a row's key is its first id
key_there : {R : Type 0} (key : R → List ℕ) (id : ℕ) (number : R → ℕ) → ((r : R) → key r ≡ number r ∷ []) → (r : R) → has_key key (id ∷ []) r ≡ true → number r ≡ id
key_there key id number same r h = first_number (sym (same r) ∙ key_eq (key r) (id ∷ []) h)

module _ (t : Tables) (head : SnapshotRow) (p : Parts) (endings : Endings) (c : IsCommit t head p endings) where
  abbrev u : Tables
  u = after t head p endings c

  old : Holds (IsStatsBad t)
  old = c.sane.1.1.1.1.1.1.1.1.1.1.0

  -- ---- tables and files that were there

  tables_below : AllByRecursion (λ (r : TableRow). r.table_id < head.next_catalog_id) t.table
  tables_below =
      all_like _ (λ (r : TableRow). r.table_id < head.next_catalog_id) (λ r fine. below head.next_catalog_id r.table_id (λ e. fine (ap (λ b. b || is_not_past head.next_catalog_id r.schema_id) e))) t.table
      (all_fine of_table (λ (r : TableRow). (is_not_past head.next_catalog_id r.table_id || is_not_past head.next_catalog_id r.schema_id) ≡ true) t.table (λ k h. counted_before t head p endings c k (inr (inr (inl h)))))

  pub table_below : (id : ℕ) → holds t (key.Table id) ≡ true → id < head.next_catalog_id
  table_below id h =
      let q = some_of (table_of t id) h in
      let same : q.0.table_id ≡ id = first_number (key-row_of table_key (id ∷ []) t.table q.0 q.1) in
      let low = row_of_all table_key (id ∷ []) (λ (r : TableRow). r.table_id < head.next_catalog_id) t.table tables_below q.0 q.1 in
      omega (arith, same, low)

  -- the table of an old id is the one that was there, up to its end
  pub table_still : (id : ℕ) → id < head.next_catalog_id → option_map (table_validity.with_end None) (table_of u id) ≡ option_map (table_validity.with_end None) (table_of t id)
  table_still id low =
      ⊎_elim
      (λ (m : FindsNew table_key (id ∷ []) p.table (table_of u id)).
      let same : m.row.table_id ≡ id = key_there table_key id (λ (r : TableRow). r.table_id) (λ r. refl) m.row m.has in
      let past : head.next_catalog_id ≤ m.row.table_id = all_in (λ (r : TableRow). head.next_catalog_id ≤ r.table_id) m.row p.table c.lawful.counters.tables m.there in
      absurd (omega (arith, same, past, low)))
      (λ m. ap (option_map (table_validity.with_end None)) m.is ∙ row_of-ended table_key table_validity table_laws (id ∷ []) p.snapshot.snapshot_id p.ended_table t.table)
      (row_of-put_all table_key (id ∷ []) p.table _)

  pub file_still : (id : ℕ) → id < head.next_file_id → option_map (data_file_validity.with_end None) (file_of u id) ≡ option_map (data_file_validity.with_end None) (file_of t id)
  file_still id low =
      ⊎_elim
      (λ (m : FindsNew data_file_key (id ∷ []) p.data_file (file_of u id)).
      let same : m.row.data_file_id ≡ id = key_there data_file_key id (λ (r : DataFileRow). r.data_file_id) (λ r. refl) m.row m.has in
      let past : head.next_file_id ≤ m.row.data_file_id = all_in (λ (r : DataFileRow). head.next_file_id ≤ r.data_file_id) m.row p.data_file c.lawful.counters.data_files m.there in
      absurd (omega (arith, same, past, low)))
      (λ m. ap (option_map (data_file_validity.with_end None)) m.is ∙ row_of-ended data_file_key data_file_validity data_file_laws (id ∷ []) p.snapshot.snapshot_id p.ended_data_file t.data_file)
      (row_of-put_all data_file_key (id ∷ []) p.data_file _)

  table_kept : (id : ℕ) → id < head.next_catalog_id → holds u (key.Table id) ≡ holds t (key.Table id)
  table_kept id low = sym (map_some (table_validity.with_end None) (table_of u id)) ∙ ap is_some (table_still id low) ∙ map_some (table_validity.with_end None) (table_of t id)

  -- a table that a kept snapshot sees is there
  pub seen_there : (s id : ℕ) → SeesTable (seen_at s t) id → holds t (key.Table id) ≡ true
  seen_there s id h = has_some (table_of t id) _ (table_seen t c.parts.settled.table.rises s id h)

  -- ---- their statistics

  stated_before : AllByRecursion (λ (r : TableRow). not (holds t (stats_of r)) ≡ true → ⊥) t.table
  stated_before = all_fine stats_of (λ (r : TableRow). not (holds t (stats_of r)) ≡ true) t.table (λ k h. old k (inl h))

  pub stats_there : (id : ℕ) → holds t (key.Table id) ≡ true → (q : TableStatsRow) × (stats_of_table t id ≡ Some q)
  stats_there id h =
      let r = some_of (table_of t id) h in
      let same : r.0.table_id ≡ id = first_number (key-row_of table_key (id ∷ []) t.table r.0 r.1) in
      let has = is_true (holds t (stats_of r.0)) (row_of_all table_key (id ∷ []) (λ (q : TableRow). not (holds t (stats_of q)) ≡ true → ⊥) t.table stated_before r.0 r.1) in
      some_of (stats_of_table t id) (subst (λ n. is_some (stats_of_table t n) ≡ true) same has)

  abbrev removed_ids : List (List ℕ)
  removed_ids = map (λ (r : TableStatsRow). r.table_id ∷ []) p.old_stats

  abbrev rest : List TableStatsRow
  rest = all_removed table_stats_key removed_ids t.table_stats

  -- a table with new statistics
  none_stated : (id : ℕ) → AllByRecursion (λ (r : TableStatsRow). has_key table_stats_key (id ∷ []) r ≡ false) p.table_stats → IsStated p id → ⊥
  none_stated id none some =
      let m = found (λ (r : TableStatsRow). r.table_id ≡ id) p.table_stats some in
      let has : has_key table_stats_key (id ∷ []) m.item ≡ true = subst (λ n. has_key table_stats_key (n ∷ []) m.item ≡ true) m.is (same_key table_stats_key m.item) in
      true≢false (sym has ∙ all_in (λ (r : TableStatsRow). has_key table_stats_key (id ∷ []) r ≡ false) m.item p.table_stats none m.there)

  -- what is removed is there again
  kept_row : (id : ℕ) → AllByRecursion (λ (r : TableStatsRow). has_key table_stats_key (id ∷ []) r ≡ false) p.table_stats → row_of table_stats_key (id ∷ []) rest ≡ stats_of_table t id
  kept_row id none =
      ⊎_elim (λ same. same)
      (λ some.
      let m = found (λ (r : TableStatsRow). r.table_id ∷ [] ≡ id ∷ []) p.old_stats (some_mapped (λ l. l ≡ id ∷ []) (λ (r : TableStatsRow). r.table_id ∷ []) p.old_stats some) in
      absurd (none_stated id none (subst (IsStated p) (first_number m.is) (all_in (λ (r : TableStatsRow). IsStated p r.table_id) m.item p.old_stats c.lawful.table_stats.again m.there))))
      (row_of-all_removed table_stats_key (id ∷ []) removed_ids t.table_stats)

  grow_refl : (o : Option TableStatsRow) → Grow o o
  grow_refl None = tt
  grow_refl (Some r) = (omega arith, omega arith)

  grow_of : (o : Option TableStatsRow) (q r : TableStatsRow) → o ≡ Some q → IsGrown o r → Grow o (Some r)
  grow_of None q r e h = absurd cc
  grow_of (Some x) q r e h = h

  -- the statistics of a table that was there only grow
  pub grow : (id : ℕ) → holds t (key.Table id) ≡ true → Grow (stats_of_table t id) (stats_of_table u id)
  grow id there = ⊎_elim new same (row_of-put_all table_stats_key (id ∷ []) p.table_stats rest)
    where
      new : FindsNew table_stats_key (id ∷ []) p.table_stats (stats_of_table u id) → Grow (stats_of_table t id) (stats_of_table u id)
      new m =
          let q = stats_there id there in
          let is_id : m.row.table_id ≡ id = key_there table_stats_key id (λ (r : TableStatsRow). r.table_id) (λ r. refl) m.row m.has in
          let grown = subst (λ n. IsGrown (stats_of_table t n) m.row) is_id (all_in (λ (r : TableStatsRow). IsGrown (stats_of_table t r.table_id) r) m.row p.table_stats c.lawful.table_stats.grown m.there) in
          subst (Grow (stats_of_table t id)) (sym m.is) (grow_of (stats_of_table t id) q.0 m.row q.1 grown)

      same : FindsOld table_stats_key (id ∷ []) p.table_stats rest (stats_of_table u id) → Grow (stats_of_table t id) (stats_of_table u id)
      same m = subst (Grow (stats_of_table t id)) (sym (m.is ∙ kept_row id m.none)) (grow_refl (stats_of_table t id))

  -- ---- each table has its own

  stated_new : (id : ℕ) → IsStated p id → holds u (key.TableStats id) ≡ true
  stated_new id some =
      ⊎_elim (λ (m : FindsNew table_stats_key (id ∷ []) p.table_stats (stats_of_table u id)). ap is_some m.is) (λ (m : FindsOld table_stats_key (id ∷ []) p.table_stats rest (stats_of_table u id)). absurd (none_stated id m.none some))
      (row_of-put_all table_stats_key (id ∷ []) p.table_stats rest)

  stated_still : (id : ℕ) → holds t (key.TableStats id) ≡ true → holds u (key.TableStats id) ≡ true
  stated_still id h =
      ⊎_elim (λ (m : FindsNew table_stats_key (id ∷ []) p.table_stats (stats_of_table u id)). ap is_some m.is)
      (λ (m : FindsOld table_stats_key (id ∷ []) p.table_stats rest (stats_of_table u id)). ap is_some (m.is ∙ kept_row id m.none) ∙ h) (row_of-put_all table_stats_key (id ∷ []) p.table_stats rest)

  abbrev HasStats : TableRow → Type 0
  HasStats r = not (holds u (stats_of r)) ≡ true → ⊥

  stated_after : AllByRecursion HasStats u.table
  stated_after =
      all-put_all table_key HasStats p.table _
      (all_like (λ (r : TableRow). IsStated p r.table_id) HasStats (λ r some. no_not (holds u (stats_of r)) (stated_new r.table_id some)) p.table c.lawful.table_stats.tables)
      (all-ended table_key table_validity HasStats p.snapshot.snapshot_id (over_end table_key table_validity HasStats p.snapshot.snapshot_id (λ e r h. h)) p.ended_table t.table
      (all_like (λ (r : TableRow). not (holds t (stats_of r)) ≡ true → ⊥) HasStats (λ r fine. no_not (holds u (stats_of r)) (stated_still r.table_id (is_true (holds t (stats_of r)) fine))) t.table stated_before))

  -- ---- and none is too large

  stats_below : AllByRecursion (λ (r : TableStatsRow). is_not_past head.next_catalog_id r.table_id ≡ true → ⊥) t.table_stats
  stats_below = all_fine of_table_stats (λ (r : TableStatsRow). is_not_past head.next_catalog_id r.table_id ≡ true) t.table_stats (λ k h. counted_before t head p endings c k (inr (inr (inr (inr (inr (inr (inr (inl h)))))))))

  small_before : AllByRecursion (λ (r : TableStatsRow). are_stats_large t r ≡ true → ⊥) t.table_stats
  small_before = all_fine of_table_stats (λ (r : TableStatsRow). are_stats_large t r ≡ true) t.table_stats (λ k h. old k (inr h))

  abbrev IsSmall : TableStatsRow → Type 0
  IsSmall r = are_stats_large u r ≡ true → ⊥

  small_after : AllByRecursion IsSmall u.table_stats
  small_after =
      all-put_all table_stats_key IsSmall p.table_stats rest
      (all_like (λ (r : TableStatsRow). has_large_counter r ≡ false) IsSmall (λ r fine bad. true≢false (sym (and_parts _ _ bad).1 ∙ fine)) p.table_stats c.lawful.table_stats.small)
      (all-all_removed table_stats_key IsSmall removed_ids t.table_stats (all_by IsSmall t.table_stats one))
    where
      one : (r : TableStatsRow) → In r t.table_stats → IsSmall r
      one r there bad =
          let parts = and_parts (holds u (key.Table r.table_id)) (has_large_counter r) bad in
          let low = below head.next_catalog_id r.table_id (all_in (λ (q : TableStatsRow). is_not_past head.next_catalog_id q.table_id ≡ true → ⊥) r t.table_stats stats_below there) in
          all_in (λ (q : TableStatsRow). are_stats_large t q ≡ true → ⊥) r t.table_stats small_before there (and_from _ _ (sym (table_kept r.table_id low) ∙ parts.0) parts.1)

  stats_after : Holds (IsStatsBad u)
  stats_after k (inl h) = holds-all stats_of (λ (r : TableRow). not (holds u (stats_of r)) ≡ true) u.table stated_after k h
  stats_after k (inr h) = holds-all of_table_stats (λ (r : TableStatsRow). are_stats_large u r ≡ true) u.table_stats small_after k h

pub stats-stay : RuleStays IsStatsBad
stats-stay = after-commit (λ (u : Tables). Holds (IsStatsBad u)) stats_after
