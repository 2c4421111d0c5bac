-- The rule about the statistics of columns, after a commit.
use Rattle.std.proofs.Common.{◌≡◌, ℕ, ◌<◌, ◌≤◌, ◌⊎◌, inl, inr, ⊎_elim, Bool, true, false, cond, List, [], ◌∷◌, ◌++◌, map, filter, refl, sym, ap, ◌∙◌, subst, arith, Option, Some, None}
use Rattle.std.specs.Prelude.{is_none}
use Rattle.std.proofs.lemmas.List.{append-nil}
use Rattle.std.proofs.lemmas.List.Elements.{filter-append}
use Rattle.std.specs.List.{AllByRecursion}
use Rattle.std.specs.Option.{option_map}
use Rattle.cat_tables.specs.Table.{ArePast, has_key}
use Rattle.cat_tables.specs.Validity.{all_ended, ended_at, ends_at}
use Rattle.cat_tables.proofs.KeyLemmas.{key_eq}
use Rattle.cat_tables.proofs.SightLemmas.{past_all_ended, put_all-last}
use Rattle.cat_rows.specs.Batches.{holds}
use Rattle.cat_rows.specs.Keys.{column_key, data_file_key, file_column_stats_key}
use Rattle.cat_rows.specs.Parts.{Endings, Parts}
use Rattle.cat_rows.specs.Tables.{Tables}
use Rattle.cat_rows.specs.Validities.{column_laws, column_validity, data_file_validity}
use Rattle.cat_rows.specs.declared.batch.Key.TheVariants as key
use Rattle.cat_rows.specs.declared.files.DataFileRow.{DataFileRow}
use Rattle.cat_rows.specs.declared.files.FileColumnStatsRow.{FileColumnStatsRow}
use Rattle.cat_rows.specs.declared.files.TableStatsRow.{TableStatsRow}
use Rattle.cat_rows.specs.declared.history.SnapshotRow.{SnapshotRow}
use Rattle.cat_rows.specs.declared.schemas.ColumnRow.{ColumnRow}
use Rattle.cat_rules.specs.ColumnStatsRule.{AreStatsWrong, HasUnreadableBound, IsColumnStatsBad}
use Rattle.cat_rules.specs.CounterRule.{is_not_past}
use Rattle.cat_rules.specs.First.{Holds}
use Rattle.cat_rules.specs.Lookups.{HasRow, IsFieldPast, column_of, file_of, last, newest_row, stats_of_table}
use Rattle.cat_rules.specs.Places.{of_column_stats}
use Rattle.cat_rules.specs.Readable.{IsReadable, IsUnreadable}
use Rattle.cat_rules.proofs.DatedLemmas.{all_fine, row_of_all}
use Rattle.cat_rules.proofs.LawLemmas.{fields-stay}
use Rattle.commit_rules.specs.Lawful.{ReadsOn}
use Rattle.commit_rules.specs.Laws.{RuleStays}
use Rattle.commit_rules.proofs.CoreLemmas.{IsCommit, after, after-commit}
use Rattle.commit_rules.proofs.CounterLemmas.{counted_before}
use Rattle.commit_rules.proofs.EndedLemmas.{ended_alike}
use Rattle.commit_rules.proofs.FileLemmas.{table_there}
use Rattle.commit_rules.proofs.HistoryLemmas.{holds-all}
use Rattle.commit_rules.proofs.SchemaLemmas.{has_open, open_has}
use Rattle.commit_rules.proofs.StatsLemmas.{below, file_still, grow, stats_there}
use Rattle.commit_rules.proofs.TableLemmas.{In, all-put_all, all_by, all_in}

-- ---- the last of some rows

pub last_mapped : {X Y : Type 0} (f : X → Y) (xs : List X) → last (map f xs) ≡ option_map f (last xs)
last_mapped f [] = refl
last_mapped f (x ∷ []) = refl
last_mapped f (x ∷ y ∷ xs) = last_mapped f (y ∷ xs)

last_append : {X : Type 0} (xs : List X) (y : X) (ys : List X) → last (xs ++ y ∷ ys) ≡ last (y ∷ ys)
last_append [] y ys = refl
last_append (x ∷ []) y ys = refl
last_append (x ∷ z ∷ xs) y ys = last_append (z ∷ xs) y ys

-- the last of those that pass a test is one of them
record IsLast {X : Type 0} (q : X → Bool) (xs : List X) (o : Option X) : Type 0 where
  item : X
  there : In item xs
  passes : q item ≡ true
  is : o ≡ Some item

last_passes : {X : Type 0} (q : X → Bool) (xs : List X) → (filter q xs ≡ []) ⊎ IsLast q xs (last (filter q xs))
last_passes q [] = inl refl
last_passes {X} q (x ∷ xs) = go (q x) refl (last_passes q xs)
  where
    more : (o : Option X) → IsLast q xs o → IsLast q (x ∷ xs) o
    more o m = record { item = m.item; there = inr m.there; passes = m.passes; is = m.is }

    ahead : (l : List X) → IsLast q xs (last l) → IsLast q (x ∷ xs) (last (x ∷ l))
    ahead [] m = absurd (none m.is)
      where
        none : {y : X} → None ≡ Some y → ⊥
        none e = cc
    ahead (y ∷ l) m = more (last (y ∷ l)) m

    go : (b : Bool) → q x ≡ b → (filter q xs ≡ []) ⊎ IsLast q xs (last (filter q xs)) → (cond b (x ∷ filter q xs) (filter q xs) ≡ []) ⊎ IsLast q (x ∷ xs) (last (cond b (x ∷ filter q xs) (filter q xs)))
    go true e (inl none) = inr (record { item = x; there = inl refl; passes = e; is = ap (λ l. last (x ∷ l)) none })
    go true e (inr m) = inr (ahead (filter q xs) m)
    go false e (inl none) = inl none
    go false e (inr m) = inr (more (last (filter q xs)) m)

last_either : {X : Type 0} (q : X → Bool) (xs ys : List X) → IsLast q ys (last (filter q (xs ++ ys))) ⊎ (last (filter q (xs ++ ys)) ≡ last (filter q xs))
last_either {X} q xs ys = ⊎_elim (λ none. inr (ap last (filter-append q xs ys ∙ ap (λ l. filter q xs ++ l) none ∙ append-nil (filter q xs)))) (λ m. inl (found_last (filter q ys) refl m)) (last_passes q ys)
  where
    found_last : (l : List X) → filter q ys ≡ l → IsLast q ys (last (filter q ys)) → IsLast q ys (last (filter q (xs ++ ys)))
    found_last [] e m = absurd (none (sym (ap last e) ∙ m.is))
      where
        none : {y : X} → None ≡ Some y → ⊥
        none e = cc
    found_last (y ∷ l) e m = record { item = m.item; there = m.there; passes = m.passes; is = ap last (filter-append q xs ys ∙ ap (λ k. filter q xs ++ k) e) ∙ last_append (filter q xs) y l ∙ sym (ap last e) ∙ m.is }

-- a text that the newer type can't read the older one can't
less_readable : (old_type new_type : List ℕ) → ((text : List ℕ) → IsReadable old_type text → IsReadable new_type text) → (bound : Option (List ℕ)) → IsUnreadable new_type bound → IsUnreadable old_type bound
less_readable old_type new_type reads None bad = bad
less_readable old_type new_type reads (Some text) bad = λ readable. bad (reads text readable)

pub two_numbers : {a b d e : ℕ} → a ∷ b ∷ [] ≡ d ∷ e ∷ [] → (a ≡ d) × (b ≡ e)
two_numbers same = (cc, cc)

module _ (t : Tables) (head : SnapshotRow) (p : Parts) (endings : Endings) (c : IsCommit t head p endings) where
  abbrev u : Tables
  u = after t head p endings c

  old : Holds (IsColumnStatsBad t)
  old = c.sane.1.1.1.1.1.1.1.1.0

  abbrev open_column : ColumnRow → ColumnRow
  open_column = column_validity.with_end None

  abbrev is_column : ℕ → ℕ → ColumnRow → Bool
  is_column table field = has_key column_of (table ∷ field ∷ [])

  abbrev ended_columns : List ColumnRow
  ended_columns = all_ended column_validity column_key (ends_at column_key p.snapshot.snapshot_id p.ended_column) t.column

  pairs : (es : List ColumnRow) → map {B = List ℕ × ℕ} (λ (k : List ℕ). (k, p.snapshot.snapshot_id)) (map column_key es) ≡ ends_at column_key p.snapshot.snapshot_id es
  pairs [] = refl
  pairs (e ∷ es) = ap (λ l. (column_key e, p.snapshot.snapshot_id) ∷ l) (pairs es)

  columns_are : u.column ≡ ended_columns ++ p.column
  columns_are =
      put_all-last column_key p.column ended_columns
      (subst (λ ends. ArePast column_key p.column (all_ended column_validity column_key ends t.column)) (pairs p.ended_column)
      (past_all_ended column_key column_validity column_laws p.snapshot.snapshot_id (map column_key p.ended_column) p.column t.column c.parts.column.past))

  -- the newest row of a column is a new one, or the one that was, up to its end
  newest_either : (table field : ℕ) → IsLast (is_column table field) p.column (newest_row table field u.column) ⊎ (option_map open_column (newest_row table field u.column) ≡ option_map open_column (newest_row table field t.column))
  newest_either table field =
      let test = is_column table field in
      let is : newest_row table field u.column ≡ last (filter test (ended_columns ++ p.column)) = ap (λ l. last (filter test l)) columns_are in
      ⊎_elim
      (λ m. inl (subst (IsLast test p.column) (sym is) m))
      (λ same. inr (ap (option_map open_column) (is ∙ same) ∙ sym (last_mapped open_column (filter test ended_columns))
      ∙ ap last (ended_alike column_key column_validity column_laws open_column (λ e r. refl) test p.snapshot.snapshot_id (alike table field) p.ended_column t.column)
      ∙ last_mapped open_column (filter test t.column)))
      (last_either test ended_columns p.column)
    where
      alike : (table field : ℕ) (r : ColumnRow) → is_column table field (ended_at column_validity p.snapshot.snapshot_id r) ≡ is_column table field r
      alike table field r = elim (is_none r.end_snapshot) as (λ b. is_column table field (cond b (column_validity.with_end (Some p.snapshot.snapshot_id) r) r) ≡ is_column table field r) [ true ↦ refl | false ↦ refl ]

  -- ---- statistics of a file that was there

  abbrev Unreadable : FileColumnStatsRow → ColumnRow → Type 0
  Unreadable r q = IsUnreadable q.column_type r.min_value ⊎ IsUnreadable q.column_type r.max_value

  abbrev Wrong : Tables → FileColumnStatsRow → DataFileRow → Type 0
  Wrong tables r f = IsFieldPast tables f.table_id r.column_id ⊎ ((f.record_count < r.null_count) ⊎ HasUnreadableBound tables f.table_id r)

  less_bound : (r : FileColumnStatsRow) (q new : ColumnRow) → ((text : List ℕ) → IsReadable q.column_type text → IsReadable new.column_type text) → Unreadable r new → Unreadable r q
  less_bound r q new reads (inl bad) = inl (less_readable q.column_type new.column_type reads r.min_value bad)
  less_bound r q new reads (inr bad) = inr (less_readable q.column_type new.column_type reads r.max_value bad)

  known_field : (o : Option TableStatsRow) (q : TableStatsRow) → o ≡ Some q → (field : ℕ) → (HasRow o (λ s. s.next_field_id ≤ field) → ⊥) → HasRow o (λ s. field < s.next_field_id)
  known_field None q e field fine = absurd cc
  known_field (Some s) q e field fine = search arith

  -- by a new row of the column
  reads_new : (table : ℕ) (r : FileColumnStatsRow) (new : ColumnRow) → holds t (key.Table table) ≡ true → (IsFieldPast t table r.column_id → ⊥) → (HasUnreadableBound t table r → ⊥)
      → (o : Option ColumnRow) → newest_row table r.column_id t.column ≡ o → new.table_id ≡ table → new.column_id ≡ r.column_id → ReadsOn t o new → Unreadable r new → ⊥
  reads_new table r new there fine_field fine None is same_table same_field reads bad =
      let q = stats_there t head p endings c table there in
      reads (subst (λ id. HasRow (stats_of_table t id) (λ s. new.column_id < s.next_field_id)) (sym same_table)
      (subst (λ field. HasRow (stats_of_table t table) (λ s. field < s.next_field_id)) (sym same_field) (known_field (stats_of_table t table) q.0 q.1 r.column_id fine_field)))
  reads_new table r new there fine_field fine (Some q) is same_table same_field reads bad = fine (subst (λ o. HasRow o (Unreadable r)) (sym is) (less_bound r q new reads bad))

  bound_still : (table : ℕ) (r : FileColumnStatsRow) → holds t (key.Table table) ≡ true → (IsFieldPast t table r.column_id → ⊥) → (HasUnreadableBound t table r → ⊥) → HasUnreadableBound u table r → ⊥
  bound_still table r there fine_field fine bad =
      ⊎_elim new (λ same. fine (open_has open_column (Unreadable r) (λ q x. x) (newest_row table r.column_id t.column)
      (subst (λ o. HasRow o (Unreadable r)) same (has_open open_column (Unreadable r) (λ q x. x) (newest_row table r.column_id u.column) bad)))) (newest_either table r.column_id)
    where
      new : IsLast (is_column table r.column_id) p.column (newest_row table r.column_id u.column) → ⊥
      new m =
          let ids = two_numbers (key_eq (column_of m.item) (table ∷ r.column_id ∷ []) m.passes) in
          let reads = all_in (λ (x : ColumnRow). ReadsOn t (newest_row x.table_id x.column_id t.column) x) m.item p.column c.lawful.column_stats.columns m.there in
          reads_new table r m.item there fine_field fine (newest_row table r.column_id t.column) refl ids.0 ids.1
          (subst (λ field. ReadsOn t (newest_row table field t.column) m.item) ids.1 (subst (λ id. ReadsOn t (newest_row id m.item.column_id t.column) m.item) ids.0 reads))
          (subst (λ o. HasRow o (Unreadable r)) m.is bad)

  wrong_still : (r : FileColumnStatsRow) (f : DataFileRow) → holds t (key.Table f.table_id) ≡ true → (Wrong t r f → ⊥) → Wrong u r f → ⊥
  wrong_still r f there fine (inl bad) = fields-stay t u f.table_id r.column_id (grow t head p endings c f.table_id there) (λ x. fine (inl x)) bad
  wrong_still r f there fine (inr (inl bad)) = fine (inr (inl bad))
  wrong_still r f there fine (inr (inr bad)) = bound_still f.table_id r there (λ x. fine (inl x)) (λ x. fine (inr (inr x))) bad

  stats_low : AllByRecursion (λ (r : FileColumnStatsRow). is_not_past head.next_file_id r.data_file_id ≡ true → ⊥) t.file_column_stats
  stats_low =
      all_fine of_column_stats (λ (r : FileColumnStatsRow). is_not_past head.next_file_id r.data_file_id ≡ true) t.file_column_stats
      (λ k h. counted_before t head p endings c k (inr (inr (inr (inr (inr (inr (inl h))))))))

  found_wrong : (r : FileColumnStatsRow) (o : Option DataFileRow) → ((f : DataFileRow) → o ≡ Some f → holds t (key.Table f.table_id) ≡ true) → (HasRow o (Wrong t r) → ⊥) → HasRow o (Wrong u r) → ⊥
  found_wrong r None there fine bad = bad
  found_wrong r (Some f) there fine bad = wrong_still r f (there f refl) fine bad

  stats_still : (r : FileColumnStatsRow) → In r t.file_column_stats → AreStatsWrong u r → ⊥
  stats_still r there bad =
      let low = below head.next_file_id r.data_file_id (all_in (λ (q : FileColumnStatsRow). is_not_past head.next_file_id q.data_file_id ≡ true → ⊥) r t.file_column_stats stats_low there) in
      found_wrong r (file_of t r.data_file_id)
      (λ f e. row_of_all data_file_key (r.data_file_id ∷ []) (λ (x : DataFileRow). holds t (key.Table x.table_id) ≡ true) t.data_file (table_there t head p endings c) f e)
      (all_in (λ (q : FileColumnStatsRow). AreStatsWrong t q → ⊥) r t.file_column_stats (all_fine of_column_stats (AreStatsWrong t) t.file_column_stats old) there)
      (open_has (data_file_validity.with_end None) (Wrong u r) (λ f x. x) (file_of t r.data_file_id)
      (subst (λ o. HasRow o (Wrong u r)) (file_still t head p endings c r.data_file_id low) (has_open (data_file_validity.with_end None) (Wrong u r) (λ f x. x) (file_of u r.data_file_id) bad)))

  column_stats_after : Holds (IsColumnStatsBad u)
  column_stats_after k h =
      holds-all of_column_stats (AreStatsWrong u) u.file_column_stats
      (all-put_all file_column_stats_key (λ r. AreStatsWrong u r → ⊥) p.file_column_stats t.file_column_stats c.lawful.column_stats.new (all_by (λ r. AreStatsWrong u r → ⊥) t.file_column_stats stats_still)) k h

pub column_stats-stay : RuleStays IsColumnStatsBad
column_stats-stay = after-commit (λ (u : Tables). Holds (IsColumnStatsBad u)) column_stats_after
