-- The rules about schemas, tables and columns after a commit.
use Rattle.std.proofs.Common.{◌≡◌, ℕ, ◌≤◌, inl, inr, ⊎_elim, true, List, [], ◌∷◌, sym, subst, Option, Some, None, ◌<◌, ◌⊎◌}
use Rattle.std.specs.Option.{option_map}
use Rattle.cat_tables.specs.Table.{row_of}
use Rattle.cat_rows.specs.Batches.{holds}
use Rattle.cat_rows.specs.Keys.{column_key, schema_key}
use Rattle.cat_rows.specs.Parts.{Endings, Parts}
use Rattle.cat_rows.specs.Seen.{seen_at, Seen}
use Rattle.cat_rows.specs.Tables.{Tables}
use Rattle.cat_rows.specs.Validities.{column_laws, column_validity, table_validity}
use Rattle.cat_rows.specs.declared.batch.Key.TheVariants as key
use Rattle.cat_rows.specs.declared.history.SnapshotRow.{SnapshotRow}
use Rattle.cat_rows.specs.declared.schemas.ColumnRow.{ColumnRow}
use Rattle.cat_rows.specs.declared.schemas.TableRow.{TableRow}
use Rattle.cat_rules.specs.ColumnRule.{AreColumnsBad, BeginsAt, IsColumnWrong, LacksInitial, IsColumnless, IsCrowdedColumn, IsColumnBad}
use Rattle.cat_rules.specs.EachKept.{SeesTable, missing_or_own}
use Rattle.cat_rules.specs.First.{Holds}
use Rattle.cat_rules.specs.Kept.{IsKept, kept_of}
use Rattle.cat_rules.specs.Lookups.{HasRow, table_of}
use Rattle.cat_rules.specs.Places.{of_column, of_table}
use Rattle.cat_rules.specs.SchemaRule.{IsSchemaNameBad, IsSchemaNameUsed}
use Rattle.cat_rules.specs.TableRule.{IsTableBad, schema_id_of, schema_of}
use Rattle.cat_rules.proofs.DatedLemmas.{all_fine}
use Rattle.cat_rules.proofs.FirstLemmas.{all_like}
use Rattle.cat_rules.proofs.LawLemmas.{fields-stay, names-alike}
use Rattle.cat_rules.specs.CounterRule.{is_not_past}
use Rattle.commit_rules.specs.Lawful.{IsTableWrong, seen_then}
use Rattle.commit_rules.specs.Laws.{RuleStays}
use Rattle.commit_rules.proofs.CoreLemmas.{IsCommit, after, after-commit, first_after, rule_stays}
use Rattle.commit_rules.proofs.HistoryLemmas.{holds-all}
use Rattle.commit_rules.proofs.CounterLemmas.{counted_before}
use Rattle.commit_rules.proofs.NextLemmas.{all_next, all_visible, at_head, sees_still}
use Rattle.commit_rules.proofs.StatsLemmas.{below, grow, seen_there, table_below, table_still}
use Rattle.commit_rules.proofs.TableLemmas.{FindsNew, row_of-ended, row_of-put_all, In, all_by, all_in}
use Rattle.std.specs.List.{AllByRecursion}
use Rattle.cat_rows.specs.declared.batch.Key.{Key}

abbrev AreColumnsWrong : Tables → Seen → Key → Type 0
AreColumnsWrong t seen k = IsColumnless seen k ⊎ (IsCrowdedColumn seen k ⊎ IsColumnBad t seen k)

-- what doesn't speak of the end of the row that is found
pub has_open : {R : Type 0} (open_row : R → R) (P : R → Type 0) → ((r : R) → P r → P (open_row r)) → (o : Option R) → HasRow o P → HasRow (option_map open_row o) P
has_open open_row P f None h = absurd h
has_open open_row P f (Some r) h = f r h

pub open_has : {R : Type 0} (open_row : R → R) (P : R → Type 0) → ((r : R) → P (open_row r) → P r) → (o : Option R) → HasRow (option_map open_row o) P → HasRow o P
open_has open_row P f None h = absurd h
open_has open_row P f (Some r) h = f r h

pub has_more : {R : Type 0} (P Q : R → Type 0) → ((r : R) → P r → Q r) → (o : Option R) → HasRow o P → HasRow o Q
has_more P Q f None h = absurd h
has_more P Q f (Some r) h = f r h

module _ (t : Tables) (head : SnapshotRow) (p : Parts) (endings : Endings) (c : IsCommit t head p endings) where
  abbrev u : Tables
  u = after t head p endings c

  abbrev before : Seen
  before = seen_at head.snapshot_id t

  abbrev now : Seen
  now = seen_then t head p endings

  schemas_after : Holds (IsSchemaNameBad u)
  schemas_after = rule_stays t head p endings c (λ _. IsSchemaNameUsed) (λ s kept h. h) c.sane.1.1.1.0 c.lawful.schemas

  -- ---- tables

  tables_still : (s : ℕ) → IsKept t s → Holds (IsTableWrong t (seen_at s t)) → Holds (IsTableWrong u (seen_at s t))
  tables_still s kept h k (inl bad) =
      names-alike (missing_or_own (schema_of t) schema_id_of of_table) (missing_or_own (schema_of u) schema_id_of of_table) (λ (r : TableRow). row_of schema_key (r.schema_id ∷ []) (seen_at s t).schema ≡ None) (seen_at s t).table (λ j x. h j (inl x)) k bad
  tables_still s kept h k (inr bad) = h k (inr bad)

  tables_after : Holds (IsTableBad u)
  tables_after = rule_stays t head p endings c IsTableWrong tables_still c.sane.1.1.1.1.0 c.lawful.tables

  -- ---- columns

  -- a row that was there is there
  column_there : (k : List ℕ) → HasRow (row_of column_key k t.column) (λ q. Unit {0}) → HasRow (row_of column_key k u.column) (λ q. Unit {0})
  column_there k h =
      ⊎_elim (λ (m : FindsNew column_key k p.column (row_of column_key k u.column)). subst (λ o. HasRow o (λ (q : ColumnRow). Unit {0})) (sym m.is) tt)
      (λ m.
      subst (λ o. HasRow o (λ (q : ColumnRow). Unit {0})) (sym m.is)
      (open_has (column_validity.with_end None) (λ q. Unit {0}) (λ r x. x) _
      (subst (λ o. HasRow o (λ (q : ColumnRow). Unit {0})) (sym (row_of-ended column_key column_validity column_laws k p.snapshot.snapshot_id p.ended_column t.column)) (has_open (column_validity.with_end None) (λ q. Unit {0}) (λ r x. x) (row_of column_key k t.column) h))))
      (row_of-put_all column_key k p.column _)

  initial_still : (r : ColumnRow) → holds t (key.Table r.table_id) ≡ true → LacksInitial u r → LacksInitial t r
  initial_still r there lacks = (
    lacks.0,
    (
      lacks.1.0,
      has_more
          (λ (q : TableRow). ((kept_of u.snapshot).first ≤ q.begin_snapshot) × (BeginsAt u r q.begin_snapshot → ⊥))
          (λ (q : TableRow). ((kept_of t.snapshot).first ≤ q.begin_snapshot) × (BeginsAt t r q.begin_snapshot → ⊥))
          (λ q x. (subst (λ first. first ≤ q.begin_snapshot) (first_after t head p endings c) x.0, λ begins. x.1 (column_there (r.table_id ∷ r.column_id ∷ q.begin_snapshot ∷ []) begins))) (table_of t r.table_id) found_before,
    ),
  )
    where
      Then : TableRow → Type 0
      Then q = ((kept_of u.snapshot).first ≤ q.begin_snapshot) × (BeginsAt u r q.begin_snapshot → ⊥)

      found_before : HasRow (table_of t r.table_id) Then
      found_before =
          open_has (table_validity.with_end None) Then (λ q x. x) (table_of t r.table_id)
          (subst (λ o. HasRow o Then) (table_still t head p endings c r.table_id (table_below t head p endings c r.table_id there)) (has_open (table_validity.with_end None) Then (λ q x. x) (table_of u r.table_id) lacks.1.1))

  column_still : (r : ColumnRow) → holds t (key.Table r.table_id) ≡ true → (IsColumnWrong t r → ⊥) → IsColumnWrong u r → ⊥
  column_still r there fine (inl bad) = fine (inl bad)
  column_still r there fine (inr (inl bad)) = fine (inr (inl bad))
  column_still r there fine (inr (inr (inl bad))) = fine (inr (inr (inl bad)))
  column_still r there fine (inr (inr (inr (inl bad)))) = fine (inr (inr (inr (inl (initial_still r there bad)))))
  column_still r there fine (inr (inr (inr (inr (inl bad))))) = fine (inr (inr (inr (inr (inl bad)))))
  column_still r there fine (inr (inr (inr (inr (inr bad))))) = fields-stay t u r.table_id r.column_id (grow t head p endings c r.table_id there) (λ x. fine (inr (inr (inr (inr (inr x)))))) bad

  columns_still : (s : ℕ) → IsKept t s → Holds (AreColumnsWrong t (seen_at s t)) → Holds (AreColumnsWrong u (seen_at s t))
  columns_still s kept h k (inl bad) = h k (inl bad)
  columns_still s kept h k (inr (inl bad)) = h k (inr (inl bad))
  columns_still s kept h k (inr (inr bad)) =
      holds-all of_column (Wrong u) (seen_at s t).column
      (all_like (λ r. Wrong t r → ⊥) (λ r. Wrong u r → ⊥) (λ r fine x. column_still r (seen_there t head p endings c s r.table_id x.0) (λ y. fine (x.0, y)) x.1) (seen_at s t).column
      (all_fine of_column (Wrong t) (seen_at s t).column (λ j x. h j (inr (inr x))))) k bad
    where
      Wrong : Tables → ColumnRow → Type 0
      Wrong tables r = SeesTable (seen_at s t) r.table_id × IsColumnWrong tables r

  -- a column that was seen is right with its table, if it's still seen
  column_seen : (r : ColumnRow) → In r before.column → SeesTable now r.table_id × IsColumnWrong u r → ⊥
  column_seen r there bad =
      let low = all_in (λ (q : ColumnRow). q.table_id < head.next_catalog_id) r before.column (all_visible column_validity (λ (q : ColumnRow). q.table_id < head.next_catalog_id) (λ q h. h) head.snapshot_id t.column columns_below) there in
      let sees = sees_still t head p endings c r.table_id low bad.0 in
      column_still r (seen_there t head p endings c head.snapshot_id r.table_id sees)
      (λ wrong. all_in (λ (q : ColumnRow). SeesTable before q.table_id × IsColumnWrong t q → ⊥) r before.column
      (all_fine of_column (λ (q : ColumnRow). SeesTable before q.table_id × IsColumnWrong t q) before.column (λ k x. at_head t head p endings c AreColumnsWrong c.sane.1.1.1.1.1.0 k (inr (inr x)))) there (sees, wrong)) bad.1
    where
      columns_below : AllByRecursion (λ (q : ColumnRow). q.table_id < head.next_catalog_id) t.column
      columns_below =
          all_like _ (λ (q : ColumnRow). q.table_id < head.next_catalog_id) (λ q fine. below head.next_catalog_id q.table_id fine) t.column
          (all_fine of_column (λ (q : ColumnRow). is_not_past head.next_catalog_id q.table_id ≡ true) t.column (λ k h. counted_before t head p endings c k (inr (inr (inr (inl h))))))

  columns_now : Holds (AreColumnsWrong u now)
  columns_now k (inl bad) = c.lawful.columns.some k bad
  columns_now k (inr (inl bad)) = c.lawful.columns.differ k bad
  columns_now k (inr (inr bad)) =
      holds-all of_column (λ (r : ColumnRow). SeesTable now r.table_id × IsColumnWrong u r) now.column
      (all_next (λ (r : ColumnRow). SeesTable now r.table_id × IsColumnWrong u r → ⊥) _ before.column p.column (all_by (λ (r : ColumnRow). SeesTable now r.table_id × IsColumnWrong u r → ⊥) before.column column_seen)
      (all_like (λ (r : ColumnRow). IsColumnWrong u r → ⊥) (λ (r : ColumnRow). SeesTable now r.table_id × IsColumnWrong u r → ⊥) (λ r fine x. fine x.1) p.column c.lawful.columns.new)) k bad

  columns_after : Holds (AreColumnsBad u)
  columns_after = rule_stays t head p endings c AreColumnsWrong columns_still c.sane.1.1.1.1.1.0 columns_now

pub schemas-stay : RuleStays IsSchemaNameBad
schemas-stay = after-commit (λ (u : Tables). Holds (IsSchemaNameBad u)) schemas_after

pub tables-stay : RuleStays IsTableBad
tables-stay = after-commit (λ (u : Tables). Holds (IsTableBad u)) tables_after

pub columns-stay : RuleStays AreColumnsBad
columns-stay = after-commit (λ (u : Tables). Holds (AreColumnsBad u)) columns_after
