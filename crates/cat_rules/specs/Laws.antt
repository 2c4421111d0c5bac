-- Rules over what kept snapshots see stay after a batch, where they hold at the new snapshot. Rules on counters stay where
-- these grow.
use Rattle.std.specs.Prelude.{◌≡◌, ◌≤◌, ℕ, false, [], ◌∷◌, ◌++◌, Option, Some, None}
use Rattle.cat_rows.specs.declared.inlined.InlinedRow.{InlinedRow}
use Rattle.cat_rules.specs.InlinedRule.{HasWrongRowId}
use Rattle.cat_rules.specs.DataFileRule.{has_row_id_past}
use Rattle.std.specs.List.{AllByRecursion}
use Rattle.cat_rows.specs.Batches.{applied}
use Rattle.cat_rows.specs.Seen.{Seen, seen_at, IsPast}
use Rattle.cat_rows.specs.Tables.{Tables}
use Rattle.cat_rows.specs.declared.batch.Batch.{Batch}
use Rattle.cat_rows.specs.declared.batch.Key.{Key}
use Rattle.cat_rows.specs.declared.files.TableStatsRow.{TableStatsRow}
use Rattle.cat_rows.specs.declared.history.SnapshotRow.{SnapshotRow}
use Rattle.cat_rules.specs.CounterRule.{IsPastCounters, has_large_id}
use Rattle.cat_rules.specs.EachKept.{AtKept}
use Rattle.cat_rules.specs.First.{Holds}
use Rattle.cat_rules.specs.Lookups.{IsFieldPast, stats_of_table}

-- the batch makes this snapshot, and is past all that are kept
pub record MakesSnapshot (t : Tables) (b : Batch) (new : SnapshotRow) : Type 0 where
  pub snapshots : (applied b t).snapshot ≡ t.snapshot ++ new ∷ []
  pub past : AllByRecursion (λ (q : SnapshotRow). IsPast q.snapshot_id t b) t.snapshot

-- A rule over what each kept snapshot sees: where it held, it holds after a batch if it holds at the new snapshot.
abbrev pub StaysAfter : (Tables → Seen → Key → Type 0) → Type 0
StaysAfter Bad =
    (t : Tables) (b : Batch) (new : SnapshotRow) → MakesSnapshot t b new → Holds (AtKept (Bad t) t) → Holds (Bad (applied b t) (seen_at new.snapshot_id (applied b t)))
    → Holds (AtKept (Bad (applied b t)) (applied b t))

-- ---- counters

-- the statistics of a table, where they are there, were there before with counters that are no larger
abbrev pub Grow : Option TableStatsRow → Option TableStatsRow → Type 0
Grow old None = Unit {0}
Grow None (Some new) = ⊥
Grow (Some old) (Some new) = (old.next_row_id ≤ new.next_row_id) × (old.next_field_id ≤ new.next_field_id)

abbrev pub FieldsStay : Type 0
FieldsStay = (t u : Tables) (table field : ℕ) → Grow (stats_of_table t table) (stats_of_table u table) → (IsFieldPast t table field → ⊥) → IsFieldPast u table field → ⊥

-- a file whose row ids are below the table's next one, and an inlined row
abbrev pub RowIdsStay : Type 0
RowIdsStay = (old new : Option TableStatsRow) (start : Option ℕ) (count : ℕ) → Grow old new → has_row_id_past old start count ≡ false → has_row_id_past new start count ≡ false

abbrev pub InlinedIdsStay : Type 0
InlinedIdsStay = (t u : Tables) (r : InlinedRow) → Grow (stats_of_table t r.table_id) (stats_of_table u r.table_id) → (HasWrongRowId t r → ⊥) → HasWrongRowId u r → ⊥

abbrev pub CountersStay : Type 0
CountersStay =
    (t : Tables) (old new : SnapshotRow) → old.next_catalog_id ≤ new.next_catalog_id → old.next_file_id ≤ new.next_file_id → has_large_id new ≡ false
    → Holds (IsPastCounters t old) → Holds (IsPastCounters t new)
