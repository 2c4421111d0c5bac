-- What is asked of a commit for its batch to be made, and the batch.
use Rattle.std.specs.Prelude.{◌≡◌, ◌≤◌, ◌<◌, ◌+◌, ◌^◌, ◌++◌, ℕ, ℤ, List, Option, Some, None, IfSome, Result, Ok, Err}
use Rattle.std.specs.List.{AllByRecursion}
use Rattle.lake_types.specs.Kinds.{changes_text}
use Rattle.lake_types.specs.declared.kind.SchemaName.{SchemaName}
use Rattle.lake_types.specs.declared.limits.TheConstants.{MAX_COUNTER}
use Rattle.lake_model.specs.Creations.{made_schemas}
use Rattle.lake_model.specs.Growth.{made_tables}
use Rattle.lake_model.specs.Kinds.{drops_schema, drops_table, kinds}
use Rattle.lake_model.specs.declared.answer.Counter.{Counter}
use Rattle.lake_model.specs.declared.change.Change.{Change}
use Rattle.lake_model.specs.declared.change.Ref.TheVariants as ref
use Rattle.cat_rows.specs.Parts.{batch_of}
use Rattle.cat_rows.specs.Tables.{Tables}
use Rattle.cat_rows.specs.Validities as validities
use Rattle.cat_rows.specs.declared.batch.Batch.{Batch}
use Rattle.cat_rows.specs.declared.batch.CatRow.{CatRow}
use Rattle.cat_rows.specs.declared.batch.Key.{Key}
use Rattle.cat_rows.specs.declared.files.DataFileRow.{DataFileRow}
use Rattle.cat_rows.specs.declared.files.DeleteFileRow.{DeleteFileRow}
use Rattle.cat_rows.specs.declared.files.TableStatsRow.{TableStatsRow}
use Rattle.cat_rows.specs.declared.history.SnapshotChangesRow.{SnapshotChangesRow}
use Rattle.cat_rows.specs.declared.history.SnapshotRow.{SnapshotRow}
use Rattle.cat_rows.specs.declared.inlined.InlinedRow.{InlinedRow}
use Rattle.cat_rows.specs.declared.schemas.ColumnRow.{ColumnRow}
use Rattle.cat_rows.specs.declared.schemas.SchemaRow.{SchemaRow}
use Rattle.cat_rows.specs.declared.schemas.TableRow.{TableRow}
use Rattle.cat_view.specs.Staged.{NamedStagedTable}
use Rattle.rebase.specs.Ends.{column_named, data_file_named, delete_file_named, ended, inlined_named, schema_named, table_named}
use Rattle.rebase.specs.Files.{HaveTexts, file_adds, file_stats_adds}
use Rattle.rebase.specs.Made.{HasFittingDefaults, columns_adds, schema_adds, table_adds}
use Rattle.rebase.specs.Parts.{FreshFile, fresh_files, going, old_stats, parts_of, restated_of}
use Rattle.rebase.specs.Stats.{made_adds, stats_adds}
use Rattle.rebase.specs.declared.made.Place.{Place}
use Rattle.rebase.specs.declared.no.BatchNo.{BatchNo}
use Rattle.rebase.specs.declared.no.BatchNo.TheVariants as no

-- the record count of an old table has 64 bits with a file's rows
abbrev pub HasRecords : Tables → FreshFile → Type 0
HasRecords t x = IfSome (old_stats t x.table) (λ (r : TableStatsRow). r.record_count + x.file.rows < 2 ^ 64)

-- The defaults of created columns fit their types, the bounds of staged files have texts, and record counts stay small.
pub record CanBeMade (t : Tables) (own : List Change) (files : List FreshFile) : Type 0 where
  pub columns : AllByRecursion HasFittingDefaults own
  pub texts : AllByRecursion HaveTexts files
  pub records : AllByRecursion (HasRecords t) files

-- no counter of the newest snapshot passes its last value
pub record HasCounters (head : SnapshotRow) (created files : ℕ) : Type 0 where
  pub catalog : head.next_catalog_id + created ≤ MAX_COUNTER
  pub file : head.next_file_id + files ≤ MAX_COUNTER
  pub snapshot : head.snapshot_id + 1 ≤ MAX_COUNTER

-- the batch of a list at this newest snapshot, whose schemas have these names
abbrev pub batch_at : Tables → SnapshotRow → ℤ → List SchemaName → List Change → List NamedStagedTable → Batch
batch_at t head time names own staged = batch_of (parts_of t head time (changes_text (kinds names own)) own staged)

-- a counter is told to be spent exactly where it is the first one
abbrev pub IsSpentBy : Result Batch BatchNo → Option Counter → Type 0
IsSpentBy (Ok batch) first = first ≡ None
IsSpentBy (Err (no.Spent counter)) first = first ≡ Some counter
IsSpentBy (Err no.Memory) first = Unit {0}

-- ---- what ends, table by table

abbrev pub all_ended : Tables → List Change → ℕ → List (Key × ℕ)
all_ended t own at =
    ended schema_named at (going validities.schema_validity (λ (r : SchemaRow). drops_schema own (ref.Old r.schema_id)) t.schema)
    ++ ended table_named at (going validities.table_validity (λ (r : TableRow). drops_table own (ref.Old r.table_id)) t.table)
    ++ ended column_named at (going validities.column_validity (λ (r : ColumnRow). drops_table own (ref.Old r.table_id)) t.column)
    ++ ended data_file_named at (going validities.data_file_validity (λ (r : DataFileRow). drops_table own (ref.Old r.table_id)) t.data_file)
    ++ ended delete_file_named at (going validities.delete_file_validity (λ (r : DeleteFileRow). drops_table own (ref.Old r.table_id)) t.delete_file)
    ++ ended inlined_named at (going validities.inlined_row_validity (λ (r : InlinedRow). drops_table own (ref.Old r.table_id)) t.inlined_row)

-- ---- what is added, in its order

abbrev pub next_snapshot : SnapshotRow → ℤ → ℕ → ℕ → SnapshotRow
next_snapshot head time created files = record {
  snapshot_id = head.snapshot_id + 1;
  snapshot_time = time;
  next_catalog_id = head.next_catalog_id + created;
  next_file_id = head.next_file_id + files;
}

abbrev pub changes_row : ℕ → List SchemaName → List Change → SnapshotChangesRow
changes_row snapshot names own = record { snapshot_id = snapshot; changes_made = changes_text (kinds names own) }

abbrev pub with_created : Place → List Change → List CatRow → List CatRow
with_created p own adds = adds ++ schema_adds p (made_schemas 0 own) ++ table_adds p (made_tables 0 own) ++ columns_adds p (made_tables 0 own)

abbrev pub with_staged : Tables → Place → ℕ → List Change → List NamedStagedTable → List CatRow → List CatRow
with_staged t p first_file own staged adds =
    adds ++ file_adds t p first_file (fresh_files staged) ++ file_stats_adds first_file (fresh_files staged) ++ stats_adds (restated_of t (fresh_files staged))
    ++ made_adds p staged (made_tables 0 own)
