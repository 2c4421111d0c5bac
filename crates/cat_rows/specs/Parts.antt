-- The batch of a commit, made of parts: its snapshot and the changes text, the rows of each table that begin, those
-- that end, and the statistics of tables that are replaced.
use Rattle.std.specs.Prelude.{◌≡◌, ℕ, ◌+◌, Bool, not, List, [], ◌∷◌, ◌++◌, filter, map}
use Rattle.std.specs.List.{AllByRecursion}
use Rattle.cat_tables.specs.Table.{ArePast, RisesByKey, all_removed, put, put_all}
use Rattle.cat_tables.specs.Validity.{IsBy, IsNew, Validity, all_ended, ends_at, visible_at}
use Rattle.cat_rows.specs.Batches.{applied}
use Rattle.cat_rows.specs.Keys.{snapshot_key, snapshot_changes_key, schema_key, table_key, column_key, data_file_key, delete_file_key, file_column_stats_key, table_stats_key, inlined_row_key}
use Rattle.cat_rows.specs.Validities.{schema_validity, table_validity, column_validity, data_file_validity, delete_file_validity, inlined_row_validity}
use Rattle.cat_rows.specs.Seen.{Seen, seen_at}
use Rattle.cat_rows.specs.Tables.{Tables}
use Rattle.cat_rows.specs.declared.history.SnapshotRow.{SnapshotRow}
use Rattle.cat_rows.specs.declared.history.SnapshotChangesRow.{SnapshotChangesRow}
use Rattle.cat_rows.specs.declared.schemas.SchemaRow.{SchemaRow}
use Rattle.cat_rows.specs.declared.schemas.TableRow.{TableRow}
use Rattle.cat_rows.specs.declared.schemas.ColumnRow.{ColumnRow}
use Rattle.cat_rows.specs.declared.files.DataFileRow.{DataFileRow}
use Rattle.cat_rows.specs.declared.files.DeleteFileRow.{DeleteFileRow}
use Rattle.cat_rows.specs.declared.files.FileColumnStatsRow.{FileColumnStatsRow}
use Rattle.cat_rows.specs.declared.files.TableStatsRow.{TableStatsRow}
use Rattle.cat_rows.specs.declared.inlined.InlinedRow.{InlinedRow}
use Rattle.cat_rows.specs.declared.batch.Batch.{Batch}
use Rattle.cat_rows.specs.declared.batch.CatRow.TheVariants as row
use Rattle.cat_rows.specs.declared.batch.Key.TheVariants as key

pub record Parts : Type 0 where
  pub snapshot : SnapshotRow
  pub changes : SnapshotChangesRow
  pub schema : List SchemaRow
  pub table : List TableRow
  pub column : List ColumnRow
  pub data_file : List DataFileRow
  pub delete_file : List DeleteFileRow
  pub file_column_stats : List FileColumnStatsRow
  pub table_stats : List TableStatsRow
  pub inlined_row : List InlinedRow
  pub old_stats : List TableStatsRow
  pub ended_schema : List SchemaRow
  pub ended_table : List TableRow
  pub ended_column : List ColumnRow
  pub ended_data_file : List DataFileRow
  pub ended_delete_file : List DeleteFileRow
  pub ended_inlined_row : List InlinedRow

-- the batch: removals, ends and additions, one table after another
abbrev pub batch_of : Parts → Batch
batch_of p = record {
  removes = map (λ r. key.TableStats r.table_id) p.old_stats;
  ends =
      map (λ (r : SchemaRow). (key.Schema r.schema_id, p.snapshot.snapshot_id)) p.ended_schema
      ++ (map (λ (r : TableRow). (key.Table r.table_id, p.snapshot.snapshot_id)) p.ended_table
      ++ (map (λ (r : ColumnRow). (key.Column r.table_id r.column_id r.begin_snapshot, p.snapshot.snapshot_id)) p.ended_column
      ++ (map (λ (r : DataFileRow). (key.DataFile r.data_file_id, p.snapshot.snapshot_id)) p.ended_data_file
      ++ (map (λ (r : DeleteFileRow). (key.DeleteFile r.delete_file_id, p.snapshot.snapshot_id)) p.ended_delete_file
      ++ (map (λ (r : InlinedRow). (key.Inlined r.table_id r.row_id r.begin_snapshot, p.snapshot.snapshot_id)) p.ended_inlined_row
      ++ ([]))))));
  adds =
      row.Snapshot p.snapshot ∷ row.SnapshotChanges p.changes
      ∷ (map (λ r. row.Schema r) p.schema
      ++ (map (λ r. row.Table r) p.table
      ++ (map (λ r. row.Column r) p.column
      ++ (map (λ r. row.DataFile r) p.data_file
      ++ (map (λ r. row.DeleteFile r) p.delete_file
      ++ (map (λ r. row.FileColumnStats r) p.file_column_stats
      ++ (map (λ r. row.TableStats r) p.table_stats
      ++ (map (λ r. row.Inlined r) p.inlined_row
      ++ ([])))))))));
}

-- the tables after it
abbrev pub with_parts : Parts → Tables → Tables
with_parts p t = record t {
  snapshot = put snapshot_key p.snapshot t.snapshot;
  snapshot_changes = put snapshot_changes_key p.changes t.snapshot_changes;
  schema = put_all schema_key p.schema (all_ended schema_validity schema_key (ends_at schema_key p.snapshot.snapshot_id p.ended_schema) t.schema);
  table = put_all table_key p.table (all_ended table_validity table_key (ends_at table_key p.snapshot.snapshot_id p.ended_table) t.table);
  column = put_all column_key p.column (all_ended column_validity column_key (ends_at column_key p.snapshot.snapshot_id p.ended_column) t.column);
  data_file = put_all data_file_key p.data_file (all_ended data_file_validity data_file_key (ends_at data_file_key p.snapshot.snapshot_id p.ended_data_file) t.data_file);
  delete_file = put_all delete_file_key p.delete_file (all_ended delete_file_validity delete_file_key (ends_at delete_file_key p.snapshot.snapshot_id p.ended_delete_file) t.delete_file);
  file_column_stats = put_all file_column_stats_key p.file_column_stats t.file_column_stats;
  table_stats = put_all table_stats_key p.table_stats (all_removed table_stats_key (map (λ (r : TableStatsRow). r.table_id ∷ []) p.old_stats) t.table_stats);
  inlined_row = put_all inlined_row_key p.inlined_row (all_ended inlined_row_validity inlined_row_key (ends_at inlined_row_key p.snapshot.snapshot_id p.ended_inlined_row) t.inlined_row);
}

abbrev pub AppliesParts : Type 0
AppliesParts = (p : Parts) (t : Tables) → applied (batch_of p) t ≡ with_parts p t

-- ---- what the new snapshot sees

-- the rows of a table rise by key, and none begins or ends past n
pub record IsSettled {R : Type 0} (key : R → List ℕ) (v : Validity R) (n : ℕ) (rows : List R) : Type 0 where
  pub rises : RisesByKey key rows
  pub by : AllByRecursion (IsBy v n) rows

pub record AreSettled (n : ℕ) (t : Tables) : Type 0 where
  pub schema : IsSettled schema_key schema_validity n t.schema
  pub table : IsSettled table_key table_validity n t.table
  pub column : IsSettled column_key column_validity n t.column
  pub data_file : IsSettled data_file_key data_file_validity n t.data_file
  pub delete_file : IsSettled delete_file_key delete_file_validity n t.delete_file
  pub inlined_row : IsSettled inlined_row_key inlined_row_validity n t.inlined_row

-- which of the rows that are seen end
pub record Endings : Type 0 where
  pub schema : SchemaRow → Bool
  pub table : TableRow → Bool
  pub column : ColumnRow → Bool
  pub data_file : DataFileRow → Bool
  pub delete_file : DeleteFileRow → Bool
  pub inlined_row : InlinedRow → Bool

-- Of one table, where n is the newest snapshot: these of the rows that n sees end, and new ones begin at the next
-- snapshot with keys past all.
pub record IsPart {R : Type 0} (key : R → List ℕ) (v : Validity R) (n : ℕ) (ends_now : R → Bool) (ended news rows : List R) : Type 0 where
  pub ends : ended ≡ filter ends_now (visible_at v n rows)
  pub begins : AllByRecursion (IsNew v (n + 1)) news
  pub past : ArePast key news rows

pub record ArePartsOf (t : Tables) (n : ℕ) (p : Parts) (endings : Endings) : Type 0 where
  pub number : p.snapshot.snapshot_id ≡ n + 1
  pub settled : AreSettled n t
  pub schema : IsPart schema_key schema_validity n endings.schema p.ended_schema p.schema t.schema
  pub table : IsPart table_key table_validity n endings.table p.ended_table p.table t.table
  pub column : IsPart column_key column_validity n endings.column p.ended_column p.column t.column
  pub data_file : IsPart data_file_key data_file_validity n endings.data_file p.ended_data_file p.data_file t.data_file
  pub delete_file : IsPart delete_file_key delete_file_validity n endings.delete_file p.ended_delete_file p.delete_file t.delete_file
  pub inlined_row : IsPart inlined_row_key inlined_row_validity n endings.inlined_row p.ended_inlined_row p.inlined_row t.inlined_row

-- the rows that don't end, and the new ones behind them
abbrev pub seen_next : Parts → Endings → Seen → Seen
seen_next p endings seen = record {
  schema = filter (λ r. not (endings.schema r)) seen.schema ++ p.schema;
  table = filter (λ r. not (endings.table r)) seen.table ++ p.table;
  column = filter (λ r. not (endings.column r)) seen.column ++ p.column;
  data_file = filter (λ r. not (endings.data_file r)) seen.data_file ++ p.data_file;
  delete_file = filter (λ r. not (endings.delete_file r)) seen.delete_file ++ p.delete_file;
  inlined_row = filter (λ r. not (endings.inlined_row r)) seen.inlined_row ++ p.inlined_row;
}

abbrev pub SeesParts : Type 0
SeesParts = (t : Tables) (n : ℕ) (p : Parts) (endings : Endings) → ArePartsOf t n p endings
    → seen_at (n + 1) (applied (batch_of p) t) ≡ seen_next p endings (seen_at n t)
