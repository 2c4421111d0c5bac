-- A batch of changes to the catalogue's rows: what it does to each table, and when it fits.
use Rattle.std.specs.Prelude.{◌≡◌, ◌≢◌, ◌≤◌, ℕ, Bool, true, false, List, [], ◌∷◌, filter, fold, length, map, Option, IsTrue, is_none, is_some}
use Rattle.std.specs.List.{AllByRecursion}
use Rattle.std.specs.Option.{option_map_or}
use Rattle.cat_tables.specs.Table.{IsAscending, put, without, edited, row_of}
use Rattle.cat_tables.specs.Validity.{Validity, ended_at}
use Rattle.cat_rows.specs.Keys.{metadata_key, snapshot_key, snapshot_changes_key, schema_key, table_key, column_key, data_file_key, delete_file_key, file_column_stats_key, table_stats_key, inlined_row_key, scheduled_file_key}
use Rattle.cat_rows.specs.Validities.{schema_validity, table_validity, column_validity, data_file_validity, delete_file_validity, inlined_row_validity}
use Rattle.cat_rows.specs.Tables.{Tables}
use Rattle.cat_rows.specs.declared.content.CatRows.{CatRows}
use Rattle.cat_rows.specs.declared.batch.Batch.{Batch}
use Rattle.cat_rows.specs.declared.batch.CatRow.{CatRow}
use Rattle.cat_rows.specs.declared.batch.CatRow.TheVariants as row
use Rattle.cat_rows.specs.declared.batch.Key.{Key}
use Rattle.cat_rows.specs.declared.cat_table.CatTable.{CatTable}
use Rattle.cat_rows.specs.declared.cat_table.CatTable.TheVariants as cat_table
use Rattle.cat_rows.specs.declared.batch.Key.TheVariants as key

-- the rows, without the room that there is for more
abbrev pub tables_of : CatRows → Tables
tables_of c = record {
  metadata = c.metadata.rows;
  snapshot = c.snapshot.rows;
  snapshot_changes = c.snapshot_changes.rows;
  schema = c.schema.rows;
  table = c.table.rows;
  column = c.column.rows;
  data_file = c.data_file.rows;
  delete_file = c.delete_file.rows;
  file_column_stats = c.file_column_stats.rows;
  table_stats = c.table_stats.rows;
  inlined_row = c.inlined_row.rows;
  scheduled_file = c.scheduled_file.rows;
}

-- one more row, at its place
abbrev pub added : Tables → CatRow → Tables
added t (row.Metadata r) = record t { metadata = put metadata_key r t.metadata }
added t (row.Snapshot r) = record t { snapshot = put snapshot_key r t.snapshot }
added t (row.SnapshotChanges r) = record t { snapshot_changes = put snapshot_changes_key r t.snapshot_changes }
added t (row.Schema r) = record t { schema = put schema_key r t.schema }
added t (row.Table r) = record t { table = put table_key r t.table }
added t (row.Column r) = record t { column = put column_key r t.column }
added t (row.DataFile r) = record t { data_file = put data_file_key r t.data_file }
added t (row.DeleteFile r) = record t { delete_file = put delete_file_key r t.delete_file }
added t (row.FileColumnStats r) = record t { file_column_stats = put file_column_stats_key r t.file_column_stats }
added t (row.TableStats r) = record t { table_stats = put table_stats_key r t.table_stats }
added t (row.Inlined r) = record t { inlined_row = put inlined_row_key r t.inlined_row }
added t (row.ScheduledFile r) = record t { scheduled_file = put scheduled_file_key r t.scheduled_file }

-- the row of a key is gone
abbrev pub removed : Tables → Key → Tables
removed t (key.Metadata a) = record t { metadata = without metadata_key a t.metadata }
removed t (key.Snapshot a) = record t { snapshot = without snapshot_key (a ∷ []) t.snapshot }
removed t (key.SnapshotChanges a) = record t { snapshot_changes = without snapshot_changes_key (a ∷ []) t.snapshot_changes }
removed t (key.Schema a) = record t { schema = without schema_key (a ∷ []) t.schema }
removed t (key.Table a) = record t { table = without table_key (a ∷ []) t.table }
removed t (key.Column a b c) = record t { column = without column_key (a ∷ b ∷ c ∷ []) t.column }
removed t (key.DataFile a) = record t { data_file = without data_file_key (a ∷ []) t.data_file }
removed t (key.DeleteFile a) = record t { delete_file = without delete_file_key (a ∷ []) t.delete_file }
removed t (key.FileColumnStats a b) = record t { file_column_stats = without file_column_stats_key (a ∷ b ∷ []) t.file_column_stats }
removed t (key.TableStats a) = record t { table_stats = without table_stats_key (a ∷ []) t.table_stats }
removed t (key.Inlined a b c) = record t { inlined_row = without inlined_row_key (a ∷ b ∷ c ∷ []) t.inlined_row }
removed t (key.ScheduledFile a) = record t { scheduled_file = without scheduled_file_key a t.scheduled_file }

-- the row of a key ends at n, where it has no end; a table without ends stays
abbrev pub ended_row : Tables → Key → ℕ → Tables
ended_row t (key.Schema a) n = record t { schema = edited schema_key (ended_at schema_validity n) (a ∷ []) t.schema }
ended_row t (key.Table a) n = record t { table = edited table_key (ended_at table_validity n) (a ∷ []) t.table }
ended_row t (key.Column a b c) n = record t { column = edited column_key (ended_at column_validity n) (a ∷ b ∷ c ∷ []) t.column }
ended_row t (key.DataFile a) n = record t { data_file = edited data_file_key (ended_at data_file_validity n) (a ∷ []) t.data_file }
ended_row t (key.DeleteFile a) n = record t { delete_file = edited delete_file_key (ended_at delete_file_validity n) (a ∷ []) t.delete_file }
ended_row t (key.Inlined a b c) n = record t { inlined_row = edited inlined_row_key (ended_at inlined_row_validity n) (a ∷ b ∷ c ∷ []) t.inlined_row }
ended_row t k n = t

abbrev pub ended : Tables → Key × ℕ → Tables
ended t e = ended_row t e.0 e.1

-- the rows after a batch: removals, then ends, then additions
abbrev pub applied : Batch → Tables → Tables
applied b t = fold added (fold ended (fold removed t b.removes) b.ends) b.adds

-- the key of a row
abbrev pub key_of : CatRow → Key
key_of (row.Metadata r) = key.Metadata r.key
key_of (row.Snapshot r) = key.Snapshot r.snapshot_id
key_of (row.SnapshotChanges r) = key.SnapshotChanges r.snapshot_id
key_of (row.Schema r) = key.Schema r.schema_id
key_of (row.Table r) = key.Table r.table_id
key_of (row.Column r) = key.Column r.table_id r.column_id r.begin_snapshot
key_of (row.DataFile r) = key.DataFile r.data_file_id
key_of (row.DeleteFile r) = key.DeleteFile r.delete_file_id
key_of (row.FileColumnStats r) = key.FileColumnStats r.data_file_id r.column_id
key_of (row.TableStats r) = key.TableStats r.table_id
key_of (row.Inlined r) = key.Inlined r.table_id r.row_id r.begin_snapshot
key_of (row.ScheduledFile r) = key.ScheduledFile r.path

-- whether there is a row of a key
abbrev pub holds : Tables → Key → Bool
holds t (key.Metadata a) = is_some (row_of metadata_key a t.metadata)
holds t (key.Snapshot a) = is_some (row_of snapshot_key (a ∷ []) t.snapshot)
holds t (key.SnapshotChanges a) = is_some (row_of snapshot_changes_key (a ∷ []) t.snapshot_changes)
holds t (key.Schema a) = is_some (row_of schema_key (a ∷ []) t.schema)
holds t (key.Table a) = is_some (row_of table_key (a ∷ []) t.table)
holds t (key.Column a b c) = is_some (row_of column_key (a ∷ b ∷ c ∷ []) t.column)
holds t (key.DataFile a) = is_some (row_of data_file_key (a ∷ []) t.data_file)
holds t (key.DeleteFile a) = is_some (row_of delete_file_key (a ∷ []) t.delete_file)
holds t (key.FileColumnStats a b) = is_some (row_of file_column_stats_key (a ∷ b ∷ []) t.file_column_stats)
holds t (key.TableStats a) = is_some (row_of table_stats_key (a ∷ []) t.table_stats)
holds t (key.Inlined a b c) = is_some (row_of inlined_row_key (a ∷ b ∷ c ∷ []) t.inlined_row)
holds t (key.ScheduledFile a) = is_some (row_of scheduled_file_key a t.scheduled_file)

abbrev pub has_no_end : {R : Type 0} → Validity R → Option R → Bool
has_no_end v r = option_map_or (λ q. is_none (v.end q)) r false

-- whether there is a row of a key that has no end, in a table whose rows end
abbrev pub is_open : Tables → Key → Bool
is_open t (key.Schema a) = has_no_end schema_validity (row_of schema_key (a ∷ []) t.schema)
is_open t (key.Table a) = has_no_end table_validity (row_of table_key (a ∷ []) t.table)
is_open t (key.Column a b c) = has_no_end column_validity (row_of column_key (a ∷ b ∷ c ∷ []) t.column)
is_open t (key.DataFile a) = has_no_end data_file_validity (row_of data_file_key (a ∷ []) t.data_file)
is_open t (key.DeleteFile a) = has_no_end delete_file_validity (row_of delete_file_key (a ∷ []) t.delete_file)
is_open t (key.Inlined a b c) = has_no_end inlined_row_validity (row_of inlined_row_key (a ∷ b ∷ c ∷ []) t.inlined_row)
is_open t k = false

-- no two of these are the same
abbrev pub AllDiffer : {X : Type 0} → List X → Type 0
AllDiffer = IsAscending (λ a b. a ≢ b)

-- A batch fits: no key stands twice in one of its lists, removed keys are there, ended rows have no end and
-- aren't removed, and added keys aren't there once the removed ones are gone.
pub record Fits (t : Tables) (b : Batch) : Type 0 where
  pub removes_differ : AllDiffer b.removes
  pub ends_differ : AllDiffer (map (λ e. e.0) b.ends)
  pub adds_differ : AllDiffer (map key_of b.adds)
  pub removed_there : AllByRecursion (λ k. IsTrue (holds t k)) b.removes
  pub ended_open : AllByRecursion (λ e. IsTrue (is_open t e.0)) b.ends
  pub ended_stay : AllByRecursion (λ e. AllByRecursion (λ k. k ≢ e.0) b.removes) b.ends
  pub added_new : AllByRecursion (λ r. holds (fold removed t b.removes) (key_of r) ≡ false) b.adds

-- whether a row is one of a table
abbrev pub is_in : CatTable → CatRow → Bool
is_in cat_table.Metadata (row.Metadata r) = true
is_in cat_table.Snapshot (row.Snapshot r) = true
is_in cat_table.SnapshotChanges (row.SnapshotChanges r) = true
is_in cat_table.Schema (row.Schema r) = true
is_in cat_table.Table (row.Table r) = true
is_in cat_table.Column (row.Column r) = true
is_in cat_table.DataFile (row.DataFile r) = true
is_in cat_table.DeleteFile (row.DeleteFile r) = true
is_in cat_table.FileColumnStats (row.FileColumnStats r) = true
is_in cat_table.TableStats (row.TableStats r) = true
is_in cat_table.Inlined (row.Inlined r) = true
is_in cat_table.ScheduledFile (row.ScheduledFile r) = true
is_in _ _ = false

-- how many of these rows are of one table
abbrev pub count_in : CatTable → List CatRow → ℕ
count_in table rows = length (filter (is_in table) rows)

-- each table has room for its rows among these
pub record Covers (c : CatRows) (adds : List CatRow) : Type 0 where
  pub metadata : count_in cat_table.Metadata adds ≤ c.metadata.room
  pub snapshot : count_in cat_table.Snapshot adds ≤ c.snapshot.room
  pub snapshot_changes : count_in cat_table.SnapshotChanges adds ≤ c.snapshot_changes.room
  pub schema : count_in cat_table.Schema adds ≤ c.schema.room
  pub table : count_in cat_table.Table adds ≤ c.table.room
  pub column : count_in cat_table.Column adds ≤ c.column.room
  pub data_file : count_in cat_table.DataFile adds ≤ c.data_file.room
  pub delete_file : count_in cat_table.DeleteFile adds ≤ c.delete_file.room
  pub file_column_stats : count_in cat_table.FileColumnStats adds ≤ c.file_column_stats.room
  pub table_stats : count_in cat_table.TableStats adds ≤ c.table_stats.room
  pub inlined_row : count_in cat_table.Inlined adds ≤ c.inlined_row.room
  pub scheduled_file : count_in cat_table.ScheduledFile adds ≤ c.scheduled_file.room

-- no table has less room
pub record KeepsRoom (old new : CatRows) : Type 0 where
  pub metadata : old.metadata.room ≤ new.metadata.room
  pub snapshot : old.snapshot.room ≤ new.snapshot.room
  pub snapshot_changes : old.snapshot_changes.room ≤ new.snapshot_changes.room
  pub schema : old.schema.room ≤ new.schema.room
  pub table : old.table.room ≤ new.table.room
  pub column : old.column.room ≤ new.column.room
  pub data_file : old.data_file.room ≤ new.data_file.room
  pub delete_file : old.delete_file.room ≤ new.delete_file.room
  pub file_column_stats : old.file_column_stats.room ≤ new.file_column_stats.room
  pub table_stats : old.table_stats.room ≤ new.table_stats.room
  pub inlined_row : old.inlined_row.room ≤ new.inlined_row.room
  pub scheduled_file : old.scheduled_file.room ≤ new.scheduled_file.room
