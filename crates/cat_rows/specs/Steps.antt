-- What the steps of a batch say of each other.
use Rattle.std.specs.Prelude.{◌≤◌, ◌&&◌, ◌||◌, ℕ, Bool, true, not, List, [], ◌∷◌, Option, is_some}
use Rattle.std.specs.List.{list_all, list_any, slice_index}
use Rattle.std.specs.Ordering.{is_eq, is_lt}
use Rattle.cat_tables.specs.Table.{LacksKey, key_cmp}
use Rattle.cat_rows.specs.Keys.{metadata_key, snapshot_key, snapshot_changes_key, schema_key, table_key, column_key, data_file_key, delete_file_key, file_column_stats_key, table_stats_key, inlined_row_key, scheduled_file_key}
use Rattle.cat_rows.specs.Batches.{added, count_in, holds, is_open, key_of}
use Rattle.cat_rows.specs.Places.{place}
use Rattle.cat_rows.specs.Tables.{Tables}
use Rattle.cat_rows.specs.declared.content.CatRows.{CatRows}
use Rattle.cat_rows.specs.declared.batch.CatRow.{CatRow}
use Rattle.cat_rows.specs.declared.batch.CatRow.TheVariants as row
use Rattle.cat_rows.specs.declared.batch.Key.{Key}
use Rattle.cat_rows.specs.declared.key_order.KeyRef.{KeyRef}
use Rattle.cat_rows.specs.declared.key_order.KeyRef.TheVariants as key_ref
use Rattle.cat_rows.specs.declared.cat_table.CatTable.TheVariants as cat_table

-- no row has the key of this one
abbrev pub IsFresh : Tables → CatRow → Type 0
IsFresh t (row.Metadata r) = LacksKey metadata_key (metadata_key r) t.metadata
IsFresh t (row.Snapshot r) = LacksKey snapshot_key (snapshot_key r) t.snapshot
IsFresh t (row.SnapshotChanges r) = LacksKey snapshot_changes_key (snapshot_changes_key r) t.snapshot_changes
IsFresh t (row.Schema r) = LacksKey schema_key (schema_key r) t.schema
IsFresh t (row.Table r) = LacksKey table_key (table_key r) t.table
IsFresh t (row.Column r) = LacksKey column_key (column_key r) t.column
IsFresh t (row.DataFile r) = LacksKey data_file_key (data_file_key r) t.data_file
IsFresh t (row.DeleteFile r) = LacksKey delete_file_key (delete_file_key r) t.delete_file
IsFresh t (row.FileColumnStats r) = LacksKey file_column_stats_key (file_column_stats_key r) t.file_column_stats
IsFresh t (row.TableStats r) = LacksKey table_stats_key (table_stats_key r) t.table_stats
IsFresh t (row.Inlined r) = LacksKey inlined_row_key (inlined_row_key r) t.inlined_row
IsFresh t (row.ScheduledFile r) = LacksKey scheduled_file_key (scheduled_file_key r) t.scheduled_file

-- no row's key is there when its turn comes
abbrev pub AreFresh : Tables → List CatRow → Type 0
AreFresh t [] = Unit {0}
AreFresh t (r ∷ rs) = IsFresh t r × AreFresh (added t r) rs

-- the room in the table of a row
abbrev pub room_for : CatRows → CatRow → ℕ
room_for c (row.Metadata r) = c.metadata.room
room_for c (row.Snapshot r) = c.snapshot.room
room_for c (row.SnapshotChanges r) = c.snapshot_changes.room
room_for c (row.Schema r) = c.schema.room
room_for c (row.Table r) = c.table.room
room_for c (row.Column r) = c.column.room
room_for c (row.DataFile r) = c.data_file.room
room_for c (row.DeleteFile r) = c.delete_file.room
room_for c (row.FileColumnStats r) = c.file_column_stats.room
room_for c (row.TableStats r) = c.table_stats.room
room_for c (row.Inlined r) = c.inlined_row.room
room_for c (row.ScheduledFile r) = c.scheduled_file.room

-- all but the table of the row is as before
abbrev pub with_row : CatRows → CatRows → CatRow → CatRows
with_row old new (row.Metadata r) = record old { metadata = new.metadata }
with_row old new (row.Snapshot r) = record old { snapshot = new.snapshot }
with_row old new (row.SnapshotChanges r) = record old { snapshot_changes = new.snapshot_changes }
with_row old new (row.Schema r) = record old { schema = new.schema }
with_row old new (row.Table r) = record old { table = new.table }
with_row old new (row.Column r) = record old { column = new.column }
with_row old new (row.DataFile r) = record old { data_file = new.data_file }
with_row old new (row.DeleteFile r) = record old { delete_file = new.delete_file }
with_row old new (row.FileColumnStats r) = record old { file_column_stats = new.file_column_stats }
with_row old new (row.TableStats r) = record old { table_stats = new.table_stats }
with_row old new (row.Inlined r) = record old { inlined_row = new.inlined_row }
with_row old new (row.ScheduledFile r) = record old { scheduled_file = new.scheduled_file }

-- the place of a key where it stands
abbrev pub ref_place : KeyRef → List ℕ
ref_place (key_ref.Metadata a) = 0 ∷ a.now
ref_place (key_ref.Snapshot a) = 1 ∷ a ∷ []
ref_place (key_ref.SnapshotChanges a) = 2 ∷ a ∷ []
ref_place (key_ref.Schema a) = 3 ∷ a ∷ []
ref_place (key_ref.Table a) = 4 ∷ a ∷ []
ref_place (key_ref.Column a b c) = 5 ∷ a ∷ b ∷ c ∷ []
ref_place (key_ref.DataFile a) = 6 ∷ a ∷ []
ref_place (key_ref.DeleteFile a) = 7 ∷ a ∷ []
ref_place (key_ref.FileColumnStats a b) = 8 ∷ a ∷ b ∷ []
ref_place (key_ref.TableStats a) = 9 ∷ a ∷ []
ref_place (key_ref.Inlined a b c) = 10 ∷ a ∷ b ∷ c ∷ []
ref_place (key_ref.ScheduledFile a) = 11 ∷ a.now

abbrev pub ref_rank : KeyRef → ℕ
ref_rank k = slice_index (ref_place k) 0

abbrev pub is_same : Key → Key → Bool
is_same k l = is_eq (key_cmp (place k) (place l))

-- whether one of these has a key of these place
abbrev pub has_place : {X : Type 0} → (X → Key) → List X → List ℕ → Bool
has_place key_in xs k = list_any (λ x. is_eq (key_cmp (place (key_in x)) k)) xs

-- whether one of these keys is picked
abbrev pub any_picked : (Key → Option (List ℕ)) → List Key → Bool
any_picked pick keys = list_any (λ k. is_some (pick k)) keys

-- whether one of these keys is this one
abbrev pub is_among : List Key → Key → Bool
is_among keys k = has_place (λ l. l) keys (place k)

abbrev pub all_differ : {X : Type 0} → (X → Key) → List X → Bool
all_differ key_in [] = true
all_differ key_in (x ∷ xs) = not (has_place key_in xs (place (key_in x))) && all_differ key_in xs

-- whether each key is below the next one
abbrev pub rises : {X : Type 0} → (X → Key) → List X → Bool
rises key_in [] = true
rises key_in (x ∷ []) = true
rises key_in (x ∷ y ∷ xs) = is_lt (key_cmp (place (key_in x)) (place (key_in y))) && rises key_in (y ∷ xs)

-- the test of a batch, part by part
abbrev pub all_there : Tables → List Key → Bool
all_there t keys = list_all (holds t) keys

abbrev pub all_open : Tables → List Key → List (Key × ℕ) → Bool
all_open t removes ends = list_all (λ e. is_open t e.0 && not (is_among removes e.0)) ends

-- the row's key isn't there, or is removed
abbrev pub is_new : Tables → List Key → CatRow → Bool
is_new t removes r = not (holds t (key_of r)) || is_among removes (key_of r)

abbrev pub all_new : Tables → List Key → List CatRow → Bool
all_new t removes adds = list_all (is_new t removes) adds

abbrev pub passes : Tables → List Key → List (Key × ℕ) → List CatRow → Bool
passes t removes ends adds =
    all_differ (λ k. k) removes && all_differ (λ e. e.0) ends && all_differ key_of adds && all_there t removes && all_open t removes ends && all_new t removes adds

-- the part of `Covers` for some tables
pub record CoversHistory (c : CatRows) (adds : List CatRow) : Type 0 where
  pub metadata : count_in cat_table.Metadata adds ≤ c.metadata.room
  pub snapshot : count_in cat_table.Snapshot adds ≤ c.snapshot.room
  pub snapshot_changes : count_in cat_table.SnapshotChanges adds ≤ c.snapshot_changes.room

-- the part of `Covers` for some tables
pub record CoversSchemas (c : CatRows) (adds : List CatRow) : Type 0 where
  pub schema : count_in cat_table.Schema adds ≤ c.schema.room
  pub table : count_in cat_table.Table adds ≤ c.table.room
  pub column : count_in cat_table.Column adds ≤ c.column.room
  pub inlined_row : count_in cat_table.Inlined adds ≤ c.inlined_row.room

-- the part of `Covers` for some tables
pub record CoversFiles (c : CatRows) (adds : List CatRow) : Type 0 where
  pub data_file : count_in cat_table.DataFile adds ≤ c.data_file.room
  pub delete_file : count_in cat_table.DeleteFile adds ≤ c.delete_file.room
  pub file_column_stats : count_in cat_table.FileColumnStats adds ≤ c.file_column_stats.room
  pub table_stats : count_in cat_table.TableStats adds ≤ c.table_stats.room
  pub scheduled_file : count_in cat_table.ScheduledFile adds ≤ c.scheduled_file.room

-- with some tables of others
abbrev pub with_history : Tables → Tables → Tables
with_history t from = record t { metadata = from.metadata; snapshot = from.snapshot; snapshot_changes = from.snapshot_changes }

-- with some tables of others
abbrev pub with_schemas : Tables → Tables → Tables
with_schemas t from = record t { schema = from.schema; table = from.table; column = from.column; inlined_row = from.inlined_row }

-- with some tables of others
abbrev pub with_files : Tables → Tables → Tables
with_files t from = record t { data_file = from.data_file; delete_file = from.delete_file; file_column_stats = from.file_column_stats; table_stats = from.table_stats; scheduled_file = from.scheduled_file }
