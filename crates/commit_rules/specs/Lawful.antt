-- What the twelve rules of a sane catalogue ask of a commit: of its new rows, and of what its snapshot sees.
use Rattle.std.specs.Prelude.{◌≡◌, ◌≢◌, ◌⊎◌, ◌≤◌, ◌<◌, ℕ, Bool, false, List, ◌++◌, map, length, Option, Some, None, ◌∷◌, []}
use Rattle.std.specs.List.{AllByRecursion}
use Rattle.cat_tables.specs.Table.{RisesByKey, row_of}
use Rattle.cat_rows.specs.Batches.{AllDiffer}
use Rattle.cat_rows.specs.Keys.{column_key, data_file_key, snapshot_key}
use Rattle.cat_rows.specs.Parts.{Endings, Parts, seen_next, with_parts}
use Rattle.cat_rows.specs.Seen.{Seen, seen_at}
use Rattle.cat_rows.specs.Tables.{Tables, no_rows}
use Rattle.cat_rows.specs.declared.batch.Key.{Key}
use Rattle.cat_rows.specs.declared.history.SnapshotRow.{SnapshotRow}
use Rattle.cat_rows.specs.declared.schemas.TableRow.{TableRow}
use Rattle.cat_rows.specs.declared.schemas.ColumnRow.{ColumnRow}
use Rattle.cat_rows.specs.declared.files.DataFileRow.{DataFileRow}
use Rattle.cat_rows.specs.declared.files.DeleteFileRow.{DeleteFileRow}
use Rattle.cat_rows.specs.declared.files.FileColumnStatsRow.{FileColumnStatsRow}
use Rattle.cat_rows.specs.declared.files.TableStatsRow.{TableStatsRow}
use Rattle.cat_rows.specs.declared.files.ScheduledFileRow.{ScheduledFileRow}
use Rattle.cat_rows.specs.declared.inlined.InlinedRow.{InlinedRow}
use Rattle.inline_rows.specs.Laws.{Spells}
use Rattle.lake_types.specs.declared.value.Value.{Value}
use Rattle.cat_rules.specs.ColumnRule.{IsColumnWrong, IsColumnless, IsCrowdedColumn}
use Rattle.cat_rules.specs.ColumnStatsRule.{AreStatsWrong}
use Rattle.cat_rules.specs.CounterRule.{IsPastCounters}
use Rattle.cat_rules.specs.DataFileRule.{IsDataFileUnmatched, has_wrong_numbers}
use Rattle.cat_rules.specs.DeleteFileRule.{IsDeleteFileUnmatched, IsSecondDeleteFile, differs_from}
use Rattle.cat_rules.specs.EachKept.{NamesAlike}
use Rattle.cat_rules.specs.First.{Holds}
use Rattle.cat_rules.specs.HistoryRule.{IsRead, name_of_schema}
use Rattle.cat_rules.specs.InlinedRule.{HasUnreadableCells, HasWrongRowId, IsMisfitIn, IsPastThousand}
use Rattle.cat_rules.specs.Kept.{newest}
use Rattle.cat_rules.specs.Lookups.{HasRow, newest_row, stats_of_table}
use Rattle.cat_rules.specs.Places.{of_column}
use Rattle.cat_rules.specs.Readable.{IsReadable}
use Rattle.cat_rules.specs.Rows.{SomeOf}
use Rattle.cat_rules.specs.SchemaRule.{IsSchemaNameUsed}
use Rattle.cat_rules.specs.TableRule.{IsTableNameUsed, IsTableUnmatched}
use Rattle.cat_rules.specs.TableStatsRule.{has_large_counter}

-- the snapshots rise by number, and this one is the newest
pub record IsHead (t : Tables) (head : SnapshotRow) : Type 0 where
  pub rises : RisesByKey snapshot_key t.snapshot
  pub last : newest t.snapshot ≡ Some head

-- ---- history: the rules 2, 3 and 12

-- the text is the new snapshot's, and it is read with the names of the schemas that end
pub record IsTold (p : Parts) : Type 0 where
  pub number : p.changes.snapshot_id ≡ p.snapshot.snapshot_id
  pub text : IsRead (map name_of_schema p.ended_schema) p.changes.changes_made

abbrev pub AreOneColumn : ColumnRow → ColumnRow → Type 0
AreOneColumn q c = (q.table_id ≡ c.table_id) × (q.column_id ≡ c.column_id)

-- a row is of the column of an earlier one
abbrev pub IsColumnTwice : Seen → Key → Type 0
IsColumnTwice seen = NamesAlike of_column AreOneColumn column_key seen.column

-- the new rows alone
abbrev pub new_rows : Parts → Tables
new_rows p = record no_rows {
  schema = p.schema;
  table = p.table;
  column = p.column;
  data_file = p.data_file;
  delete_file = p.delete_file;
  file_column_stats = p.file_column_stats;
  table_stats = p.table_stats;
  inlined_row = p.inlined_row;
}

-- The counters are no smaller, and past each id in new rows. Tables and data files that are new have ids from the old
-- counters on.
pub record AreCounted (head : SnapshotRow) (p : Parts) : Type 0 where
  pub catalog : head.next_catalog_id ≤ p.snapshot.next_catalog_id
  pub file : head.next_file_id ≤ p.snapshot.next_file_id
  pub past : Holds (IsPastCounters (new_rows p) p.snapshot)
  pub tables : AllByRecursion (λ (r : TableRow). head.next_catalog_id ≤ r.table_id) p.table
  pub data_files : AllByRecursion (λ (r : DataFileRow). head.next_file_id ≤ r.data_file_id) p.data_file

-- ---- new rows by themselves, and what the new snapshot sees: the rules 5, 6, 7, 8 and 10

-- a table has a schema that isn't seen with it, or the name of an earlier one
abbrev pub IsTableWrong : Tables → Seen → Key → Type 0
IsTableWrong t seen k = IsTableUnmatched t seen k ⊎ IsTableNameUsed seen k

-- each table that is seen has 1 to 100 columns, with different orders and names, and new ones are right by themselves
pub record AreColumnsRight (t : Tables) (p : Parts) (seen : Seen) : Type 0 where
  pub some : Holds (IsColumnless seen)
  pub differ : Holds (IsCrowdedColumn seen)
  pub new : AllByRecursion (λ (c : ColumnRow). IsColumnWrong (with_parts p t) c → ⊥) p.column

-- each data file that is seen has its table, and new ones have right numbers
pub record AreFilesRight (t : Tables) (p : Parts) (seen : Seen) : Type 0 where
  pub tables : Holds (IsDataFileUnmatched (with_parts p t) seen)
  pub new : AllByRecursion (λ (r : DataFileRow). has_wrong_numbers (with_parts p t) r ≡ false) p.data_file

-- it doesn't go with the data file that is seen with it
abbrev pub is_unlike : Seen → DeleteFileRow → Bool
is_unlike seen r = differs_from (row_of data_file_key (r.data_file_id ∷ []) seen.data_file) r

-- each delete file that is seen has its data file, which has no other, and new ones go with it
pub record AreDeletesRight (t : Tables) (p : Parts) (seen : Seen) : Type 0 where
  pub files : Holds (IsDeleteFileUnmatched (with_parts p t) seen)
  pub single : Holds (IsSecondDeleteFile seen)
  pub new : AllByRecursion (λ (r : DeleteFileRow). is_unlike seen r ≡ false) p.delete_file

-- one of these columns can't hold its cell of the row
abbrev pub Misfits : List ColumnRow → InlinedRow → Type 0
Misfits columns r = (cells : List (ℕ × Value)) × Spells r.cells cells × SomeOf (λ cell. SomeOf (IsMisfitIn r cell) columns) cells

-- New rows are right by themselves, and the columns that are seen can hold their cells; new columns can hold those of all rows
-- that are seen; and at most 1,000 of a table share a begin.
pub record AreInlinedRight (t : Tables) (p : Parts) (seen : Seen) : Type 0 where
  pub new : AllByRecursion (λ (r : InlinedRow). HasUnreadableCells (with_parts p t) r ⊎ HasWrongRowId (with_parts p t) r → ⊥) p.inlined_row
  pub held : AllByRecursion (λ (r : InlinedRow). Misfits seen.column r → ⊥) p.inlined_row
  pub columns : AllByRecursion (λ (r : InlinedRow). Misfits p.column r → ⊥) seen.inlined_row
  pub few : Holds (IsPastThousand seen)

-- ---- paths, the other part of rule 7

abbrev pub new_paths : Parts → List (List ℕ)
new_paths p = map (λ (r : DataFileRow). r.path) p.data_file ++ map (λ (r : DeleteFileRow). r.path) p.delete_file

abbrev pub all_paths : Tables → List (List ℕ)
all_paths t =
    map (λ (r : DataFileRow). r.path) t.data_file
    ++ (map (λ (r : DeleteFileRow). r.path) t.delete_file ++ map (λ (r : ScheduledFileRow). r.path) t.scheduled_file)

-- new paths have at most 200 bytes, differ from each other, and from all that are there
pub record ArePathsNew (t : Tables) (p : Parts) : Type 0 where
  pub short : AllByRecursion (λ path. length path ≤ 200) (new_paths p)
  pub differ : AllDiffer (new_paths p)
  pub unused : AllByRecursion (λ path. AllByRecursion (λ used. used ≢ path) (all_paths t)) (new_paths p)

-- ---- statistics: the rules 9 and 11

-- Where the column had a row, the new one reads each text that the newest of them reads. Where it had none, its field id is
-- from the table's old next one on, if the table was there.
abbrev pub ReadsOn : Tables → Option ColumnRow → ColumnRow → Type 0
ReadsOn t None c = HasRow (stats_of_table t c.table_id) (λ s. c.column_id < s.next_field_id) → ⊥
ReadsOn t (Some q) c = (text : List ℕ) → IsReadable q.column_type text → IsReadable c.column_type text

-- new statistics of files are right in the tables after, and those that are there are read by new rows of their columns
pub record AreStatsRight (t : Tables) (p : Parts) : Type 0 where
  pub new : AllByRecursion (λ (r : FileColumnStatsRow). AreStatsWrong (with_parts p t) r → ⊥) p.file_column_stats
  pub columns : AllByRecursion (λ (c : ColumnRow). ReadsOn t (newest_row c.table_id c.column_id t.column) c) p.column

-- there were no statistics of the table, or their counters are at most these
abbrev pub IsGrown : Option TableStatsRow → TableStatsRow → Type 0
IsGrown None new = Unit {0}
IsGrown (Some old) new = (old.next_row_id ≤ new.next_row_id) × (old.next_field_id ≤ new.next_field_id)

-- some new statistics are of this table
abbrev pub IsStated : Parts → ℕ → Type 0
IsStated p table = SomeOf (λ (r : TableStatsRow). r.table_id ≡ table) p.table_stats

-- New tables have statistics, and so has each table whose old ones are removed; new statistics have counters up to the last
-- values, and no smaller ones than before.
pub record AreStated (t : Tables) (p : Parts) : Type 0 where
  pub tables : AllByRecursion (λ (r : TableRow). IsStated p r.table_id) p.table
  pub again : AllByRecursion (λ (r : TableStatsRow). IsStated p r.table_id) p.old_stats
  pub small : AllByRecursion (λ (r : TableStatsRow). has_large_counter r ≡ false) p.table_stats
  pub grown : AllByRecursion (λ (r : TableStatsRow). IsGrown (stats_of_table t r.table_id) r) p.table_stats

-- ---- the whole

-- what the new snapshot sees
abbrev pub seen_then : Tables → SnapshotRow → Parts → Endings → Seen
seen_then t head p endings = seen_next p endings (seen_at head.snapshot_id t)

-- A field for each rule, but for the first, of which nothing is asked. Intervals are those of ArePartsOf.
pub record IsLawful (t : Tables) (head : SnapshotRow) (p : Parts) (endings : Endings) : Type 0 where
  pub history : IsTold p
  pub intervals : Holds (IsColumnTwice (seen_then t head p endings))
  pub schemas : Holds (IsSchemaNameUsed (seen_then t head p endings))
  pub tables : Holds (IsTableWrong (with_parts p t) (seen_then t head p endings))
  pub columns : AreColumnsRight t p (seen_then t head p endings)
  pub data_files : AreFilesRight t p (seen_then t head p endings)
  pub paths : ArePathsNew t p
  pub delete_files : AreDeletesRight t p (seen_then t head p endings)
  pub column_stats : AreStatsRight t p
  pub inlined_rows : AreInlinedRight t p (seen_then t head p endings)
  pub table_stats : AreStated t p
  pub counters : AreCounted head p
