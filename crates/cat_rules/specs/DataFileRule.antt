-- Rule 7, on data files and on the paths of all files.
use Rattle.std.specs.Prelude.{[], ◌∷◌, ◌≡◌, ◌⊎◌, ◌+◌, ◌*◌, ◌||◌, ◌==◌, ℕ, Bool, false, Option, Some, nat_lt, ◌<◌, List, length}
use Rattle.cat_tables.specs.Table.{IsBelow}
use Rattle.cat_rows.specs.Keys.{data_file_key, delete_file_key, table_key}
use Rattle.cat_rows.specs.Tables.{Tables}
use Rattle.cat_rows.specs.declared.batch.Key.{Key}
use Rattle.cat_rows.specs.declared.batch.Key.TheVariants as key
use Rattle.cat_rows.specs.declared.files.DataFileRow.{DataFileRow}
use Rattle.cat_rows.specs.declared.files.DeleteFileRow.{DeleteFileRow}
use Rattle.cat_rows.specs.declared.files.TableStatsRow.{TableStatsRow}
use Rattle.cat_rules.specs.Lookups.{stats_of_table, table_of}
use Rattle.cat_rules.specs.Places.{of_data_file, of_delete_file, of_scheduled}
use Rattle.cat_rules.specs.Rows.{Names, NamesIf, SomeOf}
use Rattle.cat_rows.specs.Seen.{Seen}
use Rattle.cat_rules.specs.EachKept.{AtKept, NamesWithout, missing_or_own}

abbrev pub table_id_of : DataFileRow → Key
table_id_of r = key.Table r.table_id

-- the ids of its rows, where they are counted from a start, aren't all below the table's next row id
abbrev pub has_row_id_past : Option TableStatsRow → Option ℕ → ℕ → Bool
has_row_id_past (Some stats) (Some start) count = nat_lt stats.next_row_id (start + count)
has_row_id_past stats start count = false

-- no rows, too many, a weight of less than 17 for each, or a row id that the table's counter isn't past
abbrev pub has_wrong_numbers : Tables → DataFileRow → Bool
has_wrong_numbers t r =
    (r.record_count == 0)
    || (nat_lt 4194304 r.record_count
    || (nat_lt r.weight (17 * r.record_count)
    || has_row_id_past (stats_of_table t r.table_id) r.row_id_start r.record_count))

-- A data file's table isn't seen with it. The table is named where it isn't there at all, and else the file.
abbrev pub IsDataFileUnmatched : Tables → Seen → Key → Type 0
IsDataFileUnmatched t seen =
    NamesWithout (missing_or_own (λ r. table_of t r.table_id) table_id_of of_data_file) (λ r. r.table_id ∷ []) table_key seen.data_file seen.table

-- At each kept snapshot a data file that it sees has a table that it sees, and right numbers.
abbrev pub IsDataFileWrong : Tables → Key → Type 0
IsDataFileWrong t = AtKept (λ seen k. IsDataFileUnmatched t seen k ⊎ NamesIf of_data_file (has_wrong_numbers t) seen.data_file k) t

abbrev pub IsLong : List ℕ → Type 0
IsLong path = 200 < length path

-- the path is that of a data file, or of a delete file
abbrev pub IsDataPath : Tables → List ℕ → Type 0
IsDataPath t path = SomeOf (λ q. q.path ≡ path) t.data_file

abbrev pub IsDeletePath : Tables → List ℕ → Type 0
IsDeletePath t path = SomeOf (λ q. q.path ≡ path) t.delete_file

-- an earlier data file, or an earlier delete file, has the same path
abbrev pub IsDataPathBefore : Tables → DataFileRow → Type 0
IsDataPathBefore t r = SomeOf (λ q. IsBelow data_file_key q r × (q.path ≡ r.path)) t.data_file

abbrev pub IsDeletePathBefore : Tables → DeleteFileRow → Type 0
IsDeletePathBefore t r = SomeOf (λ q. IsBelow delete_file_key q r × (q.path ≡ r.path)) t.delete_file

-- Paths have at most 200 bytes and differ over data files, delete files and scheduled files. Of two files with one path the
-- later is bad, in this order of tables and then by key. (Scheduled files differ among themselves: the path is their key.)
abbrev pub IsPathBad : Tables → Key → Type 0
IsPathBad t k =
    Names of_data_file (λ r. IsLong r.path ⊎ IsDataPathBefore t r) t.data_file k
    ⊎ (Names of_delete_file (λ r. IsLong r.path ⊎ (IsDataPath t r.path ⊎ IsDeletePathBefore t r)) t.delete_file k
    ⊎ Names of_scheduled (λ r. IsLong r.path ⊎ (IsDataPath t r.path ⊎ IsDeletePath t r.path)) t.scheduled_file k)

abbrev pub IsDataFileBad : Tables → Key → Type 0
IsDataFileBad t k = IsDataFileWrong t k ⊎ IsPathBad t k
