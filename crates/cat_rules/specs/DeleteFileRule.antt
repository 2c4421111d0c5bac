-- Rule 8, on delete files.
use Rattle.std.specs.Prelude.{◌≡◌, ◌⊎◌, ◌||◌, ◌==◌, Bool, false, not, [], ◌∷◌, Option, Some, None, nat_lt}
use Rattle.cat_tables.specs.Table.{row_of}
use Rattle.cat_rows.specs.Keys.{data_file_key, delete_file_key}
use Rattle.cat_rows.specs.Tables.{Tables}
use Rattle.cat_rows.specs.declared.batch.Key.{Key}
use Rattle.cat_rows.specs.declared.batch.Key.TheVariants as key
use Rattle.cat_rows.specs.declared.files.DataFileRow.{DataFileRow}
use Rattle.cat_rows.specs.declared.files.DeleteFileRow.{DeleteFileRow}
use Rattle.cat_rules.specs.Places.{of_delete_file}
use Rattle.cat_rules.specs.Rows.{NamesIf}
use Rattle.cat_rows.specs.Seen.{Seen}
use Rattle.cat_rules.specs.EachKept.{AtKept, NamesAlike, NamesWithout, missing_or_own}

abbrev pub file_id_of : DeleteFileRow → Key
file_id_of r = key.DataFile r.data_file_id

abbrev pub data_file_of : Tables → DeleteFileRow → Option DataFileRow
data_file_of t r = row_of data_file_key (r.data_file_id ∷ []) t.data_file

-- another table than its data file's, or no count from 1 to the file's rows
abbrev pub differs_from : Option DataFileRow → DeleteFileRow → Bool
differs_from None r = false
differs_from (Some file) r = not (r.table_id == file.table_id) || ((r.delete_count == 0) || nat_lt file.record_count r.delete_count)

-- A delete file's data file isn't seen with it. The data file is named where it isn't there at all, and else the delete file.
abbrev pub IsDeleteFileUnmatched : Tables → Seen → Key → Type 0
IsDeleteFileUnmatched t seen =
    NamesWithout (missing_or_own (data_file_of t) file_id_of of_delete_file) (λ r. r.data_file_id ∷ []) data_file_key seen.delete_file seen.data_file

-- it doesn't go with the data file that is seen with it
abbrev pub IsDeleteFileDiffering : Seen → Key → Type 0
IsDeleteFileDiffering seen = NamesIf of_delete_file (λ r. differs_from (row_of data_file_key (r.data_file_id ∷ []) seen.data_file) r) seen.delete_file

-- At each kept snapshot a delete file that it sees has a data file that it sees, of the same table and with as many rows at
-- least.
abbrev pub IsDeleteFileWrong : Tables → Key → Type 0
IsDeleteFileWrong t = AtKept (λ seen k. IsDeleteFileUnmatched t seen k ⊎ IsDeleteFileDiffering seen k) t

abbrev pub HaveOneFile : DeleteFileRow → DeleteFileRow → Type 0
HaveOneFile q r = q.data_file_id ≡ r.data_file_id

-- a delete file is of the data file of an earlier one
abbrev pub IsSecondDeleteFile : Seen → Key → Type 0
IsSecondDeleteFile seen = NamesAlike of_delete_file HaveOneFile delete_file_key seen.delete_file

-- At each kept snapshot that is so, and there is one delete file of a data file at most.
abbrev pub IsDeleteFileBad : Tables → Key → Type 0
IsDeleteFileBad t k = IsDeleteFileWrong t k ⊎ AtKept IsSecondDeleteFile t k
