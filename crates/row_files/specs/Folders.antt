-- What the files of a folder are to the catalogue: their bytes, and a sheet where these hold one.
use Rattle.std.specs.Prelude.{ℕ, List, Option, Some, None, option_map, Result, Ok, Err}
use Rattle.lake_types.specs.declared.sheet.Sheet.{Sheet}
use Rattle.file_disk.specs.Folder.{Folder}
use Rattle.pq_file.specs.Reading.{file_of}
use Rattle.cat_view.specs.Files.{Filed, Files}

abbrev pub value_in : {A E : Type 0} → Result A E → Option A
value_in (Ok x) = Some x
value_in (Err e) = None

-- the sheet that bytes hold
abbrev pub sheet_in : List ℕ → Option Sheet
sheet_in bytes = value_in (file_of None bytes)

abbrev pub filed : List ℕ → Filed
filed bytes = record { bytes = bytes; sheet = sheet_in bytes }

abbrev pub files_of : Folder → Files
files_of folder name = option_map filed (folder name)
