-- The rows of a live file, read from the bytes of its data file and of its delete file.
use Rattle.std.specs.Prelude.{◌≡◌, ◌⊎◌, ℕ, List, Option, Some, None, IfSome, IsSome, option_and_then, option_map, Result, Ok, Err}
use Rattle.lake_io.specs.Causes.{raised}
use Rattle.lake_types.specs.declared.value.Column.{Column}
use Rattle.lake_types.specs.declared.value.Row.{Row}
use Rattle.file_disk.specs.Calls.{IsGone}
use Rattle.file_disk.specs.Folder.{Folder}
use Rattle.sheet_rows.specs.Live.{StatedDeletes, deleted_in, left_from, live_of}
use Rattle.sheet_rows.specs.declared.live.Stated.{Stated}
use Rattle.cat_view.specs.declared.live.LiveDelete.{LiveDelete}
use Rattle.cat_view.specs.declared.live.LiveFile.{LiveFile}
use Rattle.row_files.specs.Folders.{sheet_in}
use Rattle.row_files.specs.declared.fault.ReadNo.{ReadNo}
use Rattle.row_files.specs.declared.fault.ReadNo.TheVariants as read_no

-- ---- bytes

-- the rows that the bytes of a data file hold, laid into columns; none where they are damaged
abbrev pub rows_in : Stated → List Column → List ℕ → Option (List Row)
rows_in stated columns bytes = option_and_then (live_of stated columns) (sheet_in bytes)

-- the places that the bytes of a delete file list; none where they are damaged
abbrev pub places_in : StatedDeletes → List ℕ → Option (List ℕ)
places_in stated bytes = option_and_then (deleted_in stated) (sheet_in bytes)

-- ---- answers

-- this of the name of the damaged file that is told
abbrev pub IfDamaged : {T : Type 0} → Result T ReadNo → (List ℕ → Type 0) → Type 0
IfDamaged (Err (read_no.Damaged name)) P = P name
IfDamaged result P = Unit {0}

abbrev pub IfNamed : ReadNo → (List ℕ → Type 0) → Type 0
IfNamed (read_no.Damaged name) P = P name
IfNamed why P = Unit {0}

-- ---- files

-- what the catalogue says of the data file
abbrev pub stated : {F : Type 0} → LiveFile F → Stated
stated f = record { rows = f.rows; weight = f.weight; first_row = f.first_row }

-- and of its delete file
abbrev pub stated_deletes : {F : Type 0} → (F → List ℕ) → LiveFile F → LiveDelete F → StatedDeletes
stated_deletes name f d = record { path = name f.file; rows = f.rows; count = d.count }

-- all rows of a data file without those at some places; none where one of the two can't be told
abbrev pub left_of : Option (List ℕ) → Option (List Row) → Option (List Row)
left_of None rows = None
left_of (Some places) rows = option_map (left_from 0 places) rows

-- Rows are those of a data file that are left, where its bytes and those of its delete file are told.
abbrev pub AreLeft : {F : Type 0} → (F → List ℕ) → (F → Option (List ℕ)) → LiveFile F → List Column → List Row → Option (LiveDelete F) → Type 0
AreLeft name bytes f columns rows None = IfSome (bytes f.file) (λ data_bytes. rows_in (stated f) columns data_bytes ≡ Some rows)
AreLeft name bytes f columns rows (Some d) = IfSome (bytes f.file) (λ data_bytes. IfSome (bytes d.file) (λ delete_bytes.
    left_of (places_in (stated_deletes name f d) delete_bytes) (rows_in (stated f) columns data_bytes) ≡ Some rows))

module _ {F : Type 0} (name : F → List ℕ) (part : F → ℕ) (bytes : F → Option (List ℕ)) where
  -- Its name is told, and where the disk and the file tell what they hold, it is gone or damaged.
  pub record IsDamagedData (own : ℕ) (files : Option Folder) (f : LiveFile F) (columns : List Column) (told : List ℕ) : Type 0 where
    pub named : told ≡ name f.file
    pub why : IfSome files (λ (folder : Folder). IfSome (bytes f.file) (λ (held : List ℕ).
        IsGone own folder (part f.file) (name f.file) ⊎ (rows_in (stated f) columns held ≡ None)))

  -- The same of its delete file, and the data file is neither.
  pub record IsDamagedDelete (own : ℕ) (files : Option Folder) (f : LiveFile F) (columns : List Column) (told : List ℕ) : Type 0 where
    pub deletes : LiveDelete F
    pub its : f.deletes ≡ Some deletes
    pub named : told ≡ name deletes.file
    pub there : IfSome files (λ (folder : Folder). IsGone own folder (part f.file) (name f.file) → ⊥)
    pub read : IfSome (bytes f.file) (λ (held : List ℕ). IsSome (rows_in (stated f) columns held))
    pub why : IfSome files (λ (folder : Folder). IfSome (bytes deletes.file) (λ (held : List ℕ).
        IsGone own folder (part deletes.file) (name deletes.file) ⊎ (places_in (stated_deletes name f deletes) held ≡ None)))

-- One read was asked for of the data file, and one more of its delete file, unless the data file's rows were not read.
abbrev pub Opened : {F T : Type 0} → Option (LiveDelete F) → Result T ReadNo → ℕ → ℕ → Type 0
Opened None result before now = now ≡ raised before
Opened (Some d) (Ok rows) before now = now ≡ raised (raised before)
Opened (Some d) (Err why) before now = (now ≡ raised before) ⊎ (now ≡ raised (raised before))
