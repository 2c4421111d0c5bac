-- Files that are staged for a transaction: what they hold, and what staging them did to a folder.
use Rattle.std.specs.Prelude.{◌≡◌, ℕ, false, List, length, Option, None}
use Rattle.std.specs.List.{AllZip}
use Rattle.lake_types.specs.declared.value.Column.{Column}
use Rattle.lake_model.specs.Apply.{Cells}
use Rattle.file_disk.specs.Folder.{AddsNone, Changes, Folder, MayBecomeAny, Same, SameBut, Touches}
use Rattle.new_files.specs.Drawing.{Drew}
use Rattle.sheet_rows.specs.Sheets.{AreCounts, sheet_of, sheet_weight}
use Rattle.cat_view.specs.Staged.{HoldsCells, NamedStagedFile}
use Rattle.cat_view.specs.Typed.{HoldsTyped}
pub use Rattle.cat_view.specs.StagedNames.{named_staged_file as named_file}
use Rattle.cat_view.specs.declared.staged.StagedFile.{StagedFile}
use Rattle.row_files.specs.Folders.{files_of}

-- what is said of a file of these rows
pub record Describes {F : Type 0} (columns : List Column) (cells : List Cells) (x : StagedFile F) : Type 0 where
  pub rows : x.rows ≡ length cells
  pub weight : x.weight ≡ sheet_weight (sheet_of columns cells)
  pub stats : AllZip AreCounts (sheet_of columns cells).columns x.stats

-- A file of these rows is new in the folder, of its columns' types, and the others stay. Its bytes are told as they lie
-- there, and every image of a crash holds it.
pub record AddsRows (columns : List Column) (cells : List Cells) (x : NamedStagedFile) (told : Option (List ℕ)) (images : Folder → Type 0)
    (old new : Folder) : Type 0 where
  pub fresh : old x.name ≡ None
  pub holds : HoldsCells (files_of new) columns x cells
  pub typed : HoldsTyped (files_of new) x.name
  pub bytes : told ≡ new x.name
  pub durable : (image : Folder) → images image → image x.name ≡ new x.name
  pub others : SameBut x.name old new

-- nothing was drawn and nothing written
pub record WroteNone (before now : Option (List ℕ)) (old new : Option Folder) (could can : Folder → Type 0) : Type 0 where
  pub drawn : now ≡ before
  pub files : Changes Same old new
  pub images : AddsNone could can

-- one number was drawn, and the folder and its images changed at most under its name
pub record WroteOne (before now : Option (List ℕ)) (old new : Option Folder) (could can : Folder → Type 0) : Type 0 where
  pub name : List ℕ
  pub drew : Drew false before now name
  pub files : Changes (SameBut name) old new
  pub images : Touches MayBecomeAny name could can
