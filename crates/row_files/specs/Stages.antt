-- The fresh rows of several tables, staged one after the other.
use Rattle.std.specs.Prelude.{◌≡◌, ◌≢◌, ◌<◌, ◌^◌, ℕ, false, List, [], ◌∷◌, ◌++◌, length, map, Option, Some, None, IfSome, IsSome, option_map, Result, Ok, Err}
use Rattle.std.specs.List.{AllByRecursion, AllZip, filter_map}
use Rattle.lake_io.specs.Told.{Takes}
use Rattle.lake_types.specs.declared.value.Column.{Column}
use Rattle.lake_model.specs.Apply.{Cells}
use Rattle.lake_model.specs.declared.change.Ref.{Ref}
use Rattle.file_disk.specs.Folder.{Changes, Folder}
use Rattle.new_files.specs.Names.{name_of}
pub use Rattle.new_files.specs.Writing.{Stays}
use Rattle.new_files.specs.declared.fault.NewFileNo.{NewFileNo}
use Rattle.new_files.specs.declared.fault.NewFileNo.TheVariants as new_file_no
use Rattle.cat_view.specs.Staged.{HoldsCells, NamedStagedFile, NamedStagedTable, nothing_for}
use Rattle.cat_view.specs.Typed.{HoldsTyped}
pub use Rattle.cat_view.specs.StagedNames.{named_staged_table as named_table, named_staged_tables as named_tables}
use Rattle.cat_view.specs.declared.staged.StagedFile.{StagedFile}
use Rattle.cat_view.specs.declared.staged.StagedTable.{StagedTable}
use Rattle.row_files.specs.Folders.{files_of}
use Rattle.row_files.specs.Fresh.{AreFresh}
use Rattle.cat_view.specs.Workable.{AreColumns}
use Rattle.row_files.specs.Staging.{named_file}
use Rattle.row_files.specs.declared.fault.StageNo.{StageNo}
use Rattle.row_files.specs.declared.fault.StageNo.TheVariants as stage_no

-- ---- answers

abbrev pub refusal : NewFileNo → StageNo
refusal new_file_no.DiskFault = stage_no.DiskFault
refusal (new_file_no.Taken name) = stage_no.Taken name
refusal new_file_no.Memory = stage_no.Memory

-- this of the new name that is told to be there
abbrev pub IfTakenBy : StageNo → (List ℕ → Type 0) → Type 0
IfTakenBy (stage_no.Taken name) P = P name
IfTakenBy why P = Unit {0}

abbrev pub IfTakenName : {T : Type 0} → Result T StageNo → (List ℕ → Type 0) → Type 0
IfTakenName (Ok x) P = Unit {0}
IfTakenName (Err why) P = IfTakenBy why P

-- ---- what is staged

-- the fresh rows of a table that are left, laid into its columns
pub record FreshTable : Type 0 where
  pub table : Ref
  pub columns : List Column
  pub rows : List Cells

pub record CanBeStaged (t : FreshTable) : Type 0 where
  pub columns : AreColumns t.columns
  pub rows : AreFresh t.columns t.rows

-- a table with one file of fresh rows, and nothing else
abbrev pub only_fresh : Ref → NamedStagedFile → NamedStagedTable
only_fresh table file = record (nothing_for table) { fresh = Some file }

-- one more table is staged, with this file alone
pub record AddsFresh {F : Type 0} (name : F → List ℕ) (size : F → ℕ) (table : Ref) (file : StagedFile F) (before now : List (StagedTable F)) : Type 0 where
  pub staged : StagedTable F
  pub fresh : staged.fresh ≡ Some file
  pub whole : named_table name size staged ≡ only_fresh table (named_file name size file)
  pub behind : now ≡ before ++ staged ∷ []

-- the names of the files of fresh rows, in the tables' order
abbrev pub fresh_names : {F : Type 0} → (F → List ℕ) → List (StagedTable F) → List (List ℕ)
fresh_names name staged = filter_map (λ x. option_map (λ f. name f.file) x.fresh) staged

-- their handles
abbrev pub fresh_handles : {F : Type 0} → List (StagedTable F) → List F
fresh_handles staged = filter_map (λ x. option_map (λ f. f.file) x.fresh) staged

-- ---- what it did to the folder

abbrev pub IsOther : List (List ℕ) → List ℕ → Type 0
IsOther names other = AllByRecursion (λ name. other ≢ name) names

-- every name but these has the bytes that it had
abbrev pub SameButThese : List (List ℕ) → Folder → Folder → Type 0
SameButThese names old new = (other : List ℕ) → IsOther names other → new other ≡ old other

pub record ComesFromThese (names : List (List ℕ)) (before : Folder → Type 0) (image : Folder) : Type 0 where
  pub old : Folder
  pub was : before old
  pub others : SameButThese names old image

-- each image after it comes from one before it, with at most what stands under these names changed
abbrev pub TouchesThese : List (List ℕ) → (Folder → Type 0) → (Folder → Type 0) → Type 0
TouchesThese names before after = (image : Folder) → after image → ComesFromThese names before image

-- these are the names of the numbers that were drawn
pub record DrewThese (before now : Option (List ℕ)) (names : List (List ℕ)) : Type 0 where
  pub numbers : List ℕ
  pub small : AllByRecursion (λ number. number < 2 ^ 128) numbers
  pub drawn : Takes before now numbers
  pub spell : names ≡ map (λ number. name_of number false) numbers

-- the folder and its images changed at most under the names of the numbers that were drawn
pub record WroteThese (before now : Option (List ℕ)) (old new : Option Folder) (could can : Folder → Type 0) : Type 0 where
  pub names : List (List ℕ)
  pub drew : DrewThese before now names
  pub files : Changes (SameButThese names) old new
  pub images : TouchesThese names could can

-- The name is that of the last number that was drawn. It is there, and so are the names of those before it, which spell
-- files that were written.
pub record EndsAtTaken (before now : Option (List ℕ)) (old new : Option Folder) (name : List ℕ) : Type 0 where
  pub earlier : List (List ℕ)
  pub drew : DrewThese before now (earlier ++ name ∷ [])
  pub there : IfSome new (λ (folder : Folder). AllByRecursion (λ n. IsSome (folder n)) (earlier ++ name ∷ []))
  pub stays : Changes Stays old new

-- ---- files of fresh rows

module _ {F : Type 0} (name : F → List ℕ) (size : F → ℕ) (bytes : F → Option (List ℕ)) where
  -- A file of the table's rows, of its columns' types, lies in the folder, and in every image of a crash. Nothing else is
  -- staged for it.
  pub record IsStagedFresh (images : Folder → Type 0) (folder : Folder) (t : FreshTable) (x : StagedTable F) : Type 0 where
    pub file : StagedFile F
    pub fresh : x.fresh ≡ Some file
    pub whole : named_table name size x ≡ only_fresh t.table (named_file name size file)
    pub holds : HoldsCells (files_of folder) t.columns (named_file name size file) t.rows
    pub typed : HoldsTyped (files_of folder) (name file.file)
    pub told : bytes file.file ≡ folder (name file.file)
    pub durable : (image : Folder) → images image → image (name file.file) ≡ folder (name file.file)

  -- These files are new in the folder, one for each table in turn, and the others stay.
  pub record AddsTables (fresh : List FreshTable) (staged : List (StagedTable F)) (images : Folder → Type 0) (old new : Folder) : Type 0 where
    pub absent : AllByRecursion (λ n. old n ≡ None) (fresh_names name staged)
    pub holds : AllZip (IsStagedFresh images new) fresh staged
    pub others : SameButThese (fresh_names name staged) old new

  -- The files of these tables were written under the names of the numbers that were drawn, one each in order. Where the
  -- disk tells its files, they lie there.
  pub record StagesTables (fresh : List FreshTable) (before now : Option (List ℕ)) (old new : Option Folder) (could can : Folder → Type 0)
      (staged : List (StagedTable F)) : Type 0 where
    pub drew : DrewThese before now (fresh_names name staged)
    pub files : Changes (AddsTables fresh staged can) old new
    pub images : TouchesThese (fresh_names name staged) could can

  -- behind those that were staged before
  pub record StagesMore (fresh : List FreshTable) (before now : Option (List ℕ)) (old new : Option Folder) (could can : Folder → Type 0)
      (earlier all : List (StagedTable F)) : Type 0 where
    pub staged : List (StagedTable F)
    pub behind : all ≡ earlier ++ staged
    pub stages : StagesTables fresh before now old new could can staged

  -- a handle tells the bytes that lie under its name, and their number as its size
  pub record TellsBytes (folder : Folder) (file : F) : Type 0 where
    pub content : List ℕ
    pub there : folder (name file) ≡ Some content
    pub size_is : length content ≡ size file
    pub told : bytes file ≡ Some content
