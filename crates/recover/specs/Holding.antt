-- The files that the catalogue's rows name, and those of them that are there and held.
use Rattle.std.specs.Prelude.{◌≡◌, ◌≢◌, ◌⊎◌, ℕ, List, [], ◌∷◌, ◌++◌, length, map, Option, None, Some, IfSome, IsSomeAnd}
use Rattle.std.specs.List.{AllByRecursion}
use Rattle.lake_io.specs.Causes.{Rose}
use Rattle.file_disk.specs.Folder.{Folder}
use Rattle.cat_tables.specs.Table.{row_of}
use Rattle.cat_rows.specs.Tables.{Tables}
use Rattle.cat_rows.specs.declared.files.DataFileRow.{DataFileRow}
use Rattle.cat_rows.specs.declared.files.DeleteFileRow.{DeleteFileRow}
use Rattle.cat_view.specs.Held.{name_by}
use Rattle.cat_view.specs.declared.held.HeldFile.{HeldFile}
use Rattle.row_files.specs.Stages.{TellsBytes}
use Rattle.recover.specs.declared.no.OpenNo.{OpenNo}
use Rattle.recover.specs.declared.no.OpenNo.TheVariants as open_no

-- a file that a row names, and the size that the row says
pub record NamedFile : Type 0 where
  pub name : List ℕ
  pub size : ℕ

abbrev pub named_data : DataFileRow → NamedFile
named_data r = record { name = r.path; size = r.file_size_bytes }

abbrev pub named_delete : DeleteFileRow → NamedFile
named_delete r = record { name = r.path; size = r.file_size_bytes }

-- those of all rows, data files and then delete files
abbrev pub named_files : Tables → List NamedFile
named_files t = map named_data t.data_file ++ map named_delete t.delete_file

-- ---- a folder, where it is told

-- the file is there as its row says
abbrev pub IsThere : Option Folder → NamedFile → Type 0
IsThere told f = IfSome told (λ folder. IsSomeAnd (folder f.name) (λ bytes. length bytes ≡ f.size))

-- a file of this name isn't there
abbrev pub IsMissing : Option Folder → List ℕ → NamedFile → Type 0
IsMissing told name f = (f.name ≡ name) × IfSome told (λ folder. folder name ≡ None)

-- a file of this name is there, with `got` bytes in place of `want`
pub record HasOtherSize (told : Option Folder) (name : List ℕ) (want got : ℕ) (f : NamedFile) : Type 0 where
  pub name_is : f.name ≡ name
  pub size_is : f.size ≡ want
  pub others : got ≢ want
  pub there : IfSome told (λ folder. IsSomeAnd (folder name) (λ bytes. length bytes ≡ got))

-- the first that isn't good is bad in this way
abbrev pub FirstIs : {X : Type 0} → (X → Type 0) → (X → Type 0) → List X → Type 0
FirstIs Good Bad [] = ⊥
FirstIs Good Bad (x ∷ xs) = Bad x ⊎ (Good x × FirstIs Good Bad xs)

-- Why files weren't held: the disk's count of faults rose, or the first file that isn't there as its row says is missing,
-- or has another size.
abbrev pub WhyNoFiles : ℕ → ℕ → Option Folder → List NamedFile → OpenNo → Type 0
WhyNoFiles before now told files open_no.DiskFault = Rose before now
WhyNoFiles before now told files (open_no.FileMissing name) = FirstIs (IsThere told) (IsMissing told name) files
WhyNoFiles before now told files (open_no.FileSize name want got) = FirstIs (IsThere told) (HasOtherSize told name want got) files
WhyNoFiles before now told files open_no.Memory = Unit {0}
WhyNoFiles before now told files open_no.KeeperFault = ⊥
WhyNoFiles before now told files (open_no.BadRow bad) = ⊥

-- that a file is missing, or has another size, unless there is no memory for its name
abbrev pub TellsMissing : List ℕ → OpenNo → Type 0
TellsMissing name why = (why ≡ open_no.FileMissing name) ⊎ (why ≡ open_no.Memory)

abbrev pub TellsSize : List ℕ → ℕ → ℕ → OpenNo → Type 0
TellsSize name want got why = (why ≡ open_no.FileSize name want got) ⊎ (why ≡ open_no.Memory)

-- ---- what is held

module _ {F : Type 0} (name : F → List ℕ) (size : F → ℕ) where
  -- a file is held under its name, with the size that its row says
  abbrev pub IsHeldAs : List (HeldFile F) → NamedFile → Type 0
  IsHeldAs held f = IsSomeAnd (row_of (name_by name) f.name held) (λ h. size h.file ≡ f.size)

  -- each handle tells the bytes that lie under its name, and their number as its size
  abbrev pub TellTheirs : (F → Option (List ℕ)) → Option Folder → List (HeldFile F) → Type 0
  TellTheirs bytes told held = IfSome told (λ folder. AllByRecursion (λ h. TellsBytes name size bytes folder h.file) held)

  -- The files of some rows are held now, and those that were held stay. The folder is as it was, and has them where it is
  -- told.
  pub record HoldsThese (bytes : F → Option (List ℕ)) (files : List NamedFile) (old : Option Folder) (before : List (HeldFile F)) (new : Option Folder)
      (after : List (HeldFile F)) : Type 0 where
    pub held : AllByRecursion (IsHeldAs after) files
    pub kept : (path : List ℕ) (h : HeldFile F) → row_of (name_by name) path before ≡ Some h → row_of (name_by name) path after ≡ Some h
    pub there : AllByRecursion (IsThere old) files
    pub told : TellTheirs bytes new after
