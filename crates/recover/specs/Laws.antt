-- What holds of rows that were opened, and of files that are held.
use Rattle.std.specs.Prelude.{◌≡◌, ◌++◌, ℕ, ℤ, List, map, Option, Some, IsSome, option_map}
use Rattle.std.specs.List.{AllByRecursion}
use Rattle.file_disk.specs.Folder.{Folder}
use Rattle.lake_model.specs.Core.{Version}
use Rattle.lake_model.specs.History.{CarriedFile}
use Rattle.cat_tables.specs.Table.{row_of}
use Rattle.cat_rows.specs.Tables.{Tables}
use Rattle.cat_rows.specs.declared.files.DataFileRow.{DataFileRow}
use Rattle.cat_rows.specs.declared.files.DeleteFileRow.{DeleteFileRow}
use Rattle.cat_view.specs.Files.{Files}
use Rattle.cat_view.specs.Held.{name_by}
use Rattle.cat_view.specs.declared.held.HeldFile.{HeldFile}
use Rattle.cat_stands.specs.Stands.{IsSound, StandsFor}
use Rattle.row_files.specs.Folders.{files_of}
use Rattle.door.specs.Opened.{IsIn, carried_file}
use Rattle.recover.specs.Holding.{IsHeldAs, TellTheirs, named_files}
use Rattle.recover.specs.Opening.{IsOpened}

-- rows that are opened of a content stand for the lake that it stands for, the new one where it is empty
abbrev pub OpenedRowsStand : Type 0
OpenedRowsStand =
    (time : ℤ) (before now : Tables) (files : Files) (first : ℕ) (versions : List Version) → StandsFor before files first versions
    → IsOpened time before now → IsSound now files first versions

module _ {F : Type 0} (name : F → List ℕ) (size : F → ℕ) (bytes : F → Option (List ℕ)) where
  -- the file that is held of a name
  abbrev pub held_at : List (HeldFile F) → List ℕ → Option CarriedFile
  held_at held path = option_map (λ (h : HeldFile F). carried_file name size bytes h.file) (row_of (name_by name) path held)

  -- where the files that rows name are held, so is each path of a data file and of a delete file
  abbrev pub NamedPathsAreHeld : Type 0
  NamedPathsAreHeld =
      (t : Tables) (held : List (HeldFile F)) → AllByRecursion (IsHeldAs name size held) (named_files t)
      → AllByRecursion (λ path. IsSome (held_at held path)) (map (λ (r : DataFileRow). r.path) t.data_file ++ map (λ (r : DeleteFileRow). r.path) t.delete_file)

  -- what is held of a folder lies in its files, under the name that it is held by
  abbrev pub HeldFilesAreThere : Type 0
  HeldFilesAreThere =
      (folder : Folder) (held : List (HeldFile F)) → TellTheirs name size bytes (Some folder) held → (path : List ℕ) (f : CarriedFile)
      → held_at held path ≡ Some f → (f.name ≡ path) × IsIn (files_of folder) f
