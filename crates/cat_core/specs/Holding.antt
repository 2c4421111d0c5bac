-- Staged files that are to be held, table by table.
use Rattle.std.specs.Prelude.{◌≡◌, ℕ, List, [], map, Option, Some, None, option_map}
use Rattle.std.specs.List.{AllByRecursion, cons_option, filter_map}
use Rattle.lake_model.specs.History.{CarriedFile}
use Rattle.cat_rows.specs.Batches.{AllDiffer}
use Rattle.cat_view.specs.StagedNames.{named_staged_table}
use Rattle.cat_view.specs.declared.staged.StagedFile.{StagedFile}
use Rattle.cat_view.specs.declared.staged.StagedTable.{StagedTable}
use Rattle.rebase.specs.Parts.{FreshFile, fresh_files}
use Rattle.door.specs.Opened.{carried_file}

-- no two have one name
abbrev pub HaveOtherNames : List FreshFile → Type 0
HaveOtherNames xs = AllDiffer (map (λ (x : FreshFile). x.file.name) xs)

-- none has the name of a file that is held
abbrev pub AreUnheldFiles : (List ℕ → Option CarriedFile) → List FreshFile → Type 0
AreUnheldFiles held xs = AllByRecursion (λ (x : FreshFile). held x.file.name ≡ None) xs

module _ {F : Type 0} (name : F → List ℕ) (size : F → ℕ) where
  abbrev pub fresh_of : List (StagedTable F) → List FreshFile
  fresh_of tables = fresh_files (map (named_staged_table name size) tables)

  -- so of the files of some tables
  pub record Rests (held : List ℕ → Option CarriedFile) (tables : List (StagedTable F)) : Type 0 where
    pub differ : HaveOtherNames (fresh_of tables)
    pub unheld : AreUnheldFiles held (fresh_of tables)

  module _ (bytes : F → Option (List ℕ)) where
    abbrev pub one_file : Option (StagedFile F) → List CarriedFile
    one_file f = cons_option (option_map (λ (x : StagedFile F). carried_file name size bytes x.file) f) []

    abbrev pub file_of : StagedTable F → Option CarriedFile
    file_of s = option_map (λ (f : StagedFile F). carried_file name size bytes f.file) s.fresh

    abbrev pub files_of : List (StagedTable F) → List CarriedFile
    files_of tables = filter_map file_of tables

-- of one table, which may have a file
abbrev pub IsUnheldIn : {F : Type 0} → (F → List ℕ) → (List ℕ → Option CarriedFile) → Option (StagedFile F) → Type 0
IsUnheldIn name held None = Unit {0}
IsUnheldIn name held (Some f) = held (name f.file) ≡ None
