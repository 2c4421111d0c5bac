-- The new data files of a version, where fresh rows are staged in files.
use Rattle.std.specs.Prelude.{◌≡◌, ◌≢◌, ℕ, List, [], ◌∷◌, Option, Some, None}
use Rattle.std.specs.List.{AllByRecursion}
use Rattle.lake_model.specs.Growth.{IsGrowth, rows_for}
use Rattle.lake_model.specs.State.{State, Table}
use Rattle.lake_model.specs.declared.change.Change.{Change}
use Rattle.lake_model.specs.declared.change.Ref.{Ref}
use Rattle.lake_model.specs.declared.change.Ref.TheVariants as ref
use Rattle.cat_view.specs.Files.{Files}
use Rattle.cat_view.specs.Named.{NamedFile, NamedTable, NamedVersion}
use Rattle.cat_view.specs.Staged.{IsStaged, NamedStagedFile, NamedStagedTable, staged_for}
use Rattle.cat_growth.specs.Growth.{CanGrow, NewFiles}

-- ---- files

-- a staged file as a version has it: it has a file id, and the ids of its rows count from a start
abbrev pub new_file : ℕ → ℕ → NamedStagedFile → NamedFile
new_file id start x = record { id = id; name = x.name; rows = x.rows; weight = x.weight; first_row = Some start; deletes = None }

abbrev pub new_files : ℕ → ℕ → Option NamedStagedFile → List NamedFile
new_files id start None = []
new_files id start (Some x) = new_file id start x ∷ []

-- those of each table, by its file's id and by the row id that is its next one
abbrev pub fresh_files : (Ref → ℕ) → (Ref → ℕ) → List NamedStagedTable → NewFiles
fresh_files ids starts staged at = new_files (ids at) (starts at) (staged_for staged at).fresh

-- ---- what is staged

-- A list that only creates, drops and inserts fits the base, and what is staged is what it needs, with no row inlined.
pub record AreFilesStaged (files : Files) (version : NamedVersion) (base : State) (own : List Change) (staged : List NamedStagedTable) : Type 0 where
  pub grows : AllByRecursion IsGrowth own
  pub is_staged : IsStaged files version base own staged
  pub none_inlined : AllByRecursion (λ (s : NamedStagedTable). s.inlined ≡ []) staged

-- ---- a head that is the base or past it

-- where the list inserts into a table, it has the columns there that it has at the base
abbrev pub IsUnaltered : State → List Change → NamedTable → Type 0
IsUnaltered base own x = rows_for (ref.Old x.id) own ≢ [] → AllByRecursion (λ (t : Table). t.id ≡ x.id → t.columns ≡ x.columns) base.tables

-- a table of the head
pub record CanTake (files : Files) (base : State) (own : List Change) (starts : Ref → ℕ) (x : NamedTable) : Type 0 where
  pub can_grow : CanGrow files x
  pub start : starts (ref.Old x.id) ≡ x.next_row
  pub unaltered : IsUnaltered base own x
