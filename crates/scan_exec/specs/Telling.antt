-- When the files of a version tell what a folder holds, and what reading them asks of a disk.
use Rattle.std.specs.Prelude.{◌≡◌, ◌≤◌, ◌+◌, ℕ, List, [], ◌∷◌, Option, Some, None, IfSome}
use Rattle.std.specs.List.{AllByRecursion, flat_map}
use Rattle.std.specs.Arc.{arc_value}
use Rattle.std.specs.declared.sync.Arc.{Arc}
use Rattle.lake_io.specs.Causes.{raised}
use Rattle.lake_types.specs.declared.limits.TheConstants.{MAX_COUNTER}
use Rattle.lake_types.specs.declared.value.Column.{Column}
use Rattle.lake_types.specs.declared.value.Row.{Row}
use Rattle.file_disk.specs.Folder.{Folder}
use Rattle.cat_view.specs.Named.{live_rows}
use Rattle.cat_view.specs.Views.{named_file, version_of}
use Rattle.cat_view.specs.declared.live.LiveDelete.{LiveDelete}
use Rattle.cat_view.specs.declared.live.LiveFile.{LiveFile}
use Rattle.cat_view.specs.declared.live.TableView.{TableView}
use Rattle.cat_view.specs.declared.version.View.{View}
use Rattle.row_files.specs.Folders.{files_of}

-- a file tells its bytes, and the folder holds these under its name
pub record Tells {F : Type 0} (name : F → List ℕ) (bytes : F → Option (List ℕ)) (folder : Folder) (file : F) : Type 0 where
  pub held : List ℕ
  pub told : bytes file ≡ Some held
  pub there : folder (name file) ≡ Some held

-- so of a data file, and of its delete file
pub record TellsFile {F : Type 0} (name : F → List ℕ) (bytes : F → Option (List ℕ)) (folder : Folder) (f : LiveFile F) : Type 0 where
  pub data_file : Tells name bytes folder f.file
  pub delete_file : IfSome f.deletes (λ (d : LiveDelete F). Tells name bytes folder d.file)

abbrev pub TellFiles : {F A : Type 0} → (F → List ℕ) → (F → Option (List ℕ)) → Folder → List (Arc (LiveFile F) A) → Type 0
TellFiles name bytes folder files = AllByRecursion (λ f. TellsFile name bytes folder (arc_value f)) files

-- so of all files of a view
abbrev pub TellsView : {F : Type 0} → (F → List ℕ) → (F → Option (List ℕ)) → Folder → View F → Type 0
TellsView {F} name bytes folder v = AllByRecursion (λ x. TellFiles name bytes folder (arc_value {X = TableView F} x).files.items) (version_of v).tables.items

-- the rows of some data files, one file after the other
abbrev pub rows_in : {F A : Type 0} → (F → List ℕ) → Folder → List Column → List (Arc (LiveFile F) A) → List Row
rows_in name folder columns files = flat_map (λ f. live_rows (files_of folder) columns (named_file name (arc_value f))) files

-- ---- row ids that count stay up to 2 to the 62

abbrev pub HasIds : {F : Type 0} → LiveFile F → Type 0
HasIds f = IfSome f.first_row (λ first. first + f.rows ≤ MAX_COUNTER)

abbrev pub HaveIds : {F A : Type 0} → List (Arc (LiveFile F) A) → Type 0
HaveIds files = AllByRecursion (λ f. HasIds (arc_value f)) files

abbrev pub HasViewIds : {F : Type 0} → View F → Type 0
HasViewIds {F} v = AllByRecursion (λ x. HaveIds (arc_value {X = TableView F} x).files.items) (version_of v).tables.items

-- ---- reads of files

-- a count of reads after a data file is read, and then its delete file
abbrev pub read_with : {X : Type 0} → Option X → ℕ → ℕ
read_with None count = raised count
read_with (Some d) count = raised (raised count)

abbrev pub reads_of : {F : Type 0} → LiveFile F → ℕ → ℕ
reads_of f count = read_with f.deletes count

-- the same after some data files
abbrev pub reads : {F A : Type 0} → List (Arc (LiveFile F) A) → ℕ → ℕ
reads [] count = count
reads (f ∷ files) count = reads files (reads_of (arc_value f) count)
