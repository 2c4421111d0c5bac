-- What a call asks of the files that it is given, and what holds of the lake after it.
use Rattle.std.specs.Prelude.{◌≡◌, ℕ, List, [], Option, Some, None, option_map}
use Rattle.std.specs.List.{AllByRecursion, filter_map}
use Rattle.lake_model.specs.Calls.{Ground}
use Rattle.lake_model.specs.Core.{Core, version_at}
use Rattle.lake_types.specs.declared.kind.Kind.{Kind}
use Rattle.lake_model.specs.History.{CarriedFile}
use Rattle.lake_model.specs.Kinds.{kinds}
use Rattle.lake_model.specs.declared.change.Change.{Change}
use Rattle.cat_view.specs.Files.{Files}
use Rattle.cat_view.specs.Staged.{IsStaged, NamedStagedTable}
use Rattle.cat_view.specs.Typed.{HoldsTyped}
use Rattle.cat_view.specs.declared.staged.Staged.{Staged}
use Rattle.cat_view.specs.declared.staged.StagedFile.{StagedFile}
use Rattle.cat_view.specs.declared.staged.StagedTable.{StagedTable}
use Rattle.rebase.specs.Parts.{FreshFile, fresh_files}
use Rattle.door.specs.Opened.{IsIn, Opened, carried_file}

-- it stands over these files; a later meaning, of one image of a disk, gets its place here
pub record HasStood (stands : Files → Ground → Type 0) (files : Files) (more : Ground → Type 0) (g : Ground) : Type 0 where
  pub stands_for : stands files g
  pub more_is : more g

abbrev pub nothing_more : Ground → Type 0
nothing_more g = Unit {0}

-- What is staged for the list is what its tables need over the base's version, all in files, of their columns' types. The
-- files are there, with the bytes that are told of them.
pub record IsStagedFor (files : Files) (core : Core) (own : List Change) (staged : List NamedStagedTable) (sealed : List CarriedFile) (o : Opened) : Type 0 where
  pub staged_is : IsStaged files o.version (version_at core o.base).state own staged
  pub in_files : AllByRecursion (λ (s : NamedStagedTable). s.inlined ≡ []) staged
  pub typed : AllByRecursion (λ (x : FreshFile). HoldsTyped files x.file.name) (fresh_files staged)
  pub there : AllByRecursion (IsIn files) sealed

abbrev pub AreStaged : Files → Core → List Change → List NamedStagedTable → List CarriedFile → Option Opened → Type 0
AreStaged files core own staged sealed None = ⊥
AreStaged files core own staged sealed (Some o) = IsStagedFor files core own staged sealed o

-- the kinds of a list at what is open
abbrev pub kinds_at : List Change → Option Opened → List Kind
kinds_at own None = []
kinds_at own (Some o) = kinds o.version.schemas own

-- what an entry carries of a commit: its staged files, with their bytes where these are told
abbrev pub carried : {F : Type 0} → (F → List ℕ) → (F → ℕ) → (F → Option (List ℕ)) → Staged F → List CarriedFile
carried {F} name size bytes staged =
    filter_map (λ (s : StagedTable F). option_map (λ (f : StagedFile F). carried_file name size bytes f.file) s.fresh) staged.tables.items
