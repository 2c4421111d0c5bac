-- What holds of a version that a list of creations, drops and inserts makes.
use Rattle.std.specs.Prelude.{◌≡◌, ℕ, ◌+◌, false, List, length}
use Rattle.std.specs.List.{AllByRecursion}
use Rattle.lake_types.specs.declared.kind.Kind.{Kind}
use Rattle.lake_model.specs.Apply.{apply}
use Rattle.lake_model.specs.Creations.{creations}
use Rattle.lake_model.specs.Growth.{IsGrowth, grown_state, made_tables, rows_for}
use Rattle.lake_model.specs.Kinds.{drops_table}
use Rattle.lake_model.specs.State.{State}
use Rattle.lake_model.specs.declared.change.Change.{Change}
use Rattle.lake_model.specs.declared.change.Ref.{Ref}
use Rattle.lake_model.specs.declared.change.Ref.TheVariants as ref
use Rattle.lake_rebase.specs.Laws.{IsFree}
use Rattle.cat_view.specs.Files.{Extends, Files}
use Rattle.cat_view.specs.Named.{NamedTable, NamedVersion, state_of}
use Rattle.cat_view.specs.Staged.{NamedStagedTable, staged_for}
use Rattle.cat_growth.specs.Fresh.{AreFilesStaged, CanTake, IsUnaltered, fresh_files, new_files}
use Rattle.cat_growth.specs.Growth.{HoldRows, IsMadeReady, IsReady, NewFiles, grown_version}

-- ---- new files that hold the list's rows

-- over the files before, and then over more files, the version after the list is the plain state after it
abbrev pub VersionsGrow : Type 0
VersionsGrow =
    (files more : Files) (news : NewFiles) (own : List Change) (next : ℕ) (v : NamedVersion) → Extends files more
    → AllByRecursion (λ (x : NamedTable). drops_table own (ref.Old x.id) ≡ false → IsReady files more news own x) v.tables
    → AllByRecursion (IsMadeReady more news) (made_tables 0 own)
    → state_of more (next + length (creations 0 0 own)) (grown_version news next own v) ≡ grown_state (state_of files next v) own

-- which is what Apply makes of the state before
abbrev pub VersionsApply : Type 0
VersionsApply =
    (files more : Files) (news : NewFiles) (own : List Change) (next : ℕ) (v : NamedVersion) → AllByRecursion IsGrowth own → Extends files more
    → AllByRecursion (λ (x : NamedTable). drops_table own (ref.Old x.id) ≡ false → IsReady files more news own x) v.tables
    → AllByRecursion (IsMadeReady more news) (made_tables 0 own)
    → state_of more (next + length (creations 0 0 own)) (grown_version news next own v) ≡ apply (state_of files next v) own

-- ---- staged files hold them

-- of a table that is at the base, or at a head where it is unaltered or takes no rows, whatever the file's id and its first row id
abbrev pub StagedFilesHold : Type 0
StagedFilesHold =
    (at_staging more : Files) (version : NamedVersion) (base : State) (own : List Change) (staged : List NamedStagedTable)
    → AreFilesStaged at_staging version base own staged → Extends at_staging more
    → (x : NamedTable) → drops_table own (ref.Old x.id) ≡ false → IsUnaltered base own x
    → (id start : ℕ) → HoldRows more x.columns start (rows_for (ref.Old x.id) own) (new_files id start (staged_for staged (ref.Old x.id)).fresh)

-- of the tables that the list creates and leaves
abbrev pub MadeFilesHold : Type 0
MadeFilesHold =
    (at_staging more : Files) (version : NamedVersion) (base : State) (own : List Change) (staged : List NamedStagedTable)
    → AreFilesStaged at_staging version base own staged → Extends at_staging more
    → (ids starts : Ref → ℕ) → ((place : ℕ) → starts (ref.New place) ≡ 0)
    → AllByRecursion (IsMadeReady more (fresh_files ids starts staged)) (made_tables 0 own)

-- ---- at a head past the base

-- where the list conflicts with nothing that came between, all that it leaves at the head is unaltered
abbrev pub FreeTablesStay : Type 0
FreeTablesStay =
    (told : List Kind) (base : State) (files : Files) (next : ℕ) (head : NamedVersion) (own : List Change) → IsFree told base (state_of files next head) own
    → AllByRecursion (λ (x : NamedTable). drops_table own (ref.Old x.id) ≡ false → IsUnaltered base own x) head.tables

-- So a head with the staged files is the plain state that Apply makes of the head's, whatever the ids of the files.
abbrev pub StagedVersionsApply : Type 0
StagedVersionsApply =
    (at_staging files more : Files) (version : NamedVersion) (base : State) (own : List Change) (staged : List NamedStagedTable)
    → AreFilesStaged at_staging version base own staged → Extends at_staging more → Extends files more
    → (ids starts : Ref → ℕ) (next : ℕ) (head : NamedVersion) → ((place : ℕ) → starts (ref.New place) ≡ 0)
    → AllByRecursion (λ (x : NamedTable). drops_table own (ref.Old x.id) ≡ false → CanTake files base own starts x) head.tables
    → state_of more (next + length (creations 0 0 own)) (grown_version (fresh_files ids starts staged) next own head) ≡ apply (state_of files next head) own
