-- What a commit makes of what a core keeps.
use Rattle.std.specs.Prelude.{◌≡◌, ◌≢◌, ◌+◌, ◌-◌, ◌⊎◌, ℕ, ℤ, false, List, [], ◌∷◌, ◌++◌, Contains, drop, map, slice_set, Option, Some, None, IfSome, IsSome}
use Rattle.std.specs.List.{AllByRecursion}
use Rattle.lake_types.specs.declared.kind.Clash.{Clash}
use Rattle.lake_types.specs.declared.kind.Kind.{Kind}
use Rattle.lake_model.specs.Clashes.{first_clash, or_later}
use Rattle.lake_model.specs.Creations.{creations}
use Rattle.lake_model.specs.History.{CarriedFile}
use Rattle.lake_model.specs.declared.answer.Counter.{Counter}
use Rattle.lake_model.specs.declared.change.Change.{Change}
use Rattle.lake_model.specs.declared.change.Change.TheVariants as change
use Rattle.lake_model.specs.declared.change.Txn.{Txn}
use Rattle.cat_rows.specs.Batches.{AllDiffer, applied}
use Rattle.cat_rows.specs.Tables.{Tables}
use Rattle.cat_rows.specs.declared.batch.Batch.{Batch}
use Rattle.cat_rows.specs.declared.files.ScheduledFileRow.{ScheduledFileRow}
use Rattle.cat_rows.specs.declared.history.SnapshotRow.{SnapshotRow}
use Rattle.cat_rules.specs.Kept.{newest}
use Rattle.cat_view.specs.Staged.{NamedStagedTable}
use Rattle.cat_view.specs.Typed.{HasBytes}
use Rattle.rebase.specs.Batch.{batch_at}
use Rattle.rebase.specs.Parts.{FreshFile, fresh_files}
use Rattle.rebase.specs.Spent.{first_spent}
use Rattle.door.specs.Opened.{Opened}
use Rattle.door.specs.declared.no.CommitNo.{CommitNo}
use Rattle.door.specs.declared.no.CommitNo.TheVariants as commit_no
use Rattle.cat_core.specs.Shown.{IsMade, Shown}

-- ---- conflicts

-- the first pair with the snapshots that have these kinds, the first of which has this number
abbrev pub first_in : List Kind → ℕ → List (List Kind) → Option Clash
first_in mine n [] = None
first_in mine n (kinds ∷ more) = or_later (first_clash mine n kinds) (first_in mine (n + 1) more)

-- the first pair past a base, among the snapshots since the start
abbrev pub first_since : Shown → ℕ → List Kind → Option Clash
first_since c base mine = first_in mine (base + 1) (drop (base - c.start) c.kinds)

-- A comparison is refused for a pair, the first, where the transaction may write; or for want of memory.
abbrev pub IsCompared : Shown → Txn → List Kind → CommitNo → Type 0
IsCompared c txn mine (commit_no.Clash clash) = (txn.read_only ≡ false) × (first_since c txn.base mine ≡ Some clash)
IsCompared c txn mine commit_no.Memory = Unit {0}
IsCompared c txn mine why = ⊥

-- ---- names of new files

-- no two have one name, no file of the name is held, and none is scheduled to go
pub record AreNew (rows : Tables) (held : List ℕ → Option CarriedFile) (files : List FreshFile) : Type 0 where
  pub differ : AllDiffer (map (λ (x : FreshFile). x.file.name) files)
  pub unheld : AllByRecursion (λ (x : FreshFile). held x.file.name ≡ None) files
  pub unscheduled : AllByRecursion (λ (x : FreshFile). AllByRecursion (λ (r : ScheduledFileRow). r.path ≢ x.file.name) rows.scheduled_file) files

-- ---- the batch

-- the bytes of the defaults of created columns are bytes
abbrev pub CreatesBytes : Change → Type 0
CreatesBytes (change.CreateTable schema name columns) = AllByRecursion HasBytes columns
CreatesBytes c = Unit {0}

-- it is made at the newest snapshot, whose version is the head, for the one past it
pub record IsNext (rows : Tables) (held : List ℕ → Option CarriedFile) (own : List Change) (staged : List NamedStagedTable) (time : ℤ) (batch : Batch) : Type 0 where
  pub newest_row : SnapshotRow
  pub newest_is : newest rows.snapshot ≡ Some newest_row
  pub head : Opened
  pub base : head.base ≡ newest_row.snapshot_id
  pub made : IsMade rows held head
  pub batch_is : batch ≡ batch_at rows newest_row time head.version.schemas own staged
  pub unspent : first_spent rows newest_row (creations 0 0 own) (fresh_files staged) ≡ None
  pub names : AreNew rows held (fresh_files staged)
  pub bytes : AllByRecursion CreatesBytes own

-- the number of the snapshot past the newest
abbrev pub IsPastNewest : Tables → ℕ → Type 0
IsPastNewest rows n = IfSome (newest rows.snapshot) (λ (r : SnapshotRow). n ≡ r.snapshot_id + 1)

-- a counter is the first one that would pass its last value
pub record IsSpent (rows : Tables) (own : List Change) (staged : List NamedStagedTable) (counter : Counter) : Type 0 where
  pub newest_row : SnapshotRow
  pub newest_is : newest rows.snapshot ≡ Some newest_row
  pub spent : first_spent rows newest_row (creations 0 0 own) (fresh_files staged) ≡ Some counter

-- no batch is made where a counter is spent, or for want of memory
abbrev pub IsUnmade : Tables → List Change → List NamedStagedTable → CommitNo → Type 0
IsUnmade rows own staged (commit_no.Spent counter) = IsSpent rows own staged counter
IsUnmade rows own staged commit_no.Memory = Unit {0}
IsUnmade rows own staged why = ⊥

-- ---- afterwards

-- these files are held besides
pub record HoldsMore (files : List CarriedFile) (before now : List ℕ → Option CarriedFile) : Type 0 where
  pub still : (name : List ℕ) → IsSome (before name) → now name ≡ before name
  pub new : AllByRecursion (λ (f : CarriedFile). now f.name ≡ Some f) files
  pub only : (name : List ℕ) (f : CarriedFile) → now name ≡ Some f → (before name ≡ Some f) ⊎ (Contains files f × (f.name ≡ name))

-- the batch is applied, its kinds are kept, the files are held, and nothing is open at this place any more
pub record HasLanded (batch : Batch) (mine : List Kind) (place : ℕ) (files : List CarriedFile) (before now : Shown) : Type 0 where
  pub rows : now.rows ≡ applied batch before.rows
  pub start : now.start ≡ before.start
  pub kinds : now.kinds ≡ before.kinds ++ mine ∷ []
  pub opens : now.opens ≡ slice_set before.opens place None
  pub held : HoldsMore files before.held now.held
