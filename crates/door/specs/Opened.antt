-- What a session has open, and how an answer changes that.
use Rattle.std.specs.Prelude.{◌≡◌, ℕ, Bool, true, false, List, [], ◌∷◌, length, Option, Some, None, Result, Ok, Err, option_map, unwrap_or}
use Rattle.std.specs.Arc.{arc_value}
use Rattle.std.specs.List.{AllByRecursion, flat_map}
use Rattle.lake_model.specs.Core.{Core, open_at, version_at}
use Rattle.lake_model.specs.History.{CarriedFile}
use Rattle.lake_model.specs.declared.call.CallReply.{CallReply}
use Rattle.lake_model.specs.declared.call.CallReply.TheVariants as reply
use Rattle.lake_model.specs.declared.call.Loss.TheVariants as loss
use Rattle.lake_model.specs.declared.call.Open.{Open}
use Rattle.lake_model.specs.declared.call.SnapRow.{SnapRow}
use Rattle.lake_model.specs.declared.change.Txn.{Txn}
use Rattle.cat_view.specs.Files.{Filed, Files}
use Rattle.cat_view.specs.Named.{NamedVersion, state_of}
use Rattle.cat_view.specs.Views.{base_of, named_view, only_reads, version_of}
use Rattle.cat_view.specs.declared.live.LiveDelete.{LiveDelete}
use Rattle.cat_view.specs.declared.live.LiveFile.{LiveFile}
use Rattle.cat_view.specs.declared.live.TableView.{TableView}
use Rattle.cat_view.specs.declared.staged.Staged.{Staged}
use Rattle.cat_view.specs.declared.version.Version.{Version}
use Rattle.cat_view.specs.declared.version.View.{View}
use Rattle.cat_stands.specs.Stands.{uncounted}
use Rattle.door.specs.declared.no.BeginNo.{BeginNo}
use Rattle.door.specs.declared.no.BeginNo.TheVariants as begin_no
use Rattle.door.specs.declared.no.CommitNo.{CommitNo}
use Rattle.door.specs.declared.no.CommitNo.TheVariants as commit_no
use Rattle.door.specs.declared.no.ListNo.{ListNo}
use Rattle.door.specs.declared.no.ListNo.TheVariants as list_no
use Rattle.door.specs.declared.no.SpentNo.{SpentNo}
use Rattle.door.specs.declared.no.SpentNo.TheVariants as spent_no

-- a base, whether the transaction only reads, the version that it was answered, and the files of this
pub record Opened : Type 0 where
  pub base : ℕ
  pub read_only : Bool
  pub version : NamedVersion
  pub files : List CarriedFile

module _ {F : Type 0} (name : F → List ℕ) (size : F → ℕ) (bytes : F → Option (List ℕ)) where
  abbrev pub carried_file : F → CarriedFile
  carried_file f = record { name = name f; size = size f; bytes = bytes f }

  -- a data file, and behind it its delete file
  abbrev pub files_of : LiveFile F → List CarriedFile
  files_of f = carried_file f.file ∷ unwrap_or (option_map (λ (d : LiveDelete F). carried_file d.file ∷ []) f.deletes) []

  abbrev pub files_of_table : TableView F → List CarriedFile
  files_of_table x = flat_map (λ f. files_of (arc_value f)) x.files.items

  abbrev pub files_of_version : Version F → List CarriedFile
  files_of_version v = flat_map (λ x. files_of_table (arc_value x)) v.tables.items

  abbrev pub opened_of : View F → Opened
  opened_of view = record {
    base = base_of view;
    read_only = only_reads view;
    version = named_view name view;
    files = files_of_version (version_of view);
  }

-- ---- replies

abbrev pub begin_refusal : BeginNo → CallReply
begin_refusal (begin_no.NotKept first head) = reply.NotKept first head
begin_refusal (begin_no.Spent counter) = reply.Lost (loss.Spent counter)
begin_refusal begin_no.Memory = reply.Lost loss.Memory

abbrev pub begin_reply : {F : Type 0} → Result (View F) BeginNo → CallReply
begin_reply (Ok view) = reply.Base (base_of view)
begin_reply (Err why) = begin_refusal why

abbrev pub commit_refusal : CommitNo → CallReply
commit_refusal (commit_no.Clash clash) = reply.Clash clash
commit_refusal (commit_no.Spent counter) = reply.Lost (loss.Spent counter)
commit_refusal commit_no.KeeperFault = reply.Lost loss.Keeper
commit_refusal commit_no.Memory = reply.Lost loss.Memory

-- with the transaction and what was staged, which come back
abbrev pub commit_reply : {F : Type 0} → Result ℕ (CommitNo × Txn × Staged F) → CallReply
commit_reply (Ok n) = reply.Snapshot n
commit_reply (Err why) = commit_refusal why.0

abbrev pub spent_refusal : SpentNo → CallReply
spent_refusal (spent_no.Spent counter) = reply.Lost (loss.Spent counter)
spent_refusal spent_no.Memory = reply.Lost loss.Memory

abbrev pub rollback_reply : Result (Unit {0}) SpentNo → CallReply
rollback_reply (Ok done) = reply.Done
rollback_reply (Err why) = spent_refusal why

abbrev pub list_refusal : ListNo → CallReply
list_refusal (list_no.Spent counter) = reply.Lost (loss.Spent counter)
list_refusal list_no.Memory = reply.Lost loss.Memory

abbrev pub list_reply : Result (List SnapRow) ListNo → CallReply
list_reply (Ok rows) = reply.Listed rows
list_reply (Err why) = list_refusal why

-- ---- what is open afterwards

abbrev pub open_after_begin : {F : Type 0} → (View F → Opened) → Result (View F) BeginNo → Option Opened → Option Opened
open_after_begin told (Ok view) o = Some (told view)
open_after_begin told (Err why) o = o

-- a clash ends the transaction, and no other refusal does
abbrev pub open_after_refusal : CommitNo → Option Opened → Option Opened
open_after_refusal (commit_no.Clash clash) o = None
open_after_refusal why o = o

abbrev pub open_after_commit : {F : Type 0} → Result ℕ (CommitNo × Txn × Staged F) → Option Opened → Option Opened
open_after_commit (Ok n) o = None
open_after_commit (Err why) o = open_after_refusal why.0 o

abbrev pub open_after_rollback : Result (Unit {0}) SpentNo → Option Opened → Option Opened
open_after_rollback (Ok done) o = None
open_after_rollback (Err why) o = o

-- ---- what a transaction has to do with it

-- the transaction began with what is open, and may write
abbrev pub IsOpenFor : Txn → Option Opened → Type 0
IsOpenFor txn None = ⊥
IsOpenFor txn (Some o) = (txn.base ≡ o.base) × (txn.read_only ≡ o.read_only)

-- ---- a core that agrees

-- the file is there, with its size and the bytes that are told of it
pub record IsIn (files : Files) (f : CarriedFile) : Type 0 where
  pub filed : Filed
  pub there : files f.name ≡ Some filed
  pub size_is : length filed.bytes ≡ f.size
  pub told : f.bytes ≡ Some filed.bytes

-- What is open is what the core has open: the version's plain state is the core's at the base, up to counters. With its
-- counters it is where the transaction may write.
pub record IsOpen (files : Files) (core : Core) (o : Open) (v : Opened) : Type 0 where
  pub base : v.base ≡ o.base
  pub read_only : v.read_only ≡ o.read_only
  pub same : uncounted (state_of files 0 v.version) ≡ uncounted (version_at core o.base).state
  pub whole : v.read_only ≡ false → state_of files (version_at core o.base).state.next_catalog v.version ≡ (version_at core o.base).state
  pub there : AllByRecursion (IsIn files) v.files

abbrev pub Agrees : Files → Core → Option Open → Option Opened → Type 0
Agrees files core None None = Unit {0}
Agrees files core (Some o) (Some v) = IsOpen files core o v
Agrees files core None (Some v) = ⊥
Agrees files core (Some o) None = ⊥

abbrev pub AgreesOn : (ℕ → Bool) → Files → Core → (ℕ → Option Opened) → Type 0
AgreesOn serves files core opened = (session : ℕ) → serves session ≡ true → Agrees files core (open_at core session) (opened session)
