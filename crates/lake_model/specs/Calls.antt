-- What a call of the catalogue does to the core, and what it replies.
use Rattle.std.specs.Prelude.{◌≡◌, ℕ, ◌+◌, ◌-◌, ◌<◌, ◌==◌, nat_lt, Bool, true, false, List, [], ◌∷◌, drop, length, find, fold, Option, Some, None, min, if◌then◌else◌}
use Rattle.lake_types.specs.declared.kind.Clash.{Clash}
use Rattle.lake_types.specs.declared.limits.TheConstants.{MAX_COUNTER}
use Rattle.lake_model.specs.Apply.{apply}
use Rattle.lake_model.specs.Core.{Core, Version, head, version_at, is_kept, with_version, open_at, with_open, first_past}
use Rattle.lake_model.specs.State.{State, Table}
use Rattle.lake_model.specs.declared.answer.Counter.{Counter}
use Rattle.lake_model.specs.declared.answer.Counter.TheVariants as counter
use Rattle.lake_model.specs.declared.call.Call.{Call}
use Rattle.lake_model.specs.declared.call.Call.TheVariants.{Begin, BeginAt, Commit, Rollback, Expire, Clean, List as ListCall}
use Rattle.lake_model.specs.declared.call.CallReply.{CallReply}
use Rattle.lake_model.specs.declared.call.CallReply.TheVariants as reply
use Rattle.lake_model.specs.declared.call.Loss.{Loss}
use Rattle.lake_model.specs.declared.call.Loss.TheVariants as loss
use Rattle.lake_model.specs.declared.call.Open.{Open}
use Rattle.lake_model.specs.declared.call.SnapRow.{SnapRow}
use Rattle.lake_model.specs.declared.change.Change.{Change}

pub record CallStep : Type 0 where
  pub core : Core
  pub reply : CallReply

abbrev pub replied : Core → CallReply → CallStep
replied core r = record { core = core; reply = r }

-- ---- begin

abbrev pub opened : Core → ℕ → ℕ → Bool → CallStep
opened core session base read_only =
    replied (with_open core session (Some (record { base = base; read_only = read_only }))) (reply.Base base)

abbrev pub begin_at : Core → ℕ → ℕ → CallStep
begin_at core session n = if is_kept core n then opened core session n true else replied core (reply.NotKept core.first (head core))

-- ---- commit: it ends the transaction, also where it clashes; without changes there is no new version

abbrev pub is_empty : List Change → Bool
is_empty own = length own == 0

abbrev pub decided : Core → ℕ → List Change → Option Clash → CallStep
decided core session own (Some c) = replied (with_open core session None) (reply.Clash c)
decided core session own None = replied (with_open (with_version core own) session None) (reply.Snapshot (head core + 1))

abbrev pub commit : Core → ℕ → List Change → Option Open → CallStep
commit core session own None = replied core reply.Done
commit core session own (Some o) =
    if is_empty own then replied (with_open core session None) (reply.Snapshot o.base) else decided core session own (first_past core o.base own)

-- ---- expire: the versions below a number go, unless one of them is open

-- the least of the open bases below a number
abbrev pub least : Option ℕ → ℕ → Option ℕ
least None base = Some base
least (Some other) base = Some (min other base)

abbrev pub with_base : ℕ → Option ℕ → Option Open → Option ℕ
with_base n found None = found
with_base n found (Some o) = if nat_lt o.base n then least found o.base else found

abbrev pub least_base_below : ℕ → List (Option Open) → Option ℕ
least_base_below n opens = fold (with_base n) None opens

abbrev pub without_kinds : List Version → List Version
without_kinds [] = []
without_kinds (v ∷ versions) = record v { kinds = [] } ∷ versions

abbrev pub without_older : Core → ℕ → Core
without_older core n = record core { first = n; versions = without_kinds (drop (n - core.first) core.versions) }

abbrev pub expire_unless : Core → ℕ → Option ℕ → CallStep
expire_unless core n (Some base) = replied core (reply.Pinned base)
expire_unless core n None = replied (without_older core n) reply.Done

abbrev pub expire : Core → ℕ → CallStep
expire core n = if is_kept core n then expire_unless core n (least_base_below n core.opens) else replied core (reply.NotKept core.first (head core))

-- ---- list: each kept version with its text

abbrev pub rows_from : ℕ → List Version → List SnapRow
rows_from n [] = []
rows_from n (v ∷ versions) = record { snapshot = n; changes = v.text } ∷ rows_from (n + 1) versions

-- ---- all calls

abbrev pub call_step : Core → ℕ → Call → CallStep
call_step core session Begin = opened core session (head core) false
call_step core session (BeginAt n) = begin_at core session n
call_step core session (Commit own files) = commit core session own (open_at core session)
call_step core session Rollback = replied (with_open core session None) reply.Done
call_step core session (Expire n) = expire core n
call_step core session Clean = replied core reply.Done
call_step core session ListCall = replied core (reply.Listed (rows_from core.first core.versions))

-- ---- lost calls

-- the core, and the next file id, which the plain lake doesn't have
pub record Ground : Type 0 where
  pub core : Core
  pub next_file : ℕ

-- what is past its limit after a commit: the counter of the new version, or of its files
abbrev pub table_with : ℕ → State → Option Table
table_with id state = find (λ t. t.id == id) state.tables

abbrev pub next_state : Core → List Change → State
next_state core own = apply (version_at core (head core)).state own

abbrev pub Passes : Counter → Ground → List Change → ℕ → Type 0
Passes (counter.Row table) g own files = (t : Table) × (table_with table (next_state g.core own) ≡ Some t) × (MAX_COUNTER < t.next_row)
Passes (counter.Field table) g own files = ⊥
Passes counter.Catalog g own files = MAX_COUNTER < (next_state g.core own).next_catalog
Passes counter.File g own files = MAX_COUNTER < g.next_file + files
Passes counter.Snapshot g own files = MAX_COUNTER < head g.core + 1
Passes counter.History g own files = ⊥

-- no pair stands between the base and the head
abbrev pub is_none_found : Option Clash → Bool
is_none_found None = true
is_none_found (Some c) = false

abbrev pub is_free : Core → List Change → Option Open → Bool
is_free core own None = false
is_free core own (Some o) = is_none_found (first_past core o.base own)

-- a commit has changes, and no refusal of the lake stands
pub record IsLate (core : Core) (session : ℕ) (own : List Change) : Type 0 where
  pub some : is_empty own ≡ false
  pub free : is_free core own (open_at core session) ≡ true

-- the snapshots below a number may go
pub record MayExpire (core : Core) (n : ℕ) : Type 0 where
  pub kept : is_kept core n ≡ true
  pub unpinned : least_base_below n core.opens ≡ None

-- a loss stands only where it may
abbrev pub MayLose : Ground → ℕ → Call → Loss → Type 0
MayLose g session call loss.Memory = Unit {0}
MayLose g session (Commit own files) loss.Keeper = IsLate g.core session own
MayLose g session (Commit own files) (loss.Spent c) = IsLate g.core session own × Passes c g own files
MayLose g session (Expire n) loss.Keeper = MayExpire g.core n
MayLose g session Clean loss.Keeper = Unit {0}
MayLose g session Clean loss.Disk = Unit {0}
MayLose g session call cause = ⊥

-- the reply to a call
abbrev pub Replies : Ground → ℕ → Call → CallReply → Type 0
Replies g session call (reply.Lost cause) = MayLose g session call cause
Replies g session call r = r ≡ (call_step g.core session call).reply
