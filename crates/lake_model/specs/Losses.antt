-- Lost statements: which of them a fault may take, so that it changes nothing.
use Rattle.std.specs.Prelude.{◌≡◌, ℕ, ◌&&◌, not, Bool, true, false, List, Option, Some, None}
use Rattle.lake_types.specs.declared.stmt.Stmt.{Stmt}
use Rattle.lake_types.specs.declared.stmt.Stmt.TheVariants as stmt
use Rattle.lake_model.specs.Calls.{is_empty}
use Rattle.lake_model.specs.Core.{Core}
use Rattle.lake_model.specs.Step.{Step, step, refused}
use Rattle.lake_model.specs.declared.answer.Answer.{Answer}
use Rattle.lake_model.specs.declared.answer.Answer.TheVariants as answer
use Rattle.lake_model.specs.declared.answer.Counter.{Counter}
use Rattle.lake_model.specs.declared.answer.Counter.TheVariants as counter
use Rattle.lake_model.specs.declared.change.Change.{Change}

-- the sorts of lost answers; a spent counter of the history stands apart
pub data LossSort : Type 0 where
  Memory : LossSort
  Disk : LossSort
  Keeper : LossSort
  Damaged : LossSort
  NameTaken : LossSort
  Spent : LossSort
  SpentHistory : LossSort

-- a spent field id is a refusal of ADD COLUMN and no loss
abbrev pub spent_sort : Counter → Option LossSort
spent_sort (counter.Row table) = Some Spent
spent_sort (counter.Field table) = None
spent_sort counter.Catalog = Some Spent
spent_sort counter.File = Some Spent
spent_sort counter.Snapshot = Some Spent
spent_sort counter.History = Some SpentHistory

abbrev pub loss_sort : Answer → Option LossSort
loss_sort answer.Memory = Some Memory
loss_sort answer.Disk = Some Disk
loss_sort answer.Keeper = Some Keeper
loss_sort (answer.Damaged name) = Some Damaged
loss_sort (answer.NameTaken name) = Some NameTaken
loss_sort (answer.Spent c) = spent_sort c
loss_sort a = None

-- ---- the statements that each sort may take

-- those that read files
abbrev pub of_reading : LossSort → Bool
of_reading Memory = true
of_reading Disk = true
of_reading Damaged = true
of_reading s = false

-- those that are one call and neither stage nor store
abbrev pub of_call : LossSort → Bool
of_call Memory = true
of_call SpentHistory = true
of_call s = false

abbrev pub of_expiry : LossSort → Bool
of_expiry Memory = true
of_expiry Keeper = true
of_expiry SpentHistory = true
of_expiry s = false

abbrev pub of_cleanup : LossSort → Bool
of_cleanup Memory = true
of_cleanup Keeper = true
of_cleanup Disk = true
of_cleanup SpentHistory = true
of_cleanup s = false

-- a commit without changes stages nothing and stores nothing
abbrev pub of_commit : Bool → LossSort → Bool
of_commit true s = of_call s
of_commit false s = true

abbrev pub of_memory : LossSort → Bool
of_memory Memory = true
of_memory s = false

abbrev pub is_listed : List Change → Stmt → LossSort → Bool
is_listed own stmt.Begin s = of_call s
is_listed own (stmt.BeginAt n) s = of_call s
is_listed own stmt.Commit s = of_commit (is_empty own) s
is_listed own stmt.Rollback s = of_call s
is_listed own (stmt.Delete table test) s = of_reading s
is_listed own (stmt.Update table set test) s = of_reading s
is_listed own (stmt.Select table items test) s = of_reading s
is_listed own (stmt.Expire n) s = of_expiry s
is_listed own stmt.Clean s = of_cleanup s
is_listed own stmt.Snapshots s = of_call s
is_listed own x s = of_memory s

-- ---- the answers of the plain lake that stand before a sort

-- a spent history stands before all refusals but those of the session's state
abbrev pub not_of_history : LossSort → Bool
not_of_history SpentHistory = false
not_of_history s = true

-- of a commit: what staging finds stands before the conflict
abbrev pub after_conflict : LossSort → Bool
after_conflict Spent = true
after_conflict Keeper = true
after_conflict s = false

-- want of memory may come anywhere; files are read before the rows of an UPDATE are weighed
abbrev pub is_earlier : Answer → LossSort → Bool
is_earlier a Memory = false
is_earlier answer.Done s = false
is_earlier (answer.Number n) s = false
is_earlier answer.TooLarge s = false
is_earlier (answer.Conflict c) s = after_conflict s
is_earlier (answer.NotKept first head) s = not_of_history s
is_earlier (answer.Pinned base) s = not_of_history s
is_earlier a s = true

abbrev pub may_lose : Core → List Change → ℕ → Stmt → LossSort → Bool
may_lose core own session x s = is_listed own x s && not (is_earlier (step core own session x).reply.last s)

abbrev pub MayLose : Core → List Change → ℕ → Stmt → Option LossSort → Type 0
MayLose core own session x None = ⊥
MayLose core own session x (Some s) = may_lose core own session x s ≡ true

-- ---- a statement that is answered by the step, or is lost

abbrev pub turn : Core → List Change → ℕ → Stmt → Option Answer → Step
turn core own session x None = step core own session x
turn core own session x (Some lost) = refused core own lost

abbrev pub IsLost : Core → List Change → ℕ → Stmt → Option Answer → Type 0
IsLost core own session x None = Unit {0}
IsLost core own session x (Some lost) = MayLose core own session x (loss_sort lost)
