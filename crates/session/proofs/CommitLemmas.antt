-- COMMIT, ROLLBACK and SNAPSHOTS.
use Rattle.std.proofs.Common.{◌≡◌, ◌≢◌, ◌+◌, ℕ, List, [], ◌∷◌, true, false, refl, ◌∙◌, ap, subst, rules, arith}
use Rattle.std.specs.Prelude.{IsSome, Option, Some, None}
use Rattle.lake_types.specs.declared.kind.Clash.{Clash}
use Rattle.lake_types.specs.declared.stmt.Stmt.TheVariants as stmt
use Rattle.lake_model.specs.Calls as calls
use Rattle.lake_model.specs.Calls.{CallStep, Ground, IsLate, MayLose, call_step, decided, is_empty, is_free, is_none_found}
use Rattle.lake_model.specs.Core.{Core, first_past, head, open_at}
use Rattle.lake_model.specs.History.{FitsOpen}
use Rattle.lake_model.specs.Losses.{Damaged, Disk, IsLost, Keeper, LossSort, Memory, NameTaken, Spent, SpentHistory, is_earlier, may_lose}
use Rattle.lake_model.specs.Step.{Step, called, end, only, refused, reply_of, step}
use Rattle.lake_model.specs.declared.answer.Answer.TheVariants as answer
use Rattle.lake_model.specs.declared.answer.Counter.{Counter}
use Rattle.lake_model.specs.declared.answer.Counter.TheVariants as counter
use Rattle.lake_model.specs.declared.answer.Reply.{Reply}
use Rattle.lake_model.specs.declared.call.Call.{Call}
use Rattle.lake_model.specs.declared.call.Call.TheVariants as call
use Rattle.lake_model.specs.declared.call.Loss.{Loss}
use Rattle.lake_model.specs.declared.call.Loss.TheVariants as loss
use Rattle.lake_model.specs.declared.call.Open.{Open}
use Rattle.lake_model.specs.declared.change.Change.{Change}
use Rattle.row_files.specs.declared.fault.StageNo.{StageNo}
use Rattle.row_files.specs.declared.fault.StageNo.TheVariants as stage_no
use Rattle.cat_view.specs.Files.{Files}
use Rattle.cat_view.specs.Staged.{NamedStagedTable}
use Rattle.lake_model.specs.History.{CarriedFile}
use Rattle.door.specs.Opened.{Agrees, IsOpen, Opened}
use Rattle.door.specs.Standing.{AreStaged, IsStagedFor}
use Rattle.session.specs.Turns.{IsTurnFor, loss_answer, stage_answer}
use Rattle.session.proofs.LineLemmas.{IsOneCall, may_want, none_open, step_turn}

-- ---- the step of a call that ends a transaction

ends : (core : Core) (own : List Change) (session : ℕ) (c : Call) (o : Option Open) → IsSome o → end core own session c o ≡ called (call_step core session c)
ends core own session c None h = absurd (search (rules, h))
ends core own session c (Some o) h = refl

open_of_fits : (core : Core) (own : List Change) (o : Option Open) → FitsOpen core own o → IsSome o
open_of_fits core own None h = absurd h
open_of_fits core own (Some o) h = refl

pub rollback_calls : (session : ℕ) (own : List Change) → IsOneCall session stmt.Rollback own [] call.Rollback
rollback_calls session own = record {
  built = refl;
  steps = λ core meets. ends core own session call.Rollback (open_at core session) meets;
  loses = loses;
}
  where
    loses : (g : Ground) (cause : Loss) → MayLose g session call.Rollback cause → IsLost g.core own session stmt.Rollback (Some (loss_answer cause))
    loses g loss.Memory h = may_want g.core own session stmt.Rollback
    loses g loss.Keeper h = absurd h
    loses g loss.Disk h = absurd h
    loses g (loss.Spent c) h = absurd h

pub list_calls : (session : ℕ) (own : List Change) → IsOneCall session stmt.Snapshots own own call.List
list_calls session own = record {
  built = refl;
  steps = λ core meets. refl;
  loses = loses;
}
  where
    loses : (g : Ground) (cause : Loss) → MayLose g session call.List cause → IsLost g.core own session stmt.Snapshots (Some (loss_answer cause))
    loses g loss.Memory h = may_want g.core own session stmt.Snapshots
    loses g loss.Keeper h = absurd h
    loses g loss.Disk h = absurd h
    loses g (loss.Spent c) h = absurd h

-- ---- which answers of a COMMIT stand before a loss

lost_commit : (core : Core) (own : List Change) (session : ℕ) (s : LossSort) → is_empty own ≡ false → is_earlier (step core own session stmt.Commit).reply.last s ≡ false
    → may_lose core own session stmt.Commit s ≡ true
lost_commit core own session s some late = rw (some, late) refl

number_late : (n : ℕ) (s : LossSort) → is_earlier (answer.Number n) s ≡ false
number_late n Memory = refl
number_late n Disk = refl
number_late n Keeper = refl
number_late n Damaged = refl
number_late n NameTaken = refl
number_late n Spent = refl
number_late n SpentHistory = refl

-- where no pair stands
free_late : (core : Core) (session : ℕ) (own : List Change) (c : Option Clash) (s : LossSort) → is_none_found c ≡ true → is_earlier (reply_of (decided core session own c).reply).last s ≡ false
free_late core session own None s h = number_late (head core + 1) s
free_late core session own (Some c) s h = absurd (search (rules, h))

commit_late : (core : Core) (own : List Change) (session : ℕ) (o : Option Open) (s : LossSort) → is_empty own ≡ false → is_free core own o ≡ true
    → is_earlier (reply_of (calls.commit core session own o).reply).last s ≡ false
commit_late core own session None s some free = absurd (search (rules, free))
commit_late core own session (Some o) s some free = rw some (free_late core session own (first_past core o.base own) s free)

open_of_free : (core : Core) (own : List Change) (o : Option Open) → is_free core own o ≡ true → IsSome o
open_of_free core own None h = absurd (search (rules, h))
open_of_free core own (Some o) h = refl

may_late : (core : Core) (own : List Change) (session : ℕ) (s : LossSort) → IsLate core session own → may_lose core own session stmt.Commit s ≡ true
may_late core own session s late =
    lost_commit core own session s late.some
    (ap (λ (t : Step). is_earlier t.reply.last s) (ends core own session (call.Commit own 0) (open_at core session) (open_of_free core own (open_at core session) late.free))
    ∙ commit_late core own session (open_at core session) s late.some late.free)

-- what staging meets stands before a conflict
abbrev IsOfStaging : LossSort → Type 0
IsOfStaging s = (c : Clash) → is_earlier (answer.Conflict c) s ≡ false

clash_late : (core : Core) (session : ℕ) (own : List Change) (c : Option Clash) (s : LossSort) → IsOfStaging s → is_earlier (reply_of (decided core session own c).reply).last s ≡ false
clash_late core session own None s h = number_late (head core + 1) s
clash_late core session own (Some c) s h = h c

staging_late : (core : Core) (own : List Change) (session : ℕ) (o : Option Open) (s : LossSort) → is_empty own ≡ false → IsSome o → IsOfStaging s
    → is_earlier (reply_of (calls.commit core session own o).reply).last s ≡ false
staging_late core own session None s some there h = absurd (search (rules, there))
staging_late core own session (Some o) s some there h = rw some (clash_late core session own (first_past core o.base own) s h)

may_staging : (core : Core) (own : List Change) (session : ℕ) (s : LossSort) → is_empty own ≡ false → IsSome (open_at core session) → IsOfStaging s
    → may_lose core own session stmt.Commit s ≡ true
may_staging core own session s some there h =
    lost_commit core own session s some
    (ap (λ (t : Step). is_earlier t.reply.last s) (ends core own session (call.Commit own 0) (open_at core session) there)
    ∙ staging_late core own session (open_at core session) s some there h)

-- ---- the call of a COMMIT

spent_loses : (g : Ground) (own : List Change) (session files : ℕ) (c : Counter) → MayLose g session (call.Commit own files) (loss.Spent c)
    → IsLost g.core own session stmt.Commit (Some (answer.Spent c))
spent_loses g own session files (counter.Row table) h = may_late g.core own session Spent h.0
spent_loses g own session files (counter.Field table) h = absurd h.1
spent_loses g own session files counter.Catalog h = may_late g.core own session Spent h.0
spent_loses g own session files counter.File h = may_late g.core own session Spent h.0
spent_loses g own session files counter.Snapshot h = may_late g.core own session Spent h.0
spent_loses g own session files counter.History h = absurd h.1

pub commit_calls : (session files : ℕ) (own : List Change) → IsOneCall session stmt.Commit own [] (call.Commit own files)
commit_calls session files own = record {
  built = refl;
  steps = λ core meets. ends core own session (call.Commit own 0) (open_at core session) (open_of_fits core own (open_at core session) meets);
  loses = loses;
}
  where
    loses : (g : Ground) (cause : Loss) → MayLose g session (call.Commit own files) cause → IsLost g.core own session stmt.Commit (Some (loss_answer cause))
    loses g loss.Memory h = may_want g.core own session stmt.Commit
    loses g loss.Keeper h = may_late g.core own session Keeper h
    loses g loss.Disk h = absurd h
    loses g (loss.Spent c) h = spent_loses g own session files c h

-- ---- staging was refused

not_empty : (own : List Change) → own ≢ [] → is_empty own ≡ false
not_empty [] h = absurd (h refl)
not_empty (c ∷ own) h = search (rules, arith)

there : (files : Files) (core : Core) (o : Option Open) (v : Opened) → Agrees files core o (Some v) → IsSome o
there files core None v h = absurd h
there files core (Some o) v h = refl

staging_loses : (core : Core) (own : List Change) (session : ℕ) (why : StageNo) → own ≢ [] → IsSome (open_at core session)
    → IsLost core own session stmt.Commit (Some (stage_answer why))
staging_loses core own session stage_no.DiskFault some open_there = may_staging core own session Disk (not_empty own some) open_there (λ c. refl)
staging_loses core own session (stage_no.Taken name) some open_there = may_staging core own session NameTaken (not_empty own some) open_there (λ c. refl)
staging_loses core own session (stage_no.Damaged name) some open_there = may_staging core own session Damaged (not_empty own some) open_there (λ c. refl)
staging_loses core own session stage_no.Memory some open_there = may_want core own session stmt.Commit

pub turn_unstaged : (v : Opened) (own : List Change) (session : ℕ) (why : StageNo) (r : Reply) (own' : List Change) → own ≢ [] → r ≡ only (stage_answer why) → own' ≡ own
    → IsTurnFor (Some v) own session stmt.Commit r own'
turn_unstaged v own session why r own' some is same files core agrees = record {
  lost = Some (stage_answer why);
  may = staging_loses core own session why some (there files core (open_at core session) v agrees);
  reply_is = is;
  own_is = same;
  core_is = refl;
}

-- ---- nothing is open

unopened : (core : Core) (own : List Change) (session : ℕ) (c : Call) (o : Option Open) → o ≡ None → end core own session c o ≡ refused core own answer.NoTransaction
unopened core own session c o e = rw e refl

pub commit_unopened : (own : List Change) (session : ℕ) → IsTurnFor None own session stmt.Commit (only answer.NoTransaction) own
commit_unopened own session files core agrees =
    step_turn core own session stmt.Commit (refused core own answer.NoTransaction)
    (unopened core own session (call.Commit own 0) (open_at core session) (none_open files core (open_at core session) agrees))

pub rollback_unopened : (own : List Change) (session : ℕ) → IsTurnFor None own session stmt.Rollback (only answer.NoTransaction) own
rollback_unopened own session files core agrees =
    step_turn core own session stmt.Rollback (refused core own answer.NoTransaction)
    (unopened core own session call.Rollback (open_at core session) (none_open files core (open_at core session) agrees))

-- ---- what a commit asks of the lake

pub may_commit : (files : Files) (core : Core) (o : Option Open) (v : Opened) (own : List Change) (staged : List NamedStagedTable) (sealed : List CarriedFile) → Agrees files core o (Some v)
    → ((p : Open) → IsOpen files core p v → IsStagedFor files core own staged sealed v) → FitsOpen core own o × AreStaged files core own staged sealed (Some v)
may_commit files core None v own staged sealed agrees h = absurd agrees
may_commit files core (Some o) v own staged sealed agrees h =
    let s = h o agrees in
    (subst (λ base. FitsOpen core own (Some record { base = base; read_only = o.read_only })) agrees.base s.staged_is.fits, s)
