-- From a call of a door, or from none, to the answer of a statement.
use Rattle.std.proofs.Common.{◌≡◌, ℕ, List, [], Bool, true, false, refl, sym, ap, subst}
use Rattle.std.specs.Prelude.{Option, Some, None}
use Rattle.lake_types.specs.declared.stmt.Stmt.{Stmt}
use Rattle.lake_types.specs.declared.stmt.Stmt.TheVariants as stmt
use Rattle.lake_model.specs.Calls.{Ground, MayLose, Replies, call_step, is_empty}
use Rattle.lake_model.specs.Core.{Core, open_at}
use Rattle.lake_model.specs.History.{Carried, Enters, Meets, after, after_call}
use Rattle.lake_model.specs.Losses.{IsLost, Memory, is_listed, of_commit}
use Rattle.lake_model.specs.Step.{Step, begin, beside, called, only, refused, reply_of, step}
use Rattle.lake_model.specs.declared.answer.Answer.TheVariants as answer
use Rattle.lake_model.specs.declared.answer.Reply.{Reply}
use Rattle.lake_model.specs.declared.call.Call.{Call}
use Rattle.lake_model.specs.declared.call.Call.TheVariants as call
use Rattle.lake_model.specs.declared.call.CallReply.{CallReply}
use Rattle.lake_model.specs.declared.call.CallReply.TheVariants as reply
use Rattle.lake_model.specs.declared.call.Loss.{Loss}
use Rattle.lake_model.specs.declared.call.Loss.TheVariants as loss
use Rattle.lake_model.specs.declared.call.Open.{Open}
use Rattle.lake_model.specs.declared.change.Change.{Change}
use Rattle.cat_view.specs.Files.{Files}
use Rattle.door.specs.Opened.{Agrees, Opened}
use Rattle.door.specs.Standing.{HasStood}
use Rattle.session.specs.Line.{Answers, IsAnswered, IsTurn, is_built}
use Rattle.session.specs.Turns.{IsTurnFor, IsTurnOver, answered, loss_answer, own_after}
use Rattle.session.proofs.EnteredLemmas.{IsKept, has_entered}

-- ---- want of memory may come at every statement

listed : (own : List Change) (x : Stmt) → is_listed own x Memory ≡ true
listed own stmt.Begin = refl
listed own (stmt.BeginAt n) = refl
listed own stmt.Commit = go (is_empty own)
  where
    go : (b : Bool) → of_commit b Memory ≡ true
    go true = refl
    go false = refl
listed own stmt.Rollback = refl
listed own (stmt.CreateSchema name) = refl
listed own (stmt.DropSchema name) = refl
listed own (stmt.CreateTable table columns) = refl
listed own (stmt.DropTable table) = refl
listed own (stmt.Change table alteration) = refl
listed own (stmt.Insert table rows) = refl
listed own (stmt.Delete table test) = refl
listed own (stmt.Update table set test) = refl
listed own (stmt.Select table items test) = refl
listed own (stmt.Compact table) = refl
listed own (stmt.Flush table) = refl
listed own (stmt.Expire n) = refl
listed own stmt.Clean = refl
listed own stmt.Snapshots = refl

pub may_want : (core : Core) (own : List Change) (session : ℕ) (x : Stmt) → IsLost core own session x (Some answer.Memory)
may_want core own session x = rw (listed own x) refl

pub wants_memory : (core : Core) (own : List Change) (session : ℕ) (x : Stmt) (r : Reply) (own' : List Change) → r ≡ only answer.Memory → own' ≡ own
    → IsTurn core own session x r own' core
wants_memory core own session x r own' is same =
    record { lost = Some answer.Memory; may = may_want core own session x; reply_is = is; own_is = same; core_is = refl }

-- ---- a statement that is answered as its step is

pub step_turn : (core : Core) (own : List Change) (session : ℕ) (x : Stmt) (s : Step) → step core own session x ≡ s → IsTurn core own session x s.reply s.own s.core
step_turn core own session x s is = record {
  lost = None;
  may = tt;
  reply_is = sym (ap (λ (t : Step). t.reply) is);
  own_is = sym (ap (λ (t : Step). t.own) is);
  core_is = sym (ap (λ (t : Step). t.core) is);
}

-- ---- a statement that is built has been answered

as_built : (x : Stmt) (core core' : Core) (own own' : List Change) (session : ℕ) (r : Reply) → is_built x ≡ true
    → IsTurn core own session x r own' core' → IsAnswered (is_built x) core own session x r own' core'
as_built x core core' own own' session r built turn = subst (λ b. IsAnswered b core own session x r own' core') (sym built) turn

-- one that calls no door
pub line_turn : (serves : ℕ → Bool) (session : ℕ) (x : Stmt) (r : Reply) (own own' : List Change) (stands : Ground → Type 0) (files : Files) (opened : Option Opened) (g : Ground)
    → is_built x ≡ true → stands g → Agrees files g.core (open_at g.core session) opened → IsTurnOver files opened own session x r own'
    → Answers serves session x r own own' stands g
line_turn serves session x r own own' stands files opened g built stood agrees turns = record {
  others = [];
  are_others = tt;
  legal = tt;
  ground = g;
  answered = as_built x g.core g.core own own' session r built (turns g.core agrees);
  stood = stood;
}

-- one that isn't built
pub line_unbuilt : (serves : ℕ → Bool) (session : ℕ) (x : Stmt) (r : Reply) (own : List Change) (stands : Ground → Type 0) (g : Ground)
    → is_built x ≡ false → stands g → r ≡ only answer.NotBuilt → Answers serves session x r own own stands g
line_unbuilt serves session x r own stands g unbuilt stood is = record {
  others = [];
  are_others = tt;
  legal = tt;
  ground = g;
  answered = subst (λ b. IsAnswered b g.core own session x r own g.core) (sym unbuilt) record { reply_is = is; own_is = refl; core_is = refl };
  stood = stood;
}

-- ---- one that is one call: its step is the call's, which leaves this own list, and its losses are the call's

pub record IsOneCall (session : ℕ) (x : Stmt) (own left : List Change) (c : Call) : Type 0 where
  pub built : is_built x ≡ true
  pub steps : (core : Core) → Meets core session c → step core own session x ≡ beside left (call_step core session c)
  pub loses : (g : Ground) (cause : Loss) → MayLose g session c cause → IsLost g.core own session x (Some (loss_answer cause))

module _ (session : ℕ) (x : Stmt) (own left : List Change) (c : Call) (is : IsOneCall session x own left c) (g : Ground) where
  kept : (r : CallReply) → Meets g.core session c → r ≡ (call_step g.core session c).reply → IsTurn g.core own session x (reply_of r) left (call_step g.core session c).core
  kept r meets e = subst (λ q. IsTurn g.core own session x (reply_of q) left (call_step g.core session c).core) (sym e)
      (step_turn g.core own session x (beside left (call_step g.core session c)) (is.steps g.core meets))

  call_turn : (r : CallReply) → (IsKept r → Meets g.core session c) → Replies g session c r
      → IsTurn g.core own session x (answered r) (own_after r left own) (after_call g session c r).core
  call_turn (reply.Lost cause) meets may =
      record { lost = Some (loss_answer cause); may = is.loses g cause may; reply_is = refl; own_is = refl; core_is = refl }
  call_turn (reply.Base n) meets e = kept (reply.Base n) (meets tt) e
  call_turn (reply.NotKept first head) meets e = kept (reply.NotKept first head) (meets tt) e
  call_turn (reply.Snapshot n) meets e = kept (reply.Snapshot n) (meets tt) e
  call_turn (reply.Clash clash) meets e = kept (reply.Clash clash) (meets tt) e
  call_turn reply.Done meets e = kept reply.Done (meets tt) e
  call_turn (reply.Pinned base) meets e = kept (reply.Pinned base) (meets tt) e
  call_turn (reply.Listed rows) meets e = kept (reply.Listed rows) (meets tt) e

pub line_call : {more : Ground → Type 0} (serves : ℕ → Bool) (session : ℕ) (x : Stmt) (own left own' : List Change) (c : Call) (carried : Carried) (r : CallReply) (said : Reply)
    (stands : Files → Ground → Type 0) (files : Files) (g : Ground) → IsOneCall session x own left c
    → Enters serves session c r carried (HasStood stands files more) g → said ≡ answered r → own' ≡ own_after r left own
    → Answers serves session x said own own' (stands files) g
line_call {more} serves session x own left own' c carried r said stands files g is enters same owned =
    let e = has_entered serves session c carried (HasStood stands files more) g r enters in
    let now = after g e.others in
    let t : IsTurn now.core own session x said own' (after_call now session c r).core =
    subst (λ s. IsTurn now.core own session x s own' (after_call now session c r).core) (sym same)
    (subst (λ o. IsTurn now.core own session x (answered r) o (after_call now session c r).core) (sym owned)
    (call_turn session x own left c is now r e.meets e.replies)) in
    record {
      others = e.others;
      are_others = e.are_others;
      legal = e.legal;
      ground = after_call now session c r;
      answered = as_built x now.core (after_call now session c r).core own own' session said is.built t;
      stood = e.stood.stands_for;
    }

-- ---- BEGIN and BEGIN AT

begins : (core : Core) (own : List Change) (session : ℕ) (c : Call) (o : Option Open) → o ≡ None → begin core own session c o ≡ called (call_step core session c)
begins core own session c o e = rw e refl

pub begin_calls : (session : ℕ) (own : List Change) → IsOneCall session stmt.Begin own [] call.Begin
begin_calls session own = record {
  built = refl;
  steps = λ core meets. begins core own session call.Begin (open_at core session) meets;
  loses = loses;
}
  where
    loses : (g : Ground) (cause : Loss) → MayLose g session call.Begin cause → IsLost g.core own session stmt.Begin (Some (loss_answer cause))
    loses g loss.Memory h = may_want g.core own session stmt.Begin
    loses g loss.Keeper h = absurd h
    loses g loss.Disk h = absurd h
    loses g (loss.Spent c) h = absurd h

pub begin_at_calls : (session n : ℕ) (own : List Change) → IsOneCall session (stmt.BeginAt n) own [] (call.BeginAt n)
begin_at_calls session n own = record {
  built = refl;
  steps = λ core meets. begins core own session (call.BeginAt n) (open_at core session) meets;
  loses = loses;
}
  where
    loses : (g : Ground) (cause : Loss) → MayLose g session (call.BeginAt n) cause → IsLost g.core own session (stmt.BeginAt n) (Some (loss_answer cause))
    loses g loss.Memory h = may_want g.core own session (stmt.BeginAt n)
    loses g loss.Keeper h = absurd h
    loses g loss.Disk h = absurd h
    loses g (loss.Spent c) h = absurd h

-- nothing is open
pub none_open : (files : Files) (core : Core) (o : Option Open) → Agrees files core o None → o ≡ None
none_open files core None h = refl
none_open files core (Some o) h = absurd h

-- something is open already
busy : (files : Files) (core : Core) (own : List Change) (session : ℕ) (c : Call) (o : Option Open) (v : Opened) → Agrees files core o (Some v)
    → begin core own session c o ≡ refused core own answer.InTransaction
busy files core own session c None v h = absurd h
busy files core own session c (Some o) v h = refl

pub begin_busy : (session : ℕ) (own : List Change) (v : Opened) → IsTurnFor (Some v) own session stmt.Begin (only answer.InTransaction) own
begin_busy session own v files core agrees = step_turn core own session stmt.Begin (refused core own answer.InTransaction) (busy files core own session call.Begin (open_at core session) v agrees)

pub begin_at_busy : (session n : ℕ) (own : List Change) (v : Opened) → IsTurnFor (Some v) own session (stmt.BeginAt n) (only answer.InTransaction) own
begin_at_busy session n own v files core agrees =
    step_turn core own session (stmt.BeginAt n) (refused core own answer.InTransaction) (busy files core own session (call.BeginAt n) (open_at core session) v agrees)
