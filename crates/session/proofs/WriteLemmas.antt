-- Statements that add a change to the own list, and those that find nothing open.
use Rattle.std.proofs.Common.{◌≡◌, ◌≢◌, ◌⊎◌, ℕ, List, [], Bool, true, false, cond, refl, sym, ◌∙◌, ap, subst, subst₂, inl, inr, rules}
use Rattle.std.specs.Prelude.{Option, Some, None}
use Rattle.lake_types.specs.declared.stmt.Stmt.{Stmt}
use Rattle.lake_types.specs.declared.stmt.Stmt.TheVariants as stmt
use Rattle.lake_model.specs.Core.{Core, open_at, version_at}
use Rattle.lake_model.specs.Plans.{Append, Leave, Plan, Refuse}
use Rattle.lake_model.specs.State.{State}
use Rattle.lake_model.specs.Step.{followed, only, plan_of, refused, step, write}
use Rattle.lake_model.specs.declared.answer.Answer.{Answer}
use Rattle.lake_model.specs.declared.answer.Answer.TheVariants as answer
use Rattle.lake_model.specs.declared.answer.Reply.{Reply}
use Rattle.lake_model.specs.declared.call.Open.{Open}
use Rattle.lake_model.specs.declared.change.Change.{Change}
use Rattle.lake_model.specs.declared.change.Txn.{Txn}
use Rattle.cat_view.specs.Files.{Files}
use Rattle.cat_view.specs.Named.{state_of}
use Rattle.cat_view.specs.Views.{base_of, named_view, only_reads}
use Rattle.cat_view.specs.Workable.{IsWorkable}
use Rattle.txn_buf.specs.Base.{IsBase}
use Rattle.txn_buf.specs.Keeping.{Keeps, tally_of, txn_of, view_of}
use Rattle.txn_buf.specs.Turns.{Does, IsSameTxn, Leaves, Refuses, answer_of, planned}
use Rattle.txn_buf.specs.declared.buffer.TxnBuf.{TxnBuf}
use Rattle.txn_buf.specs.declared.no.TxnNo.{TxnNo}
use Rattle.txn_buf.specs.declared.no.TxnNo.TheVariants as no
use Rattle.txn_buf.specs.declared.no.TxnNo.TheVariants.{Memory}
use Rattle.txn_buf.proofs.ListLemmas.{states_are_bases}
use Rattle.door.specs.Opened.{Agrees, IsOpen, Opened, opened_of}
use Rattle.session.specs.Held.{IsGood, opened_in}
use Rattle.session.specs.Line.{IsTurn, is_built}
use Rattle.session.specs.Turns.{IsTurnFor, is_written}
use Rattle.session.proofs.LineLemmas.{none_open, step_turn, wants_memory}

-- ---- the plain lake's step of such a statement

record IsWritten (x : Stmt) : Type 0 where
  pub built : is_built x ≡ true
  pub steps : (core : Core) (own : List Change) (session : ℕ) → step core own session x ≡ write core own x (open_at core session)

written : (x : Stmt) → is_written x ≡ true → IsWritten x
written (stmt.CreateSchema name) h = record { built = refl; steps = λ core own session. refl }
written (stmt.DropSchema name) h = record { built = refl; steps = λ core own session. refl }
written (stmt.CreateTable table columns) h = record { built = refl; steps = λ core own session. refl }
written (stmt.DropTable table) h = record { built = refl; steps = λ core own session. refl }
written (stmt.Insert table rows) h = record { built = refl; steps = λ core own session. refl }
written stmt.Begin h = absurd cc
written (stmt.BeginAt n) h = absurd cc
written stmt.Commit h = absurd cc
written stmt.Rollback h = absurd cc
written (stmt.Change table alteration) h = absurd cc
written (stmt.Delete table test) h = absurd cc
written (stmt.Update table set test) h = absurd cc
written (stmt.Select table items test) h = absurd cc
written (stmt.Compact table) h = absurd cc
written (stmt.Flush table) h = absurd cc
written (stmt.Expire n) h = absurd cc
written stmt.Clean h = absurd cc
written stmt.Snapshots h = absurd cc

pub written_built : (x : Stmt) → is_written x ≡ true → is_built x ≡ true
written_built x h = (written x h).built

written_steps : (core : Core) (own : List Change) (session : ℕ) (x : Stmt) → is_written x ≡ true → step core own session x ≡ write core own x (open_at core session)
written_steps core own session x h = (written x h).steps core own session

write_planned : (core : Core) (own : List Change) (x : Stmt) (base : State) (reads : Bool)
    → cond reads (refused core own answer.ReadOnly) (followed core own (plan_of base own x)) ≡ followed core own (planned reads base own x)
write_planned core own x base true = refl
write_planned core own x base false = refl

-- a plan as it is done
pub done_plan : (core : Core) (own left : List Change) (p : Plan) (a : Answer) → Leaves p own left a → followed core own p ≡ record { core = core; own = left; reply = only a }
done_plan core own left (Refuse b) a h = absurd h
done_plan core own left (Append c b) a h = rw (h.0, h.1) refl
done_plan core own left (Leave b) a h = rw (h.0, h.1) refl

-- ---- a base state that plans what the core's own state at the base plans

pub record IsPlanned (v : Opened) (core : Core) (own : List Change) (session : ℕ) (x : Stmt) : Type 0 where
  pub base : State
  pub is : IsBase v.version base
  pub step_is : step core own session x ≡ followed core own (planned v.read_only base own x)

-- where the transaction may write, the core's state is one itself; where it may not, any one serves
has_base : (files : Files) (core : Core) (o : Open) (v : Opened) (own : List Change) (x : Stmt) → IsOpen files core o v
    → (base : State) × IsBase v.version base × (planned o.read_only (version_at core o.base).state own x ≡ planned v.read_only base own x)
has_base files core o v own x is = go o.read_only refl
  where
    go : (b : Bool) → o.read_only ≡ b
        → (base : State) × IsBase v.version base × (planned o.read_only (version_at core o.base).state own x ≡ planned v.read_only base own x)
    go true e = (state_of files 0 v.version, states_are_bases files 0 v.version, rw (is.read_only, e) refl)
    go false e =
        let next = (version_at core o.base).state.next_catalog in (
          state_of files next v.version,
          states_are_bases files next v.version,
          rw (is.read_only) (ap (λ s. planned o.read_only s own x) (sym (is.whole (is.read_only ∙ e)))),
        )

has_planned : (files : Files) (core : Core) (own : List Change) (session : ℕ) (x : Stmt) (v : Opened) → is_written x ≡ true
    → (o : Option Open) → open_at core session ≡ o → Agrees files core o (Some v) → IsPlanned v core own session x
has_planned files core own session x v w None at agrees = absurd agrees
has_planned files core own session x v w (Some o) at agrees =
    let b = has_base files core o v own x agrees in
    record {
      base = b.0;
      is = b.1;
      step_is = written_steps core own session x w ∙ ap (write core own x) at ∙ write_planned core own x (version_at core o.base).state o.read_only
          ∙ ap (followed core own) b.2;
    }

-- ---- done, and refused

is_memory : (why : TxnNo) → (why ≡ Memory) ⊎ (why ≢ Memory)
is_memory no.ReadOnly = inr (search rules)
is_memory no.Mixed = inr (search rules)
is_memory (no.NoSchema name) = inr (search rules)
is_memory (no.NoTable table) = inr (search rules)
is_memory (no.NoColumn name) = inr (search rules)
is_memory (no.NameUsed name) = inr (search rules)
is_memory (no.NotEmpty name) = inr (search rules)
is_memory (no.NotNull name) = inr (search rules)
is_memory (no.WrongType name) = inr (search rules)
is_memory (no.NoPromotion name) = inr (search rules)
is_memory no.LastColumn = inr (search rules)
is_memory (no.Arity want got) = inr (search rules)
is_memory no.ManyColumns = inr (search rules)
is_memory no.TooLarge = inr (search rules)
is_memory (no.Spent counter) = inr (search rules)
is_memory no.Memory = inl refl

module _ {F : Type 0} (name : F → List ℕ) (old new : TxnBuf F) (x : Stmt) (good : IsGood name old) where
  still_good : Keeps (named_view name (view_of new)) (txn_of new).own (tally_of new) → IsSameTxn old new
      → ((txn_of old).read_only ≡ true → (txn_of new).own ≡ []) → IsGood name new
  still_good keeps same unwritten = record {
    keeps = keeps;
    workable = subst (λ v. IsWorkable (named_view name v)) (sym same.0) good.workable;
    base = ap (λ (t : Txn). t.base) same.1 ∙ good.base ∙ ap base_of (sym same.0);
    read_only = ap (λ (t : Txn). t.read_only) same.1 ∙ good.read_only ∙ ap only_reads (sym same.0);
    unwritten = λ reads. unwritten (sym (ap (λ (t : Txn). t.read_only) same.1) ∙ reads);
  }

  -- what only reads refuses
  none_done : (a : Answer) → Does name old x new a → (txn_of old).read_only ≡ true → (txn_of new).own ≡ []
  none_done a done reads =
      let v = named_view name (view_of old) in
      absurd (subst (λ b. Leaves (planned b (state_of (λ name. None) 0 v) (txn_of old).own x) (txn_of old).own (txn_of new).own a) reads
      (done (state_of (λ name. None) 0 v) (states_are_bases (λ name. None) 0 v)))

  pub good_done : (a : Answer) → Keeps (named_view name (view_of new)) (txn_of new).own (tally_of new) → IsSameTxn old new → Does name old x new a → IsGood name new
  good_done a keeps same done = still_good keeps same (none_done a done)

  pub good_refused : Keeps (named_view name (view_of new)) (txn_of new).own (tally_of new) → IsSameTxn old new → (txn_of new).own ≡ (txn_of old).own → IsGood name new
  good_refused keeps same owned = still_good keeps same (λ reads. owned ∙ good.unwritten reads)

  pub turn_done : (size : F → ℕ) (bytes : F → Option (List ℕ)) (session : ℕ) (a : Answer) (r : Reply) → is_written x ≡ true → Does name old x new a → r ≡ only a
      → IsTurnFor (opened_in name size bytes (Some old)) (txn_of old).own session x r (txn_of new).own
  turn_done size bytes session a r w done is files core agrees =
      let own = (txn_of old).own in
      let v = opened_of name size bytes (view_of old) in
      let p = has_planned files core own session x v w (open_at core session) refl agrees in
      let leaves : Leaves (planned v.read_only p.base own x) own (txn_of new).own a =
      subst (λ b. Leaves (planned b p.base own x) own (txn_of new).own a) good.read_only (done p.base p.is) in
      subst (λ q. IsTurn core own session x q (txn_of new).own core) (sym is)
      (step_turn core own session x record { core = core; own = (txn_of new).own; reply = only a }
      (p.step_is ∙ done_plan core own (txn_of new).own (planned v.read_only p.base own x) a leaves))

  pub turn_refused : (size : F → ℕ) (bytes : F → Option (List ℕ)) (session : ℕ) (why : TxnNo) (r : Reply) → is_written x ≡ true
      → (why ≢ Memory → Refuses name old x why) → (txn_of new).own ≡ (txn_of old).own → r ≡ only (answer_of why)
      → IsTurnFor (opened_in name size bytes (Some old)) (txn_of old).own session x r (txn_of new).own
  turn_refused size bytes session why r w refuses owned is files core agrees = go (is_memory why)
    where
      own : List Change
      own = (txn_of old).own

      v : Opened
      v = opened_of name size bytes (view_of old)

      go : (why ≡ Memory) ⊎ (why ≢ Memory) → IsTurn core own session x r (txn_of new).own core
      go (inl e) = wants_memory core own session x r (txn_of new).own (is ∙ ap (λ y. only (answer_of y)) e) owned
      go (inr e) =
          let p = has_planned files core own session x v w (open_at core session) refl agrees in
          let plan : planned v.read_only p.base own x ≡ Refuse (answer_of why) =
          ap (λ b. planned b p.base own x) (sym good.read_only) ∙ refuses e p.base p.is in
          subst₂ (λ q left. IsTurn core own session x q left core) (sym is) (sym owned)
          (step_turn core own session x (refused core own (answer_of why)) (p.step_is ∙ ap (followed core own) plan))

-- ---- nothing is open

pub turn_unopened : (own : List Change) (session : ℕ) (x : Stmt) (r : Reply) → is_written x ≡ true → r ≡ only answer.NoTransaction → IsTurnFor None own session x r own
turn_unopened own session x r w is files core agrees =
    subst (λ q. IsTurn core own session x q own core) (sym is)
    (step_turn core own session x (refused core own answer.NoTransaction)
    (written_steps core own session x w ∙ ap (write core own x) (none_open files core (open_at core session) agrees)))
