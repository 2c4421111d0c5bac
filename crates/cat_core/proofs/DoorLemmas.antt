-- A core as a door: each call's entry, with its reply.
use Rattle.std.proofs.Common.{◌≡◌, ◌≤◌, ◌<◌, ◌-◌, ◌⊎◌, inl, inr, ℕ, Bool, true, false, is_some, IsSome, List, [], ◌∷◌, Option, None, Some, option_map, slice_set, refl, sym, ap, ◌∙◌, subst, subst₂}
use Rattle.lake_model.specs.Calls.{CallStep, Ground, MayLose, Replies, call_step, replied, rows_from}
use Rattle.lake_model.specs.Core.{Core, head, is_kept, is_session, open_at, with_open}
use Rattle.lake_model.specs.History.{Carried, Enters, IsOwn, Meets, after_call, entered}
use Rattle.lake_model.specs.declared.call.Call.{Call}
use Rattle.lake_model.specs.declared.call.Call.TheVariants as call
use Rattle.lake_model.specs.declared.call.CallReply.{CallReply}
use Rattle.lake_model.specs.declared.call.CallReply.TheVariants as reply
use Rattle.lake_model.specs.declared.call.Loss.{Loss}
use Rattle.lake_model.specs.declared.call.Loss.TheVariants as loss
use Rattle.lake_model.specs.declared.call.SnapRow.{SnapRow}
use Rattle.cat_rows.specs.declared.history.SnapshotRow.{SnapshotRow}
use Rattle.cat_rules.specs.Kept.{newest, oldest}
use Rattle.cat_view.specs.Files.{Files}
use Rattle.cat_stands.proofs.KeptLemmas.{head-number, kept-from, not-kept, oldest-number}
use Rattle.door.specs.Opened.{Opened}
use Rattle.door.specs.Standing.{HasStood, nothing_more}
use Rattle.cat_core.proofs.StandLemmas.{newest-open, older-open, stands-made, stands-open}
use Rattle.cat_core.specs.Laws.{open-at}
use Rattle.cat_core.specs.Shown.{IsMade, Shown, opened_in}
use Rattle.cat_core.specs.Stands.{Stands, open_of}

-- ---- nobody else has entered

own-one : (session : ℕ) (x : Call) (r : CallReply) (carried : Carried) → IsOwn session x r carried (entered session x r carried ∷ [])
own-one session x (reply.Lost loss.Memory) carried = inr refl
own-one session x (reply.Lost cause) carried = refl
own-one session x r carried = refl

module _ (serves : ℕ → Bool) (session : ℕ) (carried : Carried) (files : Files) (g : Ground) (new : Shown) where
  -- the call ends with this reply, and the core stands for what the plain lake is then
  abbrev pub EntersWith : Call → CallReply → Type 0
  EntersWith x r = Enters serves session x r carried (HasStood (Stands new) files nothing_more) g

  pub enters-one : (x : Call) (r : CallReply) → is_session session ≡ true → Meets g.core session x → Replies g session x r → Stands new files (after_call g session x r) → EntersWith x r
  enters-one x r named meets replies stands = record {
    others = [];
    are_others = tt;
    own = entered session x r carried ∷ [];
    is_own = own-one session x r carried;
    legal = (record { named = named; meets = meets; replies = replies }, tt);
    stood = record { stands_for = stands; more_is = tt };
  }

  -- a call that wanted memory has entered nothing
  pub enters-none : (x : Call) → Stands new files g → EntersWith x (reply.Lost loss.Memory)
  enters-none x stands = record {
    others = [];
    are_others = tt;
    own = [];
    is_own = inl refl;
    legal = tt;
    stood = record { stands_for = stands; more_is = tt };
  }

  -- one that was lost has changed nothing
  pub enters-lost : (x : Call) (cause : Loss) → is_session session ≡ true → Meets g.core session x → MayLose g session x cause → Stands new files g → EntersWith x (reply.Lost cause)
  enters-lost x cause named meets may stands = enters-one x (reply.Lost cause) named meets may stands

  -- the snapshots are told as the plain lake has them
  pub enters-list : (rows : List SnapRow) → is_session session ≡ true → rows ≡ rows_from g.core.first g.core.versions → Stands new files g → EntersWith call.List (reply.Listed rows)
  enters-list rows named are stands = enters-one call.List (reply.Listed rows) named tt (ap reply.Listed are) stands

-- ---- what is open

closed-at : (c : Shown) (files : Files) (g : Ground) (session : ℕ) → Stands c files g → opened_in c.opens session ≡ None → open_at g.core session ≡ None
closed-at c files g session h closed = open-at c files g session h ∙ ap (option_map open_of) closed

some-open : (o : Option Opened) → is_some o ≡ true → is_some (option_map open_of o) ≡ true
some-open None h = h
some-open (Some o) h = refl

some-at : (c : Shown) (files : Files) (g : Ground) (session : ℕ) → Stands c files g → is_some (opened_in c.opens session) ≡ true → IsSome (open_at g.core session)
some-at c files g session h some = subst IsSome (sym (open-at c files g session h)) (some-open (opened_in c.opens session) some)

pub ground-at : (P : Ground → Type 0) {core core' : Core} {n n' : ℕ} → core ≡ core' → n ≡ n' → P (record { core = core; next_file = n }) → P (record { core = core'; next_file = n' })
ground-at P e f h = subst₂ (λ core n. P (record { core = core; next_file = n })) e f h

-- ---- begin

open-as : (o : Opened) (base : ℕ) (read_only : Bool) → o.base ≡ base → o.read_only ≡ read_only → open_of o ≡ record { base = base; read_only = read_only }
open-as o base read_only e f = λ i. record { base = e i; read_only = f i }

module _ (serves : ℕ → Bool) (session : ℕ) (carried : Carried) (c new : Shown) (files : Files) (g : Ground) (h : Stands c files g) (named : is_session session ≡ true) where
  -- the version that was made last may be another
  stands-still : (made : Option Opened) → new ≡ record c { made = made } → Stands new files g
  stands-still made e = subst (λ (x : Shown). Stands x files g) (sym e) (stands-made c files g made h)

  pub enters-memory : (x : Call) (made : Option Opened) → new ≡ record c { made = made } → EntersWith serves session carried files g new x (reply.Lost loss.Memory)
  enters-memory x made e = enters-none serves session carried files g new x (stands-still made e)

  stands-opened : (o : Opened) (base : ℕ) (read_only : Bool) → o.base ≡ base → o.read_only ≡ read_only → Stands new files (record g { core = with_open g.core session (Some (open_of o)) })
      → Stands new files (record g { core = with_open g.core session (Some (record { base = base; read_only = read_only })) })
  stands-opened o base read_only e f s = subst (λ x. Stands new files (record g { core = with_open g.core session (Some x) })) (open-as o base read_only e f) s

  pub enters-begin : (o : Opened) (made : Option Opened) (row : SnapshotRow) → opened_in c.opens session ≡ None → IsMade c.rows c.held o → o.read_only ≡ false
      → newest c.rows.snapshot ≡ Some row → o.base ≡ row.snapshot_id → new ≡ record c { opens = slice_set c.opens (session - 1) (Some o); made = made }
      → EntersWith serves session carried files g new call.Begin (reply.Base o.base)
  enters-begin o made row closed is_made writes is base e =
      let at : o.base ≡ head g.core = base ∙ head-number c.rows files g.core h.sound row is in
      let stands = stands-open c files g session (Some o) made h (newest-open c files g h o is_made row is base) in
      enters-one serves session carried files g new call.Begin (reply.Base o.base) named (closed-at c files g session h closed) (ap reply.Base at)
      (stands-opened o (head g.core) false at writes (subst (λ (x : Shown). Stands x files (record g { core = with_open g.core session (Some (open_of o)) })) (sym e) stands))

  -- ---- begin at a number

  kept-is : (n : ℕ) (oldest_row newest_row : SnapshotRow) → oldest c.rows.snapshot ≡ Some oldest_row → newest c.rows.snapshot ≡ Some newest_row
      → oldest_row.snapshot_id ≤ n → n ≤ newest_row.snapshot_id → is_kept g.core n ≡ true
  kept-is n oldest_row newest_row oldest_is newest_is low high =
      kept-from g.core n (subst (λ k. k ≤ n) (oldest-number c.rows files g.core h.sound oldest_row oldest_is) low)
      (subst (λ k. n ≤ k) (head-number c.rows files g.core h.sound newest_row newest_is) high)

  step-at : (n : ℕ) → is_kept g.core n ≡ true → call_step g.core session (call.BeginAt n) ≡ replied (with_open g.core session (Some (record { base = n; read_only = true }))) (reply.Base n)
  step-at n kept = rw kept refl

  step-not_kept : (n : ℕ) → is_kept g.core n ≡ false → call_step g.core session (call.BeginAt n) ≡ replied g.core (reply.NotKept g.core.first (head g.core))
  step-not_kept n gone = rw gone refl

  pub enters-at : (n : ℕ) (o : Opened) (made : Option Opened) (oldest_row newest_row : SnapshotRow) → opened_in c.opens session ≡ None → IsMade c.rows c.held o → o.read_only ≡ true → o.base ≡ n
      → oldest c.rows.snapshot ≡ Some oldest_row → newest c.rows.snapshot ≡ Some newest_row → oldest_row.snapshot_id ≤ n → n ≤ newest_row.snapshot_id
      → new ≡ record c { opens = slice_set c.opens (session - 1) (Some o); made = made } → EntersWith serves session carried files g new (call.BeginAt n) (reply.Base n)
  enters-at n o made oldest_row newest_row closed is_made reads at oldest_is newest_is low high e =
      let kept : is_kept g.core n ≡ true = kept-is n oldest_row newest_row oldest_is newest_is low high in
      let stands = stands-open c files g session (Some o) made h (older-open c files g h o is_made reads (subst (λ k. is_kept g.core k ≡ true) (sym at) kept)) in
      let opened = stands-opened o n true at reads (subst (λ (x : Shown). Stands x files (record g { core = with_open g.core session (Some (open_of o)) })) (sym e) stands) in
      enters-one serves session carried files g new (call.BeginAt n) (reply.Base n) named (closed-at c files g session h closed) (sym (ap (λ (s : CallStep). s.reply) (step-at n kept)))
      (ground-at (Stands new files) (sym (ap (λ (s : CallStep). s.core) (step-at n kept))) refl opened)

  pub enters-not_kept : (n : ℕ) (made : Option Opened) (oldest_row newest_row : SnapshotRow) → opened_in c.opens session ≡ None
      → oldest c.rows.snapshot ≡ Some oldest_row → newest c.rows.snapshot ≡ Some newest_row → (n < oldest_row.snapshot_id) ⊎ (newest_row.snapshot_id < n)
      → new ≡ record c { made = made } → EntersWith serves session carried files g new (call.BeginAt n) (reply.NotKept oldest_row.snapshot_id newest_row.snapshot_id)
  enters-not_kept n made oldest_row newest_row closed oldest_is newest_is out e =
      let first = oldest-number c.rows files g.core h.sound oldest_row oldest_is in
      let last = head-number c.rows files g.core h.sound newest_row newest_is in
      let gone : is_kept g.core n ≡ false = not-kept g.core n (subst₂ (λ a b. (n < a) ⊎ (b < n)) first last out) in
      let stands = stands-still made e in
      enters-one serves session carried files g new (call.BeginAt n) (reply.NotKept oldest_row.snapshot_id newest_row.snapshot_id) named (closed-at c files g session h closed)
      (subst₂ (λ a b. reply.NotKept a b ≡ reply.NotKept g.core.first (head g.core)) (sym first) (sym last) refl ∙ sym (ap (λ (s : CallStep). s.reply) (step-not_kept n gone)))
      (ground-at (Stands new files) (sym (ap (λ (s : CallStep). s.core) (step-not_kept n gone))) refl stands)

  -- ---- rollback

  pub enters-rollback : (made : Option Opened) → is_some (opened_in c.opens session) ≡ true → new ≡ record c { opens = slice_set c.opens (session - 1) None; made = made }
      → EntersWith serves session carried files g new call.Rollback reply.Done
  enters-rollback made some e =
      enters-one serves session carried files g new call.Rollback reply.Done named (some-at c files g session h some) refl
      (subst (λ (x : Shown). Stands x files (record g { core = with_open g.core session None })) (sym e) (stands-open c files g session None made h tt))
