-- The entry of a commit, with its reply.
use Rattle.std.proofs.Common.{◌≡◌, ◌≢◌, ◌+◌, ◌-◌, ℕ, Bool, true, false, List, [], ◌∷◌, length, Option, None, Some, option_map, slice_set, refl, sym, ap, ◌∙◌, subst, ne_eqb, arith}
use Rattle.lake_types.specs.declared.kind.Clash.{Clash}
use Rattle.lake_model.specs.Calls.{CallStep, Ground, IsLate, Passes, commit, is_empty, is_free, replied}
use Rattle.lake_model.specs.Core.{Core, first_past, head, is_session, open_at, with_open, with_version}
use Rattle.lake_model.specs.History.{Carried, FitsOpen, after_call, next_after}
use Rattle.lake_model.specs.declared.answer.Counter.{Counter}
use Rattle.lake_model.specs.declared.call.Call.TheVariants as call
use Rattle.lake_model.specs.declared.call.CallReply.{CallReply}
use Rattle.lake_model.specs.declared.call.CallReply.TheVariants as reply
use Rattle.lake_model.specs.declared.call.Loss.TheVariants as loss
use Rattle.lake_model.specs.declared.call.Open.{Open}
use Rattle.lake_model.specs.declared.change.Change.{Change}
use Rattle.lake_model.specs.declared.change.Txn.{Txn}
use Rattle.cat_view.specs.Files.{Files}
use Rattle.door.specs.Opened.{IsOpenFor, Opened, commit_refusal}
use Rattle.door.specs.declared.no.CommitNo.{CommitNo}
use Rattle.door.specs.declared.no.CommitNo.TheVariants as commit_no
use Rattle.cat_core.proofs.DoorLemmas.{EntersWith, enters-lost, enters-none, enters-one, ground-at}
use Rattle.cat_core.proofs.StandLemmas.{stands-open}
use Rattle.cat_core.specs.Laws.{open-at}
use Rattle.cat_core.specs.Shown.{Shown, opened_in}
use Rattle.cat_core.specs.Stands.{Stands, open_of}

-- ---- what the core has open for a transaction

pub record HasOpen (txn : Txn) (x : Option Open) : Type 0 where
  pub o : Open
  pub is : x ≡ Some o
  pub base : txn.base ≡ o.base
  pub read_only : txn.read_only ≡ o.read_only

open-for : (txn : Txn) (o : Option Opened) → IsOpenFor txn o → HasOpen txn (option_map open_of o)
open-for txn None h = absurd h
open-for txn (Some o) h = record { o = open_of o; is = refl; base = h.0; read_only = h.1 }

pub has-open : (c : Shown) (files : Files) (g : Ground) (session : ℕ) (txn : Txn) → Stands c files g → IsOpenFor txn (opened_in c.opens session) → HasOpen txn (open_at g.core session)
has-open c files g session txn h begun = subst (HasOpen txn) (sym (open-at c files g session h)) (open-for txn (opened_in c.opens session) begun)

-- ---- what the plain lake does

not-empty : (own : List Change) → own ≢ [] → is_empty own ≡ false
not-empty [] some = absurd (some refl)
not-empty (x ∷ own) some = ne_eqb (length (x ∷ own)) 0 (λ e. absurd (omega (arith, e)))

step-empty : (core : Core) (s : ℕ) (own : List Change) (x : Option Open) (o : Open) → x ≡ Some o → own ≡ [] → commit core s own x ≡ replied (with_open core s None) (reply.Snapshot o.base)
step-empty core s own x o p q = rw (p, q) refl

step-clash : (core : Core) (s : ℕ) (own : List Change) (x : Option Open) (o : Open) (clash : Clash) → x ≡ Some o → is_empty own ≡ false → first_past core o.base own ≡ Some clash
    → commit core s own x ≡ replied (with_open core s None) (reply.Clash clash)
step-clash core s own x o clash p q r = rw (p, q, r) refl

step-landed : (core : Core) (s : ℕ) (own : List Change) (x : Option Open) (o : Open) → x ≡ Some o → is_empty own ≡ false → first_past core o.base own ≡ None
    → commit core s own x ≡ replied (with_open (with_version core own) s None) (reply.Snapshot (head core + 1))
step-landed core s own x o p q r = rw (p, q, r) refl

next-empty : (g : Ground) (count : ℕ) (own : List Change) (n : ℕ) → own ≡ [] → next_after g (call.Commit own count) (reply.Snapshot n) ≡ g.next_file
next-empty g count own n e = rw e refl

free-past : (core : Core) (own : List Change) (x : Option Open) (o : Open) → x ≡ Some o → first_past core o.base own ≡ None → is_free core own x ≡ true
free-past core own x o p q = rw (p, q) refl

-- ---- the entries

module _ (serves : ℕ → Bool) (session count : ℕ) (carried : Carried) (c new : Shown) (files : Files) (g : Ground) (h : Stands c files g) (named : is_session session ≡ true) (txn : Txn)
    (begun : IsOpenFor txn (opened_in c.opens session)) (fits : FitsOpen g.core txn.own (open_at g.core session)) where
  abbrev pub CommitsWith : CallReply → Type 0
  CommitsWith r = EntersWith serves session carried files g new (call.Commit txn.own count) r

  opened : HasOpen txn (open_at g.core session)
  opened = has-open c files g session txn h begun

  -- its slot is empty
  abbrev pub Ends : Option Opened → Type 0
  Ends made = new ≡ record c { opens = slice_set c.opens (session - 1) None; made = made }

  stands-ended : (made : Option Opened) → Ends made → Stands new files (record g { core = with_open g.core session None })
  stands-ended made e = subst (λ (x : Shown). Stands x files (record g { core = with_open g.core session None })) (sym e) (stands-open c files g session None made h tt)

  pub enters-empty : (made : Option Opened) → txn.own ≡ [] → Ends made → CommitsWith (reply.Snapshot txn.base)
  enters-empty made empty e =
      let step = step-empty g.core session txn.own (open_at g.core session) opened.o opened.is empty in
      enters-one serves session carried files g new (call.Commit txn.own count) (reply.Snapshot txn.base) named fits
      (ap reply.Snapshot opened.base ∙ sym (ap (λ (s : CallStep). s.reply) step))
      (ground-at (Stands new files) (sym (ap (λ (s : CallStep). s.core) step)) (sym (next-empty g count txn.own txn.base empty)) (stands-ended made e))

  pub enters-clash : (clash : Clash) (made : Option Opened) → txn.own ≢ [] → first_past g.core txn.base txn.own ≡ Some clash → Ends made → CommitsWith (reply.Clash clash)
  enters-clash clash made some past e =
      let at : first_past g.core opened.o.base txn.own ≡ Some clash = subst (λ b. first_past g.core b txn.own ≡ Some clash) opened.base past in
      let step = step-clash g.core session txn.own (open_at g.core session) opened.o clash opened.is (not-empty txn.own some) at in
      enters-one serves session carried files g new (call.Commit txn.own count) (reply.Clash clash) named fits
      (sym (ap (λ (s : CallStep). s.reply) step))
      (ground-at (Stands new files) (sym (ap (λ (s : CallStep). s.core) step)) refl (stands-ended made e))

  -- ---- past the last refusal of the lake

  module _ (some : txn.own ≢ []) (free : first_past g.core txn.base txn.own ≡ None) where
    free-at : first_past g.core opened.o.base txn.own ≡ None
    free-at = subst (λ b. first_past g.core b txn.own ≡ None) opened.base free

    pub is-late : IsLate g.core session txn.own
    is-late = record { some = not-empty txn.own some; free = free-past g.core txn.own (open_at g.core session) opened.o opened.is free-at }

    pub enters-unkept : Stands new files g → CommitsWith (reply.Lost loss.Keeper)
    enters-unkept stands = enters-lost serves session carried files g new (call.Commit txn.own count) loss.Keeper named fits is-late stands

    pub enters-spent : (counter : Counter) → Passes counter g txn.own count → Stands new files g → CommitsWith (reply.Lost (loss.Spent counter))
    enters-spent counter past stands = enters-lost serves session carried files g new (call.Commit txn.own count) (loss.Spent counter) named fits (is-late, past) stands

    -- any refusal past the comparison, where a spent counter is one that the list would pass
    abbrev pub IsLost : CommitNo → Type 0
    IsLost (commit_no.Clash clash) = ⊥
    IsLost (commit_no.Spent counter) = Passes counter g txn.own count
    IsLost commit_no.KeeperFault = Unit {0}
    IsLost commit_no.Memory = Unit {0}

    pub enters-refused : (why : CommitNo) → IsLost why → Stands new files g → CommitsWith (commit_refusal why)
    enters-refused (commit_no.Clash clash) lost stands = absurd lost
    enters-refused (commit_no.Spent counter) lost stands = enters-spent counter lost stands
    enters-refused commit_no.KeeperFault lost stands = enters-unkept stands
    enters-refused commit_no.Memory lost stands = enters-none serves session carried files g new (call.Commit txn.own count) stands

    pub enters-landed : (n : ℕ) → n ≡ head g.core + 1 → Stands new files (after_call g session (call.Commit txn.own count) (reply.Snapshot (head g.core + 1))) → CommitsWith (reply.Snapshot n)
    enters-landed n next stands =
        let step = step-landed g.core session txn.own (open_at g.core session) opened.o opened.is (not-empty txn.own some) free-at in
        enters-one serves session carried files g new (call.Commit txn.own count) (reply.Snapshot n) named fits
        (ap reply.Snapshot next ∙ sym (ap (λ (s : CallStep). s.reply) step)) stands
