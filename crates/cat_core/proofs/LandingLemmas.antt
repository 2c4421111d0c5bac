-- From what the code of a commit has done to the commit's entry.
use Rattle.std.proofs.Common.{◌≡◌, ◌≢◌, ◌+◌, ◌-◌, ℕ, ℤ, true, false, List, [], ◌∷◌, length, map, Option, None, Some, slice_set, refl, sym, ap, ap₂, ◌∙◌, subst, ne_eqb, arith}
use Rattle.std.specs.Prelude.{IfSome}
use Rattle.std.specs.List.{AllByRecursion}
use Rattle.lake_types.specs.declared.kind.Clash.{Clash}
use Rattle.lake_types.specs.declared.kind.Kind.{Kind}
use Rattle.lake_types.specs.declared.limits.TheConstants.{MAX_SESSIONS}
use Rattle.lake_model.specs.Calls.{Ground, is_empty}
use Rattle.lake_model.specs.Core.{first_past, head, is_session, open_at}
use Rattle.lake_model.specs.Growth.{IsGrowth}
use Rattle.lake_model.specs.History.{Carried, CarriedFile, Enters, FitsOpen}
use Rattle.lake_model.specs.Kinds.{kinds}
use Rattle.lake_model.specs.declared.call.Call.TheVariants as call
use Rattle.lake_model.specs.declared.call.CallReply.{CallReply}
use Rattle.lake_model.specs.declared.call.CallReply.TheVariants as reply
use Rattle.lake_model.specs.declared.call.Loss.TheVariants as loss
use Rattle.lake_model.specs.declared.change.Change.{Change}
use Rattle.lake_model.specs.declared.change.Txn.{Txn}
use Rattle.cat_rows.specs.declared.batch.Batch.{Batch}
use Rattle.cat_rows.specs.declared.history.SnapshotRow.{SnapshotRow}
use Rattle.cat_view.specs.Files.{Files}
use Rattle.cat_view.specs.Staged.{NamedStagedTable}
use Rattle.rebase.specs.Parts.{FreshFile, fresh_files}
use Rattle.door.specs.Opened.{IsOpenFor, Opened, commit_refusal, open_after_refusal}
use Rattle.door.specs.Standing.{AreStaged, HasStood, IsStagedFor, kinds_at, nothing_more}
use Rattle.door.specs.declared.no.CommitNo.{CommitNo}
use Rattle.door.specs.declared.no.CommitNo.TheVariants as commit_no
use Rattle.cat_core.proofs.CommitLemmas as commit
use Rattle.cat_core.proofs.DoorLemmas.{enters-none}
use Rattle.cat_core.proofs.LandHeadLemmas.{IsWriting, number-is, past-since}
use Rattle.cat_core.proofs.LandLemmas.{stands-landed}
use Rattle.cat_core.proofs.LandSpentLemmas.{counter-passes}
use Rattle.cat_core.proofs.OpenLemmas.{opened_other, opened_same}
use Rattle.cat_core.proofs.StandLemmas.{stands-made}
use Rattle.cat_core.specs.Calls.{CanLand, HasClosed, IsAsBefore, IsUnprepared}
use Rattle.cat_core.specs.Commits.{HasLanded, first_since}
use Rattle.cat_core.specs.Shown.{Shown, opened_in}
use Rattle.cat_core.specs.Stands.{Stands}
use Rattle.cat_core.specs.declared.commit.Landing.{Landing}

-- what is open for a transaction
record IsOpened (txn : Txn) (x : Option Opened) : Type 0 where
  o : Opened
  is : x ≡ Some o
  base : txn.base ≡ o.base
  read_only : txn.read_only ≡ o.read_only

opened-for : (txn : Txn) (x : Option Opened) → IsOpenFor txn x → IsOpened txn x
opened-for txn None h = absurd h
opened-for txn (Some o) h = record { o = o; is = refl; base = h.0; read_only = h.1 }

some-list : (own : List Change) → own ≢ [] → is_empty own ≡ false
some-list [] some = absurd (some refl)
some-list (x ∷ own) some = ne_eqb (length (x ∷ own)) 0 (λ e. absurd (omega (arith, e)))

-- what a commit has entered
abbrev pub HasCommitted : Shown → Shown → ℕ → Txn → List NamedStagedTable → List CarriedFile → CallReply → Carried → Type 0
HasCommitted c new session txn staged sealed r carried =
    (files : Files) (g : Ground) → Stands c files g → FitsOpen g.core txn.own (open_at g.core session)
    → AreStaged files g.core txn.own staged sealed (opened_in c.opens session)
    → Enters is_session session (call.Commit txn.own (length (fresh_files staged))) r carried (HasStood (Stands new) files nothing_more) g

module _ (c new : Shown) (session : ℕ) (txn : Txn) (staged : List NamedStagedTable) (sealed : List CarriedFile) (carried : Carried)
    (named : is_session session ≡ true) (begun : IsOpenFor txn (opened_in c.opens session)) where
  abbrev Commits : CallReply → Type 0
  Commits r = HasCommitted c new session txn staged sealed r carried

  pub empty_commits : txn.own ≡ [] → HasClosed session c new → Commits (reply.Snapshot txn.base)
  empty_commits empty closed files g h fits stage =
      commit.enters-empty is_session session (length (fresh_files staged)) carried c new files g h named txn begun fits new.made empty closed

  pub memory_commits : IsAsBefore c new → Commits (reply.Lost loss.Memory)
  memory_commits same files g h fits stage =
      enters-none is_session session carried files g new (call.Commit txn.own (length (fresh_files staged)))
      (subst (λ (x : Shown). Stands x files g) (sym same) (stands-made c files g new.made h))

  -- ---- what the plain lake finds

  opened : IsOpened txn (opened_in c.opens session)
  opened = opened-for txn (opened_in c.opens session) begun

  module _ (files : Files) (g : Ground) (h : Stands c files g) (writes : txn.read_only ≡ false) where
    writing : IsWriting c files g session opened.o
    writing = record { stands = h; slot = opened.is; writes = sym opened.read_only ∙ writes }

    mine-is : kinds_at txn.own (opened_in c.opens session) ≡ kinds opened.o.version.schemas txn.own
    mine-is = ap (kinds_at txn.own) opened.is

    found : (found : Option Clash) → first_since c txn.base (kinds_at txn.own (opened_in c.opens session)) ≡ found → first_past g.core txn.base txn.own ≡ found
    found x e =
        ap (λ b. first_past g.core b txn.own) opened.base ∙ past-since c files g session opened.o writing txn.own
        ∙ ap₂ (λ b ks. first_since c b ks) (sym opened.base) (sym mine-is) ∙ e

    since-none : first_since c txn.base (kinds_at txn.own (opened_in c.opens session)) ≡ None → first_since c opened.o.base (kinds opened.o.version.schemas txn.own) ≡ None
    since-none e = ap₂ (λ b ks. first_since c b ks) (sym opened.base) (sym mine-is) ∙ e

    staged-for : AreStaged files g.core txn.own staged sealed (opened_in c.opens session) → IsStagedFor files g.core txn.own staged sealed opened.o
    staged-for stage = subst (AreStaged files g.core txn.own staged sealed) opened.is stage

  pub clash_commits : (clash : Clash) → txn.own ≢ [] → txn.read_only ≡ false → first_since c txn.base (kinds_at txn.own (opened_in c.opens session)) ≡ Some clash → HasClosed session c new → Commits (reply.Clash clash)
  clash_commits clash some writes pair closed files g h fits stage =
      commit.enters-clash is_session session (length (fresh_files staged)) carried c new files g h named txn begun fits clash new.made some (found files g h writes (Some clash) pair) closed

  pub unkept_commits : txn.own ≢ [] → txn.read_only ≡ false → first_since c txn.base (kinds_at txn.own (opened_in c.opens session)) ≡ None → IsAsBefore c new → Commits (reply.Lost loss.Keeper)
  unkept_commits some writes free same files g h fits stage =
      commit.enters-unkept is_session session (length (fresh_files staged)) carried c new files g h named txn begun fits some (found files g h writes None free)
      (subst (λ (x : Shown). Stands x files g) (sym same) (stands-made c files g new.made h))

  pub unprepared_commits : AllByRecursion IsGrowth txn.own → txn.own ≢ [] → (why : CommitNo) → IsUnprepared c txn (opened_in c.opens session) staged why
      → (((x : Clash) → why ≡ commit_no.Clash x → ⊥) → IsAsBefore c new) → ((x : Clash) → why ≡ commit_no.Clash x → HasClosed session c new) → Commits (commit_refusal why)
  unprepared_commits grows some (commit_no.Clash clash) no_ same closed = clash_commits clash some no_.0 no_.1 (closed clash refl)
  unprepared_commits grows some (commit_no.Spent counter) no_ same closed = λ files g h fits stage.
      let before : IsAsBefore c new = same (λ x e. cc) in
      commit.enters-spent is_session session (length (fresh_files staged)) carried c new files g h named txn begun fits some (found files g h no_.writes None no_.free) counter
      (counter-passes c files g session opened.o txn.own staged sealed (writing files g h no_.writes) grows fits (staged-for files g h no_.writes stage) (since-none files g h no_.writes no_.free) counter no_.spent)
      (subst (λ (x : Shown). Stands x files g) (sym before) (stands-made c files g new.made h))
  unprepared_commits grows some commit_no.KeeperFault no_ same closed = absurd no_
  unprepared_commits grows some commit_no.Memory no_ same closed = memory_commits (same (λ x e. cc))

  -- ---- a commit that lands

  pub landed_commits : AllByRecursion IsGrowth txn.own → txn.own ≢ []
      → map (λ (f : CarriedFile). f.name) sealed ≡ map (λ (x : FreshFile). x.file.name) (fresh_files staged)
      → (time : ℤ) (l : Landing) → CanLand c txn (opened_in c.opens session) staged time l → HasLanded l.batch l.mine (session - 1) sealed c new → Commits (reply.Snapshot l.snapshot)
  landed_commits grows some names time l can landed files g h fits stage =
      let free : first_since c txn.base (kinds_at txn.own (opened_in c.opens session)) ≡ None = subst (λ ks. first_since c txn.base ks ≡ None) can.mine can.free in
      let mine : l.mine ≡ kinds opened.o.version.schemas txn.own = can.mine ∙ mine-is files g h can.writes in
      let stands = stands-landed c new files g session opened.o txn.own staged time l.batch sealed (record {
        ready = record {
          writing = writing files g h can.writes;
          grows = grows;
          fits = fits;
          stage = staged-for files g h can.writes stage;
          free = since-none files g h can.writes free;
          next = can.next;
        };
        some = some-list txn.own some;
        named = names;
        landed = subst (λ ks. HasLanded l.batch ks (session - 1) sealed c new) mine landed;
      }) in
      let number : l.snapshot ≡ head g.core + 1 =
      subst (λ o. IfSome o (λ (r : SnapshotRow). l.snapshot ≡ r.snapshot_id + 1)) can.next.newest_is can.snapshot
      ∙ ap (λ n. n + 1) (number-is c files g h can.next.newest_row can.next.newest_is) in
      commit.enters-landed is_session session (length (fresh_files staged)) carried c new files g h named txn begun fits some (found files g h can.writes None free) l.snapshot number stands

-- ---- what is open afterwards

module _ (c new : Shown) (session : ℕ) (named : is_session session ≡ true) where
  pub closed_opened : length c.opens ≡ MAX_SESSIONS → new.opens ≡ slice_set c.opens (session - 1) None → opened_in new.opens session ≡ None
  closed_opened sixteen e = ap (λ os. opened_in os session) e ∙ opened_same c.opens session None named sixteen

  pub closed_others : new.opens ≡ slice_set c.opens (session - 1) None → (other : ℕ) → is_session other ≡ true → other ≢ session → opened_in new.opens other ≡ opened_in c.opens other
  closed_others e other served apart = ap (λ os. opened_in os other) e ∙ opened_other c.opens session other None named served apart

  module _ (why : CommitNo) (same : ((x : Clash) → why ≡ commit_no.Clash x → ⊥) → new.opens ≡ c.opens)
      (closed : (x : Clash) → why ≡ commit_no.Clash x → new.opens ≡ slice_set c.opens (session - 1) None) where
    abbrev AreAfter : CommitNo → Type 0
    AreAfter w = why ≡ w → (opened_in new.opens session ≡ open_after_refusal w (opened_in c.opens session))
        × ((other : ℕ) → is_session other ≡ true → other ≢ session → opened_in new.opens other ≡ opened_in c.opens other)

    still : ((x : Clash) → why ≡ commit_no.Clash x → ⊥)
        → (opened_in new.opens session ≡ opened_in c.opens session) × ((other : ℕ) → is_session other ≡ true → other ≢ session → opened_in new.opens other ≡ opened_in c.opens other)
    still none = (ap (λ os. opened_in os session) (same none), λ other served apart. ap (λ os. opened_in os other) (same none))

    after : length c.opens ≡ MAX_SESSIONS → (w : CommitNo) → AreAfter w
    after sixteen (commit_no.Clash clash) e = (closed_opened sixteen (closed clash e), closed_others (closed clash e))
    after sixteen (commit_no.Spent counter) e = still (λ x f. (let no_clash : commit_no.Spent counter ≡ commit_no.Clash x = sym e ∙ f in cc))
    after sixteen commit_no.KeeperFault e = still (λ x f. (let no_clash : commit_no.KeeperFault ≡ commit_no.Clash x = sym e ∙ f in cc))
    after sixteen commit_no.Memory e = still (λ x f. (let no_clash : commit_no.Memory ≡ commit_no.Clash x = sym e ∙ f in cc))

    pub refused_opened : length c.opens ≡ MAX_SESSIONS → opened_in new.opens session ≡ open_after_refusal why (opened_in c.opens session)
    refused_opened sixteen = (after sixteen why refl).0

    pub refused_others : length c.opens ≡ MAX_SESSIONS → (other : ℕ) → is_session other ≡ true → other ≢ session → opened_in new.opens other ≡ opened_in c.opens other
    refused_others sixteen = (after sixteen why refl).1

-- ---- one step after another

module _ (c mid new : Shown) (before : IsAsBefore c mid) where
  pub same_then : new ≡ mid → IsAsBefore c new
  same_then same = same ∙ before ∙ ap (λ m. record c { made = m }) (sym (ap (λ (s : Shown). s.made) same))

  pub closed_then : (session : ℕ) → HasClosed session mid new → HasClosed session c new
  closed_then session closed = closed ∙ ap (λ (s : Shown). record s { opens = slice_set s.opens (session - 1) None; made = new.made }) before

  pub landed_then : (batch : Batch) (mine : List Kind) (place : ℕ) (files : List CarriedFile) → HasLanded batch mine place files mid new → HasLanded batch mine place files c new
  landed_then batch mine place files l =
      let then = subst (λ (s : Shown). HasLanded batch mine place files s new) before l in
      record { rows = then.rows; start = then.start; kinds = then.kinds; opens = then.opens; held = then.held }
