-- From what the code of a call has done to the call's entry.
use Rattle.std.proofs.Common.{◌≡◌, ◌≤◌, ◌<◌, ◌-◌, ◌⊎◌, ℕ, true, false, None, Some, option_map, is_some, slice_set, sym, ap, ◌∙◌, subst, subst₂}
use Rattle.lake_model.specs.Calls.{Ground}
use Rattle.lake_model.specs.Core.{is_session}
use Rattle.lake_model.specs.History.{Carried, Enters, Nothing}
use Rattle.lake_model.specs.declared.call.Call.{Call}
use Rattle.lake_model.specs.declared.call.Call.TheVariants as call
use Rattle.lake_model.specs.declared.call.CallReply.{CallReply}
use Rattle.lake_model.specs.declared.call.CallReply.TheVariants as reply
use Rattle.lake_model.specs.declared.call.Loss.TheVariants as loss
use Rattle.cat_rows.specs.declared.history.SnapshotRow.{SnapshotRow}
use Rattle.cat_rules.specs.Kept.{newest, oldest}
use Rattle.cat_view.specs.Files.{Files}
use Rattle.door.specs.Opened.{Opened}
use Rattle.door.specs.Standing.{HasStood, nothing_more}
use Rattle.cat_core.proofs.DoorLemmas as door
use Rattle.cat_core.proofs.PlaceLemmas.{has_number}
use Rattle.cat_core.specs.Calls.{HasClosed, HasOpened, IsAsBefore}
use Rattle.cat_core.specs.Shown.{Shown, opened_in}
use Rattle.cat_core.specs.Stands.{Stands}

-- what the call of a session has entered
abbrev pub HasEntered : Shown → Shown → ℕ → Call → CallReply → Carried → Type 0
HasEntered c new session x r carried =
    (files : Files) (g : Ground) → Stands c files g → Enters is_session session x r carried (HasStood (Stands new) files nothing_more) g

-- ---- what is put

pub put_closed : (session : ℕ) (before now : Shown) → now ≡ record before { opens = slice_set before.opens (session - 1) None } → HasClosed session before now
put_closed session before now e = e ∙ ap (λ m. record before { opens = slice_set before.opens (session - 1) None; made = m }) (sym (ap (λ (s : Shown). s.made) e))

-- ---- want of memory

pub wants_memory : (c new : Shown) (session : ℕ) (x : Call) (carried : Carried) → is_session session ≡ true → IsAsBefore c new → HasEntered c new session x (reply.Lost loss.Memory) carried
wants_memory c new session x carried named same files g h = door.enters-memory is_session session carried c new files g h named x new.made same

-- ---- begin

pub has_begun : (c new : Shown) (session n : ℕ) (o : Opened) → is_session session ≡ true → opened_in c.opens session ≡ None
    → option_map (λ (r : SnapshotRow). r.snapshot_id) (newest c.rows.snapshot) ≡ Some n → HasOpened session n false o c new
    → HasEntered c new session call.Begin (reply.Base o.base) Nothing
has_begun c new session n o named closed at opened files g h =
    let row = has_number (newest c.rows.snapshot) n at in
    door.enters-begin is_session session Nothing c new files g h named o new.made row.row closed opened.made opened.reads row.is (opened.base ∙ sym row.number) opened.now_is

pub has_begun_at : (c new : Shown) (session first head n : ℕ) (o : Opened) → is_session session ≡ true → opened_in c.opens session ≡ None
    → option_map (λ (r : SnapshotRow). r.snapshot_id) (oldest c.rows.snapshot) ≡ Some first
    → option_map (λ (r : SnapshotRow). r.snapshot_id) (newest c.rows.snapshot) ≡ Some head
    → first ≤ n → n ≤ head → HasOpened session n true o c new → HasEntered c new session (call.BeginAt n) (reply.Base o.base) Nothing
has_begun_at c new session first head n o named closed from to low high opened files g h =
    let a = has_number (oldest c.rows.snapshot) first from in
    let b = has_number (newest c.rows.snapshot) head to in
    subst (λ base. Enters is_session session (call.BeginAt n) (reply.Base base) Nothing (HasStood (Stands new) files nothing_more) g) (sym opened.base)
    (door.enters-at is_session session Nothing c new files g h named n o new.made a.row b.row closed opened.made opened.reads opened.base a.is b.is
    (subst (λ k. k ≤ n) (sym a.number) low) (subst (λ k. n ≤ k) (sym b.number) high) opened.now_is)

pub is_not_kept : (c new : Shown) (session first head n : ℕ) → is_session session ≡ true → opened_in c.opens session ≡ None
    → option_map (λ (r : SnapshotRow). r.snapshot_id) (oldest c.rows.snapshot) ≡ Some first
    → option_map (λ (r : SnapshotRow). r.snapshot_id) (newest c.rows.snapshot) ≡ Some head
    → (n < first) ⊎ (head < n) → IsAsBefore c new → HasEntered c new session (call.BeginAt n) (reply.NotKept first head) Nothing
is_not_kept c new session first head n named closed from to out same files g h =
    let a = has_number (oldest c.rows.snapshot) first from in
    let b = has_number (newest c.rows.snapshot) head to in
    subst₂ (λ x y. Enters is_session session (call.BeginAt n) (reply.NotKept x y) Nothing (HasStood (Stands new) files nothing_more) g) a.number b.number
    (door.enters-not_kept is_session session Nothing c new files g h named n new.made a.row b.row closed a.is b.is
    (subst₂ (λ x y. (n < x) ⊎ (y < n)) (sym a.number) (sym b.number) out) same)

-- ---- rollback

pub has_ended : (c new : Shown) (session : ℕ) → is_session session ≡ true → is_some (opened_in c.opens session) ≡ true → HasClosed session c new → HasEntered c new session call.Rollback reply.Done Nothing
has_ended c new session named some closed files g h = door.enters-rollback is_session session Nothing c new files g h named new.made some closed
