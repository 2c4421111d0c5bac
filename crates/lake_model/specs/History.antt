-- Legal histories: the calls of all sessions, one after the other, each with the reply that the plain lake gives.
use Rattle.std.specs.Prelude.{◌≡◌, ℕ, ◌+◌, ◌⊎◌, Bool, true, false, List, [], ◌∷◌, ◌++◌, Option, Some, None, IsSome, if◌then◌else◌}
use Rattle.std.specs.List.{AllByRecursion}
use Rattle.lake_types.specs.declared.kind.Kind.{Kind}
use Rattle.lake_model.specs.Calls.{Ground, call_step, is_empty, Replies}
use Rattle.lake_model.specs.Core.{Core, Version, is_session, open_at, version_at}
use Rattle.lake_model.specs.Fits.{Fits}
use Rattle.lake_model.specs.declared.call.Call.{Call}
use Rattle.lake_model.specs.declared.call.Call.TheVariants.{Begin, BeginAt, Commit, Rollback, Expire, Clean, List as ListCall}
use Rattle.lake_model.specs.declared.call.CallReply.{CallReply}
use Rattle.lake_model.specs.declared.call.CallReply.TheVariants as reply
use Rattle.lake_model.specs.declared.call.Entry.{Entry}
use Rattle.lake_model.specs.declared.call.Loss.TheVariants as loss
use Rattle.lake_model.specs.declared.call.Open.{Open}
use Rattle.lake_model.specs.declared.change.Change.{Change}

-- ---- entries

-- a file that a commit staged, with its bytes where these are told
pub record CarriedFile : Type 0 where
  pub name : List ℕ
  pub size : ℕ
  pub bytes : Option (List ℕ)

-- What an entry carries for proofs alone, and no definition of a legal history looks at: of a begin the version that
-- was answered, of a commit its kinds and its staged files, of a cleanup the names that it asked its disk to remove.
pub data Carried : Type 0 where
  Nothing : Carried
  Began : Version → Carried
  Committed : List Kind → List CarriedFile → Carried
  Cleaned : List (List ℕ) → Carried

pub record CarriedEntry : Type 0 where
  pub entry : Entry
  pub carried : Carried

-- ---- what a call asks for

abbrev pub FitsOpen : Core → List Change → Option Open → Type 0
FitsOpen core own None = ⊥
FitsOpen core own (Some o) = Fits (version_at core o.base).state own

abbrev pub Meets : Core → ℕ → Call → Type 0
Meets core session Begin = open_at core session ≡ None
Meets core session (BeginAt n) = open_at core session ≡ None
Meets core session (Commit own files) = FitsOpen core own (open_at core session)
Meets core session Rollback = IsSome (open_at core session)
Meets core session (Expire n) = Unit {0}
Meets core session Clean = Unit {0}
Meets core session ListCall = Unit {0}

-- ---- histories

-- the next file id after a call: a commit that makes a version adds its files
abbrev pub next_after : Ground → Call → CallReply → ℕ
next_after g (Commit own files) (reply.Snapshot n) = if is_empty own then g.next_file else g.next_file + files
next_after g call r = g.next_file

-- a lost call leaves all as it was
abbrev pub after_call : Ground → ℕ → Call → CallReply → Ground
after_call g session call (reply.Lost cause) = g
after_call g session call r = record { core = (call_step g.core session call).core; next_file = next_after g call r }

abbrev pub after_entry : Ground → CarriedEntry → Ground
after_entry g e = after_call g e.entry.session e.entry.call e.entry.reply

abbrev pub after : Ground → List CarriedEntry → Ground
after g [] = g
after g (e ∷ es) = after (after_entry g e) es

-- each entry is of a session, meets its call's condition, and has the reply that the plain lake gives there
pub record IsLegal (g : Ground) (e : CarriedEntry) : Type 0 where
  pub named : is_session e.entry.session ≡ true
  pub meets : Meets g.core e.entry.session e.entry.call
  pub replies : Replies g e.entry.session e.entry.call e.entry.reply

abbrev pub Legal : Ground → List CarriedEntry → Type 0
Legal g [] = Unit {0}
Legal g (e ∷ es) = IsLegal g e × Legal (after_entry g e) es

-- ---- what one call comes to, on a door that some sessions pass

-- the entries of sessions that a door doesn't serve
abbrev pub AreOthers : (ℕ → Bool) → List CarriedEntry → Type 0
AreOthers serves es = AllByRecursion (λ e. serves e.entry.session ≡ false) es

abbrev pub entered : ℕ → Call → CallReply → Carried → CarriedEntry
entered session call r carried = record { entry = record { session = session; call = call; reply = r }; carried = carried }

-- a call has entered one entry with its reply; one that wanted memory may have entered none
abbrev pub IsOwn : ℕ → Call → CallReply → Carried → List CarriedEntry → Type 0
IsOwn session call (reply.Lost loss.Memory) carried es =
    (es ≡ []) ⊎ (es ≡ entered session call (reply.Lost loss.Memory) carried ∷ [])
IsOwn session call r carried es = es ≡ entered session call r carried ∷ []

-- others have entered, then the call, and what holds of the lake afterwards
pub record Enters (serves : ℕ → Bool) (session : ℕ) (call : Call) (r : CallReply) (carried : Carried) (stands : Ground → Type 0) (g : Ground) : Type 0 where
  pub others : List CarriedEntry
  pub are_others : AreOthers serves others
  pub own : List CarriedEntry
  pub is_own : IsOwn session call r carried own
  pub legal : Legal g (others ++ own)
  pub stood : stands (after g (others ++ own))
