-- The lake without the sessions' own lists: its kept versions, and what each session has open.
use Rattle.std.specs.Prelude.{◌≡◌, ℕ, ◌+◌, ◌-◌, ◌&&◌, nat_le, Bool, List, [], ◌∷◌, ◌++◌, codes, drop, length, fold, replicate, slice_index_or, slice_set, Option, None}
use Rattle.lake_types.specs.Kinds.{changes_text, SaysWith}
use Rattle.lake_types.specs.declared.kind.Clash.{Clash}
use Rattle.lake_types.specs.declared.kind.Kind.{Kind}
use Rattle.lake_types.specs.declared.kind.SchemaName.{SchemaName}
use Rattle.lake_types.specs.declared.limits.TheConstants.{MAX_SESSIONS}
use Rattle.lake_model.specs.Apply.{apply}
use Rattle.lake_model.specs.Clashes.{first_clash, or_later}
use Rattle.lake_model.specs.Kinds.{kinds}
use Rattle.lake_model.specs.State.{State, empty_state}
use Rattle.lake_model.specs.declared.call.Open.{Open}
use Rattle.lake_model.specs.declared.change.Change.{Change}

-- A version: a state, the text of what changed since the version before, and the kinds that this text spells. The first
-- kept version has no kinds, since no list is compared with it.
pub record Version : Type 0 where
  pub state : State
  pub text : List ℕ
  pub kinds : List Kind

-- the number of the first kept version, the kept versions, and what each of the sessions has open
pub record Core : Type 0 where
  pub first : ℕ
  pub versions : List Version
  pub opens : List (Option Open)

-- ---- versions

abbrev pub first_version : Version
first_version = record { state = empty_state; text = codes "created_schema:\"main\""; kinds = [] }

abbrev pub new_core : Core
new_core = record { first = 0; versions = first_version ∷ []; opens = replicate MAX_SESSIONS None }

-- the number of the last version
abbrev pub head : Core → ℕ
head core = core.first + length core.versions - 1

abbrev pub version_at : Core → ℕ → Version
version_at core n = slice_index_or core.versions (n - core.first) first_version

abbrev pub is_kept : Core → ℕ → Bool
is_kept core n = nat_le core.first n && nat_le n (head core)

-- the version that a list makes of another
abbrev pub next_version : Version → List Change → Version
next_version v own = record {
  state = apply v.state own;
  text = changes_text (kinds v.state.schemas own);
  kinds = kinds v.state.schemas own;
}

-- a list of changes makes a new version of the last one
abbrev pub with_version : Core → List Change → Core
with_version core own = record core { versions = core.versions ++ next_version (version_at core (head core)) own ∷ [] }

-- one version for each list, in order
abbrev pub folded : Core → List (List Change) → Core
folded core lists = fold with_version core lists

-- ---- sessions

abbrev pub is_session : ℕ → Bool
is_session session = nat_le 1 session && nat_le session MAX_SESSIONS

abbrev pub open_at : Core → ℕ → Option Open
open_at core session = slice_index_or core.opens (session - 1) None

abbrev pub with_open : Core → ℕ → Option Open → Core
with_open core session o = record core { opens = slice_set core.opens (session - 1) o }

-- ---- conflicts

-- the first pair with the versions from number n on
abbrev pub first_from : List Kind → ℕ → List Version → Option Clash
first_from mine n [] = None
first_from mine n (v ∷ versions) = or_later (first_clash mine n v.kinds) (first_from mine (n + 1) versions)

-- the first pair past a base
abbrev pub first_past : Core → ℕ → List Change → Option Clash
first_past core base own =
    first_from (kinds (version_at core base).state.schemas own) (base + 1) (drop (base + 1 - core.first) core.versions)

-- ---- what holds of the versions of a lake

-- each of these versions, which stand behind one with these schemas, has the kinds that its text spells; a dropped schema
-- has its name in the version before
abbrev pub AreSpelled : List SchemaName → List Version → Type 0
AreSpelled names [] = Unit {0}
AreSpelled names (v ∷ versions) = SaysWith names v.text v.kinds × AreSpelled v.state.schemas versions

abbrev pub HaveKinds : List Version → Type 0
HaveKinds [] = Unit {0}
HaveKinds (v ∷ versions) = (v.kinds ≡ []) × AreSpelled v.state.schemas versions
