-- Sixteen sessions and their door, which together stand for a lake.
use Rattle.std.specs.Prelude.{◌≡◌, ℕ, ◌+◌, ◌<◌, List, map, slice_index_or, Option, if◌then◌else◌}
use Rattle.lake_types.specs.declared.limits.TheConstants.{MAX_SESSIONS}
use Rattle.lake_types.specs.declared.stmt.Stmt.{Stmt}
use Rattle.lake_model.specs.Calls.{Ground}
use Rattle.lake_model.specs.Replay.{IsLossText, Lake, Line, MayBe, Saying, IsStmt, IsUnbuilt, said, told}
use Rattle.lake_model.specs.Texts.{head_text}
use Rattle.lake_model.specs.declared.answer.Reply.{Reply}
use Rattle.lake_model.specs.declared.change.Change.{Change}
use Rattle.door.specs.Opened.{Opened}
use Rattle.replies.specs.Texts as texts
use Rattle.session.specs.Held.{IsReady, number_of, own_of}
use Rattle.session.specs.Line.{is_built}
use Rattle.session.specs.declared.session.Session.{Session}

-- ---- sessions

-- the sessions' own lists
abbrev pub owns_of : {F : Type 0} → List (Session F) → List (List Change)
owns_of sessions = map own_of sessions

module _ {F : Type 0} (name : F → List ℕ) (size : F → ℕ) (bytes : F → Option (List ℕ)) where
  -- what the session has open is what the door has open for its number, which is that of its place
  pub record IsReadyAt (opened : ℕ → Option Opened) (place : ℕ) (s : Session F) : Type 0 where
    pub number : number_of s ≡ place + 1
    pub ready : IsReady name size bytes s (opened (place + 1))

  abbrev pub AreReady : (ℕ → Option Opened) → List (Session F) → Type 0
  AreReady opened sessions = (place : ℕ) (d : Session F) → place < MAX_SESSIONS → IsReadyAt opened place (slice_index_or sessions place d)

-- ---- the lake that they stand for

-- the door stands for its core, and the own lists are the sessions'
pub record StandsFor (stands : Ground → Type 0) (owns : List (List Change)) (lake : Lake) : Type 0 where
  pub ground : Ground
  pub core_is : ground.core ≡ lake.core
  pub owns_are : owns ≡ lake.owns
  pub stood : stands ground

-- ---- lines

-- what a statement is to the plain lake: one that isn't built yet is none
abbrev pub saying_of : Stmt → Saying
saying_of x = if is_built x then IsStmt x else IsUnbuilt

abbrev pub line_of : ℕ → ℕ → Stmt → Line
line_of session number x = record { session = session; number = number; saying = saying_of x }

-- a reply as it is printed
abbrev pub reply_text : Line → Reply → List ℕ
reply_text line reply = texts.reply_text (head_text line.session line.number) reply

-- a line has been answered, for a lake for which all stood
pub record IsSaid (line : Line) (reply : Reply) (after : Lake → Type 0) (lake : Lake) : Type 0 where
  pub lost : Option (List ℕ)
  pub is_text : IsLossText lost
  pub may : MayBe lake line lost
  pub text_is : reply_text line reply ≡ told line (said lake line lost)
  pub now : after (said lake line lost).lake
