-- What one answer of a session says of the lake.
use Rattle.std.specs.Prelude.{◌≡◌, ℕ, Bool, true, false, List, Option}
use Rattle.lake_types.specs.declared.stmt.Stmt.{Stmt}
use Rattle.lake_types.specs.declared.stmt.Stmt.TheVariants as stmt
use Rattle.lake_model.specs.Calls.{Ground}
use Rattle.lake_model.specs.Core.{Core}
use Rattle.lake_model.specs.History.{AreOthers, CarriedEntry, Legal, after}
use Rattle.lake_model.specs.Losses.{IsLost, turn}
use Rattle.lake_model.specs.Step.{only}
use Rattle.lake_model.specs.declared.answer.Answer.{Answer}
use Rattle.lake_model.specs.declared.answer.Answer.TheVariants as answer
use Rattle.lake_model.specs.declared.answer.Reply.{Reply}
use Rattle.lake_model.specs.declared.change.Change.{Change}

-- the statements that this program does
abbrev pub is_built : Stmt → Bool
is_built (stmt.Change table alteration) = false
is_built (stmt.Delete table test) = false
is_built (stmt.Update table set test) = false
is_built (stmt.Compact table) = false
is_built (stmt.Flush table) = false
is_built (stmt.Expire n) = false
is_built stmt.Clean = false
is_built x = true

-- The plain lake's turn: the statement is answered as its step is, or it is lost where it may be.
pub record IsTurn (core : Core) (own : List Change) (session : ℕ) (x : Stmt) (reply : Reply) (own' : List Change) (core' : Core) : Type 0 where
  pub lost : Option Answer
  pub may : IsLost core own session x lost
  pub reply_is : reply ≡ (turn core own session x lost).reply
  pub own_is : own' ≡ (turn core own session x lost).own
  pub core_is : core' ≡ (turn core own session x lost).core

-- one that isn't built is answered so, and changes nothing
pub record IsUnbuilt (core : Core) (own : List Change) (reply : Reply) (own' : List Change) (core' : Core) : Type 0 where
  pub reply_is : reply ≡ only answer.NotBuilt
  pub own_is : own' ≡ own
  pub core_is : core' ≡ core

abbrev pub IsAnswered : Bool → Core → List Change → ℕ → Stmt → Reply → List Change → Core → Type 0
IsAnswered true core own session x reply own' core' = IsTurn core own session x reply own' core'
IsAnswered false core own session x reply own' core' = IsUnbuilt core own reply own' core'

-- A session has answered a statement, for a lake for which its door stood: others have entered before it, it is answered
-- there, and this holds of the lake afterwards.
pub record Answers (serves : ℕ → Bool) (session : ℕ) (x : Stmt) (reply : Reply) (own own' : List Change) (stands : Ground → Type 0) (g : Ground) : Type 0 where
  pub others : List CarriedEntry
  pub are_others : AreOthers serves others
  pub legal : Legal g others
  pub ground : Ground
  pub answered : IsAnswered (is_built x) (after g others).core own session x reply own' ground.core
  pub stood : stands ground
