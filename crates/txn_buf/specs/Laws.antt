-- What holds of the states that a version stands for, and of what is appended to a list on one.
use Rattle.std.specs.Prelude.{◌≡◌, ℕ, List}
use Rattle.std.specs.List.{AllByRecursion}
use Rattle.lake_types.specs.declared.stmt.Stmt.{Stmt}
use Rattle.lake_model.specs.Fits.{Fits, IsColumn, IsSized}
use Rattle.lake_model.specs.Growth.{IsGrowth}
use Rattle.lake_model.specs.Plans.{Append}
use Rattle.lake_model.specs.State.{State, Table}
use Rattle.lake_model.specs.Step.{plan_of}
use Rattle.lake_model.specs.declared.answer.Answer.{Answer}
use Rattle.lake_model.specs.declared.change.Change.{Change}
use Rattle.cat_view.specs.Files.{Files}
use Rattle.cat_view.specs.Named.{NamedVersion, state_of}
use Rattle.txn_buf.specs.Base.{IsBase}
use Rattle.txn_buf.specs.Keeping.{Keeps}
use Rattle.txn_buf.specs.Sizes.{IsSizedStmt}
use Rattle.txn_buf.specs.declared.tally.Tally.{Tally}

-- the plain state that a version is over any files is one of its base states
abbrev pub StatesAreBases : Type 0
StatesAreBases = (files : Files) (next_catalog : ℕ) (v : NamedVersion) → IsBase v (state_of files next_catalog v)

-- a list that a buffer keeps creates, drops and inserts alone, and fits the plain state that its version is over any files
abbrev pub KeptListsFit : Type 0
KeptListsFit = (files : Files) (next_catalog : ℕ) (v : NamedVersion) (own : List Change) (tally : Tally)
    → Keeps v own tally → AllByRecursion IsGrowth own × Fits (state_of files next_catalog v) own

-- What a small statement appends is small, whatever the statement is: on a base whose columns are small, behind changes
-- that fit it.
abbrev pub SizedAppendsSized : Type 0
SizedAppendsSized = (base : State) (own : List Change) (x : Stmt) (c : Change) (a : Answer)
    → AllByRecursion (λ (t : Table). AllByRecursion IsColumn t.columns) base.tables → Fits base own
    → IsSizedStmt x → plan_of base own x ≡ Append c a → IsSized c
