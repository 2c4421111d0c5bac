-- What the parts of a call make of what a core keeps.
use Rattle.std.specs.Prelude.{◌≡◌, ◌-◌, ℕ, ℤ, Bool, false, List, slice_set, Option, Some, None}
use Rattle.lake_model.specs.declared.answer.Counter.{Counter}
use Rattle.lake_model.specs.declared.change.Txn.{Txn}
use Rattle.cat_rows.specs.Batches.{Fits}
use Rattle.cat_view.specs.Staged.{NamedStagedTable}
use Rattle.door.specs.Opened.{Opened}
use Rattle.door.specs.Standing.{kinds_at}
use Rattle.door.specs.declared.no.CommitNo.{CommitNo}
use Rattle.door.specs.declared.no.CommitNo.TheVariants as commit_no
use Rattle.cat_core.specs.Commits.{IsNext, IsPastNewest, IsSpent, first_since}
use Rattle.cat_core.specs.Shown.{IsMade, Shown}
use Rattle.cat_core.specs.declared.commit.Landing.{Landing}

-- all but the version that was made last
abbrev pub IsAsBefore : Shown → Shown → Type 0
IsAsBefore before now = now ≡ record before { made = now.made }

-- ---- a transaction that opens, or ends

-- a session has the version of a snapshot open
pub record HasOpened (session snapshot : ℕ) (read_only : Bool) (o : Opened) (before now : Shown) : Type 0 where
  pub base : o.base ≡ snapshot
  pub reads : o.read_only ≡ read_only
  pub made : IsMade before.rows before.held o
  pub now_is : now ≡ record before { opens = slice_set before.opens (session - 1) (Some o); made = now.made }

abbrev pub HasClosed : ℕ → Shown → Shown → Type 0
HasClosed session before now = now ≡ record before { opens = slice_set before.opens (session - 1) None; made = now.made }

-- ---- a commit before the keeper is asked

-- the list conflicts with nothing, and its batch fits
pub record CanLand (c : Shown) (txn : Txn) (opened : Option Opened) (staged : List NamedStagedTable) (time : ℤ) (l : Landing) : Type 0 where
  pub writes : txn.read_only ≡ false
  pub mine : l.mine ≡ kinds_at txn.own opened
  pub free : first_since c txn.base l.mine ≡ None
  pub next : IsNext c.rows c.held txn.own staged time l.batch
  pub snapshot : IsPastNewest c.rows l.snapshot
  pub fits : Fits c.rows l.batch

-- a counter is spent for a list that conflicts with nothing
pub record IsSpentFor (c : Shown) (txn : Txn) (opened : Option Opened) (staged : List NamedStagedTable) (counter : Counter) : Type 0 where
  pub writes : txn.read_only ≡ false
  pub free : first_since c txn.base (kinds_at txn.own opened) ≡ None
  pub spent : IsSpent c.rows txn.own staged counter

-- why it is refused before
abbrev pub IsUnprepared : Shown → Txn → Option Opened → List NamedStagedTable → CommitNo → Type 0
IsUnprepared c txn opened staged (commit_no.Clash clash) = (txn.read_only ≡ false) × (first_since c txn.base (kinds_at txn.own opened) ≡ Some clash)
IsUnprepared c txn opened staged (commit_no.Spent counter) = IsSpentFor c txn opened staged counter
IsUnprepared c txn opened staged commit_no.KeeperFault = ⊥
IsUnprepared c txn opened staged commit_no.Memory = Unit {0}
