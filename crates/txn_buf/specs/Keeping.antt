-- When what a buffer keeps stands for its own list of changes.
use Rattle.std.specs.Prelude.{◌≡◌, ◌≤◌, false, List, [], Option, Some, None}
use Rattle.std.specs.List.{AllByRecursion, list_any}
use Rattle.lake_types.specs.declared.limits.TheConstants.{MAX_TXN_WEIGHT}
use Rattle.lake_model.specs.Apply.{worked}
use Rattle.lake_model.specs.Fits.{Fits}
use Rattle.lake_model.specs.Growth.{IsGrowth}
use Rattle.lake_model.specs.Rows.{own_weight}
use Rattle.lake_model.specs.State.{State}
use Rattle.lake_model.specs.Step.{is_compaction}
use Rattle.lake_model.specs.declared.change.Change.{Change}
use Rattle.lake_model.specs.declared.change.Txn.{Txn}
use Rattle.cat_view.specs.Named.{NamedVersion}
use Rattle.cat_view.specs.Workable.{AreSized}
use Rattle.cat_view.specs.declared.version.View.{View}
use Rattle.txn_buf.specs.Base.{IsBase}
use Rattle.txn_buf.specs.Drafts.{bare, work_of}
use Rattle.txn_buf.specs.declared.buffer.TxnBuf.{TxnBuf}
use Rattle.txn_buf.specs.declared.seen.Seen.{Seen}
use Rattle.txn_buf.specs.declared.tally.Tally.{Tally}

-- the parts of a buffer
abbrev pub view_of : {F : Type 0} → TxnBuf F → View F
view_of buf = buf.view

abbrev pub txn_of : {F : Type 0} → TxnBuf F → Txn
txn_of buf = buf.txn

abbrev pub tally_of : {F : Type 0} → TxnBuf F → Tally
tally_of buf = buf.tally

-- nothing is kept of the schemas and tables before the first change
abbrev pub IsSeen : State → List Change → Option Seen → Type 0
IsSeen base own None = own ≡ []
IsSeen base own (Some seen) = work_of seen ≡ bare (worked base own)

-- over a base: how much the list weighs, and what the transaction sees of schemas and tables
pub record IsKept (base : State) (own : List Change) (tally : Tally) : Type 0 where
  pub weight : tally.weight ≡ own_weight base own
  pub seen : IsSeen base own tally.seen

-- The tally stands for the list, whatever the rows of its base are. The list may be staged and committed there: it
-- creates, drops and inserts alone, and each change is small, and one that a statement appends.
pub record Keeps (v : NamedVersion) (own : List Change) (tally : Tally) : Type 0 where
  pub small : tally.weight ≤ MAX_TXN_WEIGHT
  pub compacts : tally.compacts ≡ list_any is_compaction own
  pub kept : (base : State) → IsBase v base → IsKept base own tally
  pub sized : AreSized v.tables
  pub growth : AllByRecursion IsGrowth own
  pub fits : (base : State) → IsBase v base → Fits base own

-- The transaction may change what this stands for: the schemas and tables that it sees.
pub record IsReady (v : NamedVersion) (txn : Txn) (seen : Seen) : Type 0 where
  pub writes : txn.read_only ≡ false
  pub unmixed : list_any is_compaction txn.own ≡ false
  pub seen_is : (base : State) → IsBase v base → work_of seen ≡ bare (worked base txn.own)
