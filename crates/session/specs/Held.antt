-- What a session has open.
use Rattle.std.specs.Prelude.{◌≡◌, ℕ, true, List, [], Option, Some, None}
use Rattle.lake_model.specs.declared.change.Change.{Change}
use Rattle.lake_model.specs.declared.change.Txn.{Txn}
use Rattle.cat_view.specs.Views.{base_of, named_view, only_reads}
use Rattle.cat_view.specs.Workable.{IsWorkable}
use Rattle.cat_view.specs.declared.version.View.{View}
use Rattle.txn_buf.specs.Keeping.{Keeps, tally_of, txn_of, view_of}
use Rattle.txn_buf.specs.declared.buffer.TxnBuf.{TxnBuf}
use Rattle.txn_buf.specs.declared.tally.Tally.{Tally}
use Rattle.door.specs.Opened.{Opened, opened_of}
use Rattle.session.specs.declared.session.Session.{Session}

abbrev pub number_of : {F : Type 0} → Session F → ℕ
number_of s = s.number

abbrev pub open_of : {F : Type 0} → Session F → Option (TxnBuf F)
open_of s = s.open_txn

-- the own list of what is open, and no change where nothing is
abbrev pub own_in : {F : Type 0} → Option (TxnBuf F) → List Change
own_in None = []
own_in (Some buf) = (txn_of buf).own

abbrev pub own_of : {F : Type 0} → Session F → List Change
own_of s = own_in (open_of s)

-- The view is one that a door gave, the transaction began with it, and its list is one that may be committed. One that only
-- reads has no changes.
pub record AreGood {F : Type 0} (name : F → List ℕ) (view : View F) (txn : Txn) (tally : Tally) : Type 0 where
  pub keeps : Keeps (named_view name view) txn.own tally
  pub workable : IsWorkable (named_view name view)
  pub base : txn.base ≡ base_of view
  pub read_only : txn.read_only ≡ only_reads view
  pub unwritten : txn.read_only ≡ true → txn.own ≡ []

abbrev pub IsGood : {F : Type 0} → (F → List ℕ) → TxnBuf F → Type 0
IsGood name buf = AreGood name (view_of buf) (txn_of buf) (tally_of buf)

abbrev pub IsGoodIn : {F : Type 0} → (F → List ℕ) → Option (TxnBuf F) → Type 0
IsGoodIn name None = Unit {0}
IsGoodIn name (Some buf) = IsGood name buf

module _ {F : Type 0} (name : F → List ℕ) (size : F → ℕ) (bytes : F → Option (List ℕ)) where
  -- what is open, as a door tells it
  abbrev pub opened_in : Option (TxnBuf F) → Option Opened
  opened_in None = None
  opened_in (Some buf) = Some (opened_of name size bytes (view_of buf))

  -- what the session has open is what its door has open for it
  pub record IsReady (s : Session F) (o : Option Opened) : Type 0 where
    pub holds : opened_in (open_of s) ≡ o
    pub good : IsGoodIn name (open_of s)
