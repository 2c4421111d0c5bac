-- What is staged for a transaction's commit.
use Rattle.std.specs.Prelude.{ℕ, List, Option}
use Rattle.lake_model.specs.Core.{Core}
use Rattle.lake_model.specs.declared.call.Open.{Open}
use Rattle.cat_view.specs.Files.{Files}
use Rattle.cat_view.specs.StagedNames.{named_staged}
use Rattle.cat_view.specs.declared.staged.Staged.{Staged}
use Rattle.txn_buf.specs.Keeping.{txn_of, view_of}
use Rattle.txn_buf.specs.declared.buffer.TxnBuf.{TxnBuf}
use Rattle.door.specs.Opened.{IsOpen, opened_of}
use Rattle.door.specs.Standing.{IsStagedFor, carried}

-- It is what a commit has to hand to its door, on every lake that has the transaction's version open over these files.
abbrev pub MayCommit : {F : Type 0} → (F → List ℕ) → (F → ℕ) → (F → Option (List ℕ)) → Files → TxnBuf F → Staged F → Type 0
MayCommit name size bytes files buf staged =
    (core : Core) (o : Open) → IsOpen files core o (opened_of name size bytes (view_of buf))
    → IsStagedFor files core (txn_of buf).own (named_staged name size staged) (carried name size bytes staged) (opened_of name size bytes (view_of buf))
