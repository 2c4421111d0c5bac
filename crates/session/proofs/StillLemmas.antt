-- Lines of a session that call no door.
use Rattle.std.proofs.Common.{◌≡◌, ◌≢◌, ℕ, Bool, true, List, [], refl, sym, subst, rules}
use Rattle.std.specs.Prelude.{IsSome, Option, Some, None}
use Rattle.lake_types.specs.declared.stmt.Stmt.{Stmt}
use Rattle.lake_types.specs.declared.stmt.Stmt.TheVariants as stmt
use Rattle.lake_model.specs.Calls.{Ground}
use Rattle.lake_model.specs.Core.{open_at}
use Rattle.lake_model.specs.Step.{only}
use Rattle.lake_model.specs.declared.answer.Answer.TheVariants as answer
use Rattle.lake_model.specs.declared.answer.Reply.{Reply}
use Rattle.lake_model.specs.declared.change.Change.{Change}
use Rattle.cat_view.specs.Files.{Files}
use Rattle.row_files.specs.declared.fault.StageNo.{StageNo}
use Rattle.txn_buf.specs.Keeping.{txn_of, view_of}
use Rattle.txn_buf.specs.declared.buffer.TxnBuf.{TxnBuf}
use Rattle.door.specs.Opened.{Agrees, AgreesOn, Opened, opened_of}
use Rattle.session.specs.Held.{IsReady, number_of, open_of, opened_in, own_in, own_of}
use Rattle.session.specs.Line.{Answers, is_built}
use Rattle.session.specs.Turns.{IsTurnFor, IsTurnOver, stage_answer}
use Rattle.session.specs.declared.session.Session.{Session}
use Rattle.session.proofs.CommitLemmas.{commit_unopened, rollback_unopened, turn_unstaged}
use Rattle.session.proofs.LineLemmas.{begin_at_busy, begin_busy, line_turn}

module _ {F : Type 0} (name : F → List ℕ) (size : F → ℕ) (bytes : F → Option (List ℕ)) where
  -- what the session has open is what the lake says
  pub line_held : (serves : ℕ → Bool) (opened : ℕ → Option Opened) (s : Session F) (x : Stmt) (r : Reply) (own' : List Change) (files : Files) (stands : Ground → Type 0) (g : Ground)
      → is_built x ≡ true → IsReady name size bytes s (opened (number_of s)) → serves (number_of s) ≡ true → AgreesOn serves files g.core opened → stands g
      → IsTurnOver files (opened_in name size bytes (open_of s)) (own_of s) (number_of s) x r own' → Answers serves (number_of s) x r (own_of s) own' stands g
  line_held serves opened s x r own' files stands g built ready served agrees stood turns =
      line_turn serves (number_of s) x r (own_of s) own' stands files (opened_in name size bytes (open_of s)) g built stood
      (subst (Agrees files g.core (open_at g.core (number_of s))) (sym ready.holds) (agrees (number_of s) served)) turns

  pub line_still : (serves : ℕ → Bool) (opened : ℕ → Option Opened) (s : Session F) (x : Stmt) (r said : Reply) (own' : List Change) (files : Files) (stands : Ground → Type 0) (g : Ground)
      → is_built x ≡ true → IsReady name size bytes s (opened (number_of s)) → serves (number_of s) ≡ true → AgreesOn serves files g.core opened → stands g
      → IsTurnFor (opened_in name size bytes (open_of s)) (own_of s) (number_of s) x r own' → said ≡ r → Answers serves (number_of s) x said (own_of s) own' stands g
  line_still serves opened s x r said own' files stands g built ready served agrees stood turns is =
      subst (λ q. Answers serves (number_of s) x q (own_of s) own' stands g) (sym is)
      (line_held serves opened s x r own' files stands g built ready served agrees stood (turns files))

  pub begin_open : (o : Option (TxnBuf F)) (own : List Change) (session : ℕ) → IsSome o → IsTurnFor (opened_in name size bytes o) own session stmt.Begin (only answer.InTransaction) own
  begin_open None own session h = absurd (search (rules, h))
  begin_open (Some buf) own session h = begin_busy session own (opened_of name size bytes (view_of buf))

  pub begin_at_open : (o : Option (TxnBuf F)) (own : List Change) (session n : ℕ) → IsSome o → IsTurnFor (opened_in name size bytes o) own session (stmt.BeginAt n) (only answer.InTransaction) own
  begin_at_open None own session n h = absurd (search (rules, h))
  begin_at_open (Some buf) own session n h = begin_at_busy session n own (opened_of name size bytes (view_of buf))

  pub rollback_closed : (o : Option (TxnBuf F)) (own : List Change) (session : ℕ) → o ≡ None → IsTurnFor (opened_in name size bytes o) own session stmt.Rollback (only answer.NoTransaction) own
  rollback_closed None own session h = rollback_unopened own session
  rollback_closed (Some buf) own session h = absurd (search (rules, h))

  pub commit_closed : (o : Option (TxnBuf F)) (own : List Change) (session : ℕ) → o ≡ None → IsTurnFor (opened_in name size bytes o) own session stmt.Commit (only answer.NoTransaction) own
  commit_closed None own session h = commit_unopened own session
  commit_closed (Some buf) own session h = absurd (search (rules, h))

  pub commit_unstaged : (o : Option (TxnBuf F)) (buf : TxnBuf F) (session : ℕ) (why : StageNo) → o ≡ Some buf → (txn_of buf).own ≢ []
      → IsTurnFor (opened_in name size bytes o) (own_in o) session stmt.Commit (only (stage_answer why)) (txn_of buf).own
  commit_unstaged o buf session why is some =
      subst (λ q. IsTurnFor (opened_in name size bytes q) (own_in q) session stmt.Commit (only (stage_answer why)) (txn_of buf).own) (sym is)
      (turn_unstaged (opened_of name size bytes (view_of buf)) (txn_of buf).own session why (only (stage_answer why)) (txn_of buf).own some refl refl)
