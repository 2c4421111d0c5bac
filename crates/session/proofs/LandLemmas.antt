-- A commit that was handed to the door.
use Rattle.std.proofs.Common.{◌≡◌, ℕ, Bool, true, false, List, [], length, refl, sym, subst, subst₂, ap}
use Rattle.std.specs.Prelude.{Option, Some}
use Rattle.lake_types.specs.declared.stmt.Stmt.TheVariants as stmt
use Rattle.lake_model.specs.Calls.{Ground}
use Rattle.lake_model.specs.Core.{open_at}
use Rattle.lake_model.specs.History.{Committed, Enters, FitsOpen}
use Rattle.lake_model.specs.declared.answer.Reply.{Reply}
use Rattle.lake_model.specs.declared.call.Call.TheVariants as call
use Rattle.lake_model.specs.declared.call.CallReply.{CallReply}
use Rattle.lake_model.specs.declared.change.Change.{Change}
use Rattle.lake_model.specs.declared.change.Txn.{Txn}
use Rattle.cat_view.specs.Files.{Files}
use Rattle.cat_view.specs.StagedNames.{named_staged}
use Rattle.cat_view.specs.declared.staged.Staged.{Staged}
use Rattle.rebase.specs.Parts.{fresh_files}
use Rattle.txn_buf.specs.Keeping.{txn_of, view_of}
use Rattle.txn_buf.specs.declared.buffer.TxnBuf.{TxnBuf}
use Rattle.door.specs.Opened.{Agrees, AgreesOn, Opened, commit_refusal, opened_of}
use Rattle.door.specs.declared.no.CommitNo.{CommitNo}
use Rattle.door.specs.declared.no.CommitNo.TheVariants as no
use Rattle.door.specs.Standing.{AreStaged, HasStood, carried, kinds_at}
use Rattle.session.specs.Held.{opened_in}
use Rattle.session.specs.Line.{Answers}
use Rattle.session.specs.Staging.{MayCommit}
use Rattle.session.specs.Turns.{answered, is_disk_fault, own_after}
use Rattle.session.proofs.CommitLemmas.{commit_calls, may_commit}
use Rattle.session.proofs.LineLemmas.{line_call}

module _ {F : Type 0} (name : F → List ℕ) (size : F → ℕ) (bytes : F → Option (List ℕ)) where
  -- what the call enters, where its conditions hold
  abbrev pub MayEnter : (ℕ → Bool) → (ℕ → Option Opened) → ℕ → Txn → Staged F → CallReply → (Files → Ground → Type 0) → (Ground → Type 0) → Files → Ground → Type 0
  MayEnter serves opened session txn staged r stands more files g =
      FitsOpen g.core txn.own (open_at g.core session)
      → AreStaged files g.core txn.own (named_staged name size staged) (carried name size bytes staged) (opened session)
      → Enters serves session (call.Commit txn.own (length (fresh_files (named_staged name size staged)))) r
      (Committed (kinds_at txn.own (opened session)) (carried name size bytes staged)) (HasStood stands files more) g

  pub line_landed : {more : Ground → Type 0} (serves : ℕ → Bool) (opened : ℕ → Option Opened) (session : ℕ) (buf : TxnBuf F) (txn : Txn) (staged : Staged F) (r : CallReply) (said : Reply) (own' : List Change)
      (stands : Files → Ground → Type 0) (files : Files) (g : Ground) → txn ≡ txn_of buf → opened_in name size bytes (Some buf) ≡ opened session → serves session ≡ true
      → AgreesOn serves files g.core opened → MayCommit name size bytes files buf staged → MayEnter serves opened session txn staged r stands more files g
      → said ≡ answered r → own' ≡ own_after r [] txn.own → Answers serves session stmt.Commit said (txn_of buf).own own' (stands files) g
  line_landed {more} serves opened session buf txn staged r said own' stands files g same holds served agrees may enters is owned =
      let v = opened_of name size bytes (view_of buf) in
      let own = txn.own in
      let of_buf : (txn_of buf).own ≡ own = ap (λ (t : Txn). t.own) (sym same) in
      let open_there : Agrees files g.core (open_at g.core session) (Some v) = subst (Agrees files g.core (open_at g.core session)) (sym holds) (agrees session served) in
      let asked = may_commit files g.core (open_at g.core session) v (txn_of buf).own (named_staged name size staged) (carried name size bytes staged) open_there (may g.core) in
      let fits : FitsOpen g.core own (open_at g.core session) = subst (λ list. FitsOpen g.core list (open_at g.core session)) of_buf asked.0 in
      let there : AreStaged files g.core own (named_staged name size staged) (carried name size bytes staged) (opened session) =
      subst₂ (λ list o. AreStaged files g.core list (named_staged name size staged) (carried name size bytes staged) o) of_buf holds asked.1 in
      let count = length (fresh_files (named_staged name size staged)) in
      subst (λ list. Answers serves session stmt.Commit said list own' (stands files) g) (sym of_buf)
      (line_call {more = more} serves session stmt.Commit own [] own' (call.Commit own count) (Committed (kinds_at own (opened session)) (carried name size bytes staged)) r said stands files g
      (commit_calls session count own) (enters fits there) is owned)

pub refused_by_door : (why : CommitNo) → is_disk_fault (answered (commit_refusal why)).last ≡ false
refused_by_door (no.Clash c) = refl
refused_by_door (no.Spent c) = refl
refused_by_door no.KeeperFault = refl
refused_by_door no.Memory = refl
