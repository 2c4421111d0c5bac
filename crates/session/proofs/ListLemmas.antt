-- SNAPSHOTS: the texts of its rows may want memory, when the call has entered.
use Rattle.std.proofs.Common.{◌≡◌, ◌⊎◌, ℕ, Bool, List, inl, inr, refl}
use Rattle.lake_types.specs.declared.stmt.Stmt.TheVariants as stmt
use Rattle.lake_model.specs.Calls.{Ground}
use Rattle.lake_model.specs.History.{Carried, Enters, after, after_call}
use Rattle.lake_model.specs.Step.{only, reply_of}
use Rattle.lake_model.specs.declared.answer.Answer.TheVariants as answer
use Rattle.lake_model.specs.declared.answer.Reply.{Reply}
use Rattle.lake_model.specs.declared.call.Call.TheVariants as call
use Rattle.lake_model.specs.declared.call.CallReply.TheVariants as reply
use Rattle.lake_model.specs.declared.call.SnapRow.{SnapRow}
use Rattle.lake_model.specs.declared.change.Change.{Change}
use Rattle.cat_view.specs.Files.{Files}
use Rattle.door.specs.Standing.{HasStood}
use Rattle.session.specs.Line.{Answers}
use Rattle.session.proofs.CommitLemmas.{list_calls}
use Rattle.session.proofs.EnteredLemmas.{has_entered}
use Rattle.session.proofs.LineLemmas.{line_call, wants_memory}

pub line_listed : {more : Ground → Type 0} (serves : ℕ → Bool) (session : ℕ) (own : List Change) (carried : Carried) (rows : List SnapRow) (said : Reply) (stands : Files → Ground → Type 0) (files : Files) (g : Ground)
    → Enters serves session call.List (reply.Listed rows) carried (HasStood stands files more) g → (said ≡ reply_of (reply.Listed rows)) ⊎ (said ≡ only answer.Memory)
    → Answers serves session stmt.Snapshots said own own (stands files) g
line_listed {more} serves session own carried rows said stands files g enters (inl is) =
    line_call {more = more} serves session stmt.Snapshots own own own call.List carried (reply.Listed rows) said stands files g (list_calls session own) enters is refl
line_listed {more} serves session own carried rows said stands files g enters (inr is) =
    let e = has_entered serves session call.List carried (HasStood stands files more) g (reply.Listed rows) enters in
    record {
      others = e.others;
      are_others = e.are_others;
      legal = e.legal;
      ground = after_call (after g e.others) session call.List (reply.Listed rows);
      answered = wants_memory (after g e.others).core own session stmt.Snapshots said own is refl;
      stood = e.stood.stands_for;
    }
