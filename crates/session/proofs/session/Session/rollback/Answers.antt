use Rattle.std.proofs.Common.{rules, ◌≡◌, [], None, subst, refl}
use Rattle.lake_types.specs.declared.stmt.Stmt.TheVariants as stmt
use Rattle.lake_model.specs.declared.call.Call.TheVariants as call
use Rattle.lake_model.specs.declared.call.CallReply.TheVariants as reply
use Rattle.lake_model.specs.declared.call.Loss.TheVariants as loss
use Rattle.lake_model.specs.declared.answer.Answer.TheVariants as answer
use Rattle.lake_model.specs.History.{Enters, Nothing}
use Rattle.lake_model.specs.Step.{only}
use Rattle.door.specs.Opened.{spent_refusal}
use Rattle.door.specs.Standing.{HasStood, nothing_more}
use Rattle.session.specs.Held.{number_of, open_of, own_of}
use Rattle.session.proofs.CommitLemmas.{rollback_calls}
use Rattle.session.proofs.LineLemmas.{line_call}
use Rattle.session.proofs.StillLemmas.{line_still, rollback_closed}
use Rattle.session.proofs.session.Session.rollback.Goals as goal

pub returns-then-is_none-clause-line : goal.returns-then-is_none-clause-line
returns-then-is_none-clause-line g c = λ files ground h.
    let s = c.args.self.now in
    let door = c.args.door.now in
    let none : open_of s ≡ None = search rules in
    line_still g.F.Held.name g.F.Held.size g.F.Held.bytes (g.R.Door.serves door) (g.R.Door.opened door) s stmt.Rollback (only answer.NoTransaction) c.only.result (own_of s) files (g.R.Door.stands door files) ground
    refl c.requires.ready c.requires.served (g.met.R.Door.agrees door files ground h) h (rollback_closed g.F.Held.name g.F.Held.size g.F.Held.bytes (open_of s) (own_of s) (number_of s) none) c.only.ensures

pub returns-in-Ok-clause-line : goal.returns-in-Ok-clause-line
returns-in-Ok-clause-line g c = λ files ground h.
    let s = c.args.self.now in
    line_call (g.R.Door.serves c.args.door.now) (number_of s) stmt.Rollback (own_of s) [] [] call.Rollback Nothing reply.Done c.only-in-Ok.result (g.R.Door.stands c.rollback.new.self) files ground
    (rollback_calls (number_of s) (own_of s)) (c.in-Ok.ensures.enters files ground h) c.only-in-Ok.ensures refl

pub returns-in-Err-Spent-clause-line : goal.returns-in-Err-Spent-clause-line
returns-in-Err-Spent-clause-line g c = λ files ground h.
    let s = c.args.self.now in
    line_call (g.R.Door.serves c.args.door.now) (number_of s) stmt.Rollback (own_of s) [] (own_of s) call.Rollback Nothing (reply.Lost (loss.Spent c.in-Err-Spent.counter)) c.only-in-Err-Spent.result (g.R.Door.stands c.rollback.new.self) files ground
    (rollback_calls (number_of s) (own_of s)) (subst (λ why. Enters (g.R.Door.serves c.args.door.now) (number_of s) call.Rollback (spent_refusal why) Nothing (HasStood (g.R.Door.stands c.rollback.new.self) files nothing_more) ground) c.in-Err-Spent.field-0-is (c.in-Err-Spent.ensures.enters files ground h)) c.only-in-Err-Spent.ensures refl

pub returns-in-Err-Memory-clause-line : goal.returns-in-Err-Memory-clause-line
returns-in-Err-Memory-clause-line g c = λ files ground h.
    let s = c.args.self.now in
    line_call (g.R.Door.serves c.args.door.now) (number_of s) stmt.Rollback (own_of s) [] (own_of s) call.Rollback Nothing (reply.Lost loss.Memory) c.only-in-Err-Memory.result (g.R.Door.stands c.rollback.new.self) files ground
    (rollback_calls (number_of s) (own_of s)) (subst (λ why. Enters (g.R.Door.serves c.args.door.now) (number_of s) call.Rollback (spent_refusal why) Nothing (HasStood (g.R.Door.stands c.rollback.new.self) files nothing_more) ground) c.in-Err-Memory.field-0-is (c.in-Err-Memory.ensures.enters files ground h)) c.only-in-Err-Memory.ensures refl
