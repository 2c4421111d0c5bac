use Rattle.std.proofs.Common.{subst, refl}
use Rattle.lake_types.specs.declared.stmt.Stmt.TheVariants as stmt
use Rattle.lake_model.specs.History.{Enters, Nothing}
use Rattle.lake_model.specs.declared.call.Call.TheVariants as call
use Rattle.lake_model.specs.declared.call.CallReply.TheVariants as reply
use Rattle.lake_model.specs.declared.call.Loss.TheVariants as loss
use Rattle.door.specs.Opened.{list_refusal}
use Rattle.door.specs.Standing.{HasStood, nothing_more}
use Rattle.session.specs.Held.{number_of, own_of}
use Rattle.session.proofs.CommitLemmas.{list_calls}
use Rattle.session.proofs.LineLemmas.{line_call}
use Rattle.session.proofs.ListLemmas.{line_listed}
use Rattle.session.proofs.session.Session.snapshots.Goals as goal

pub returns-in-Ok-clause-line : goal.returns-in-Ok-clause-line
returns-in-Ok-clause-line g c = λ files ground h.
    let s = c.args.self.now in
    line_listed (g.R.Door.serves c.args.door.now) (number_of s) (own_of s) Nothing c.in-Ok.rows c.told.result (g.R.Door.stands c.list.new.self) files ground
    (c.in-Ok.ensures.enters files ground (number_of s) h c.requires.served) c.told.ensures.reply

pub returns-in-Err-Spent-clause-line : goal.returns-in-Err-Spent-clause-line
returns-in-Err-Spent-clause-line g c = λ files ground h.
    let s = c.args.self.now in
    line_call (g.R.Door.serves c.args.door.now) (number_of s) stmt.Snapshots (own_of s) (own_of s) (own_of s) call.List Nothing (reply.Lost (loss.Spent c.in-Err-Spent.counter)) c.only.result (g.R.Door.stands c.list.new.self) files ground
    (list_calls (number_of s) (own_of s)) (subst (λ why. Enters (g.R.Door.serves c.args.door.now) (number_of s) call.List (list_refusal why) Nothing (HasStood (g.R.Door.stands c.list.new.self) files nothing_more) ground) c.in-Err-Spent.field-0-is (c.in-Err-Spent.ensures.enters files ground (number_of s) h c.requires.served)) c.only.ensures refl

pub returns-in-Err-Memory-clause-line : goal.returns-in-Err-Memory-clause-line
returns-in-Err-Memory-clause-line g c = λ files ground h.
    let s = c.args.self.now in
    line_call (g.R.Door.serves c.args.door.now) (number_of s) stmt.Snapshots (own_of s) (own_of s) (own_of s) call.List Nothing (reply.Lost loss.Memory) c.only-in-Err-Memory.result (g.R.Door.stands c.list.new.self) files ground
    (list_calls (number_of s) (own_of s)) (subst (λ why. Enters (g.R.Door.serves c.args.door.now) (number_of s) call.List (list_refusal why) Nothing (HasStood (g.R.Door.stands c.list.new.self) files nothing_more) ground) c.in-Err-Memory.field-0-is (c.in-Err-Memory.ensures.enters files ground (number_of s) h c.requires.served)) c.only-in-Err-Memory.ensures refl
