use Rattle.std.proofs.Common.{rules, ◌≡◌, [], ap, ◌∙◌}
use Rattle.lake_model.specs.declared.answer.Reply.{Reply}
use Rattle.lake_model.specs.declared.call.CallReply.TheVariants as reply
use Rattle.door.specs.Opened.{commit_refusal}
use Rattle.session.specs.Held.{number_of, own_in, own_of}
use Rattle.session.specs.Turns.{is_disk_fault, own_after}
use Rattle.session.proofs.LandLemmas.{line_landed, refused_by_door}
use Rattle.session.proofs.session.Session.land.Goals as goal

pub returns-in-Ok-clause-line : goal.returns-in-Ok-clause-line
returns-in-Ok-clause-line g c = λ files ground h may.
    let door = c.args.door.now in
    let number = number_of c.args.self.now in
    let closed : own_of c.args.self.now ≡ [] = ap own_in c.requires.closed in
    line_landed g.F.Held.name g.F.Held.size g.F.Held.bytes (g.R.Door.serves door) (g.R.Door.opened door) number c.args.buf c.into_parts-view.result.1 c.args.staged (reply.Snapshot c.in-Ok.n) c.only.result (own_of c.args.self.now)
    (g.R.Door.stands c.commit.new.self) files ground c.into_parts-view.ensures.txn c.requires.holds c.requires.served (g.met.R.Door.agrees door files ground h) may (c.in-Ok.ensures.enters files ground h)
    c.only.ensures closed

pub returns-in-Err-clause-spares : goal.returns-in-Err-clause-spares
returns-in-Err-clause-spares g c = ap (λ (r : Reply). is_disk_fault r.last) c.after_refusal.ensures.reply ∙ refused_by_door c.in-Err.why

pub returns-in-Err-clause-line : goal.returns-in-Err-clause-line
returns-in-Err-clause-line g c = λ files ground h may.
    let door = c.args.door.now in
    let number = number_of c.args.self.now in
    let owned : own_of c.after_refusal.new.self ≡ own_after (commit_refusal c.in-Err.why) [] c.into_parts-view.result.1.own = search rules in
    line_landed g.F.Held.name g.F.Held.size g.F.Held.bytes (g.R.Door.serves door) (g.R.Door.opened door) number c.args.buf c.into_parts-view.result.1 c.args.staged (commit_refusal c.in-Err.why) c.after_refusal.result (own_of c.after_refusal.new.self)
    (g.R.Door.stands c.commit.new.self) files ground c.into_parts-view.ensures.txn c.requires.holds c.requires.served (g.met.R.Door.agrees door files ground h) may (c.in-Err.ensures.enters files ground h)
    c.after_refusal.ensures.reply owned
