use Rattle.std.proofs.Common.{rules, ◌≡◌, [], None, IsSome, refl, ap}
use Rattle.lake_types.specs.declared.stmt.Stmt.TheVariants as stmt
use Rattle.lake_model.specs.History.{Nothing}
use Rattle.lake_model.specs.Step.{only}
use Rattle.lake_model.specs.declared.answer.Answer.TheVariants as answer
use Rattle.lake_model.specs.declared.call.Call.TheVariants as call
use Rattle.door.specs.Opened.{begin_reply}
use Rattle.session.specs.Held.{number_of, open_of, own_in, own_of}
use Rattle.session.proofs.BeginLemmas.{none_begun}
use Rattle.session.proofs.LineLemmas.{line_call, begin_at_calls}
use Rattle.session.proofs.StillLemmas.{line_still, begin_at_open}
use Rattle.session.proofs.session.Session.begin_at.Goals as goal

pub returns-then-is_some-clause-line : goal.returns-then-is_some-clause-line
returns-then-is_some-clause-line g c = λ files ground h.
    let s = c.args.self.now in
    let door = c.args.door.now in
    let some : IsSome (open_of s) = search rules in
    line_still g.F.Held.name g.F.Held.size g.F.Held.bytes (g.R.Door.serves door) (g.R.Door.opened door) s (stmt.BeginAt c.args.n) (only answer.InTransaction) c.only.result (own_of s) files (g.R.Door.stands door files) ground
    refl c.requires.ready c.requires.served (g.met.R.Door.agrees door files ground h) h (begin_at_open g.F.Held.name g.F.Held.size g.F.Held.bytes (open_of s) (own_of s) (number_of s) c.args.n some) c.only.ensures

pub returns-clause-line : goal.returns-clause-line
returns-clause-line g c = λ files ground h.
    let s = c.args.self.now in
    let closed : open_of s ≡ None = search rules in
    line_call (g.R.Door.serves c.args.door.now) (number_of s) (stmt.BeginAt c.args.n) (own_of s) [] (own_of c.take_view.new.self) (call.BeginAt c.args.n) Nothing (begin_reply c.begin_at-got.result) c.take_view.result (g.R.Door.stands c.begin_at-got.new.self) files ground
    (begin_at_calls (number_of s) c.args.n (own_of s)) (c.begin_at-got.ensures.enters files ground h) c.take_view.ensures.reply
    (none_begun (begin_reply c.begin_at-got.result) (own_of s) (own_of c.take_view.new.self) (ap own_in closed) c.take_view.ensures.own)
