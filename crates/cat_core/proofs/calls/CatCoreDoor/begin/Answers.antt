use Rattle.std.proofs.Common.{refl, sym}
use Rattle.lake_model.specs.History.{Nothing}
use Rattle.lake_model.specs.declared.call.Call.TheVariants as call
use Rattle.door.specs.Opened.{opened_of}
use Rattle.cat_core.proofs.CallLemmas.{has_begun, wants_memory}
use Rattle.cat_core.specs.Shown.{shown}
use Rattle.cat_core.proofs.calls.CatCoreDoor.begin.Goals as goal

pub returns-in_default-clause-enters : goal.returns-in_default-clause-enters
returns-in_default-clause-enters g c =
    let now = shown g.F.Held.name g.F.Held.size g.F.Held.bytes c.args.self.now in
    wants_memory now now c.args.session call.Begin Nothing c.requires.served refl

pub returns-in-Ok-clause-enters : goal.returns-in-Ok-clause-enters
returns-in-Ok-clause-enters g c =
    has_begun (shown g.F.Held.name g.F.Held.size g.F.Held.bytes c.args.self.now) (shown g.F.Held.name g.F.Held.size g.F.Held.bytes c.open.new.self) c.args.session c.in-Some.newest
    (opened_of g.F.Held.name g.F.Held.size g.F.Held.bytes c.in-Ok.view) c.requires.served c.requires.closed (sym c.in-Some.ensures) c.in-Ok.ensures.opened

pub returns-in-Err-clause-enters : goal.returns-in-Err-clause-enters
returns-in-Err-clause-enters g c =
    wants_memory (shown g.F.Held.name g.F.Held.size g.F.Held.bytes c.args.self.now) (shown g.F.Held.name g.F.Held.size g.F.Held.bytes c.open.new.self) c.args.session call.Begin Nothing c.requires.served
    c.in-Err.ensures.same
