use Rattle.cat_core.proofs.CallLemmas.{has_ended, put_closed}
use Rattle.cat_core.specs.Shown.{shown}
use Rattle.cat_core.proofs.calls.CatCoreDoor.rollback.Goals as goal

pub returns-clause-enters : goal.returns-clause-enters
returns-clause-enters g c =
    let before = shown g.F.Held.name g.F.Held.size g.F.Held.bytes c.args.self.now in
    let now = shown g.F.Held.name g.F.Held.size g.F.Held.bytes c.put.new.self in
    has_ended before now c.args.session c.requires.served c.requires.open (put_closed c.args.session before now c.put.ensures.opens)
