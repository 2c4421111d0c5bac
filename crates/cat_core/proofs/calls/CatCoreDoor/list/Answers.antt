use Rattle.std.proofs.Common.{◌∙◌}
use Rattle.lake_model.specs.Core.{is_session}
use Rattle.lake_model.specs.History.{Nothing}
use Rattle.lake_model.specs.declared.call.Call.TheVariants as call
use Rattle.cat_core.proofs.DoorLemmas.{enters-list, enters-none}
use Rattle.cat_core.proofs.ListLemmas.{listed-is}
use Rattle.cat_core.specs.Shown.{shown}
use Rattle.cat_core.proofs.calls.CatCoreDoor.list.Goals as goal

pub returns-in-Ok-clause-enters : goal.returns-in-Ok-clause-enters
returns-in-Ok-clause-enters g c = λ files ground session h served.
    let now = shown g.F.Held.name g.F.Held.size g.F.Held.bytes c.args.self.now in
    enters-list is_session session Nothing files ground now c.in-Ok.rows served (c.in-Ok.ensures ∙ listed-is now files ground h) h

pub returns-in-Err-clause-enters : goal.returns-in-Err-clause-enters
returns-in-Err-clause-enters g c = λ files ground session h served.
    enters-none is_session session Nothing files ground (shown g.F.Held.name g.F.Held.size g.F.Held.bytes c.args.self.now) call.List h
