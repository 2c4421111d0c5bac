use Rattle.std.proofs.Common.{sym, ◌∙◌}
use Rattle.lake_model.proofs.PlaceLemmas.{goes_on_behind}
use Rattle.lake_model.proofs.kinds.place_for.Goals as goal

pub loop-rest-preserved : goal.loop-rest-preserved
loop-rest-preserved c =
    goes_on_behind c.args.kind.now c.first-item.result _ c.args.kinds.now c.loop-rest.rest.now c.loop-rest.at c.loop-rest.invariant c.in-len1-up.len_at_least c.first-item.is
    (sym c.compare.ensures ∙ c.in-Greater.is)
