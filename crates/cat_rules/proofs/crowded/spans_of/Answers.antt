use Rattle.std.proofs.Common.{rules, tests}
use Rattle.std.proofs.lemmas.Iterator.{YieldsList-from_slice, YieldsList-from_map, items_from_collect}
use Rattle.cat_rules.proofs.crowded.spans_of.Goals as goal

pub returns : goal.returns
returns g c =
    items_from_collect _ c.collect.ensures.ran (YieldsList-from_map _ (g.T.Grouped.extent c.args.rule.now) (YieldsList-from_slice c.args.rows.now cc) c.map.ensures.closure (λ x r q k. search (rules, tests)))
