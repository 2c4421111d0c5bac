use Rattle.std.proofs.Common.{rules, ap, ◌∙◌}
use Rattle.cat_view.specs.Named.{ordered}
use Rattle.scan_exec.specs.Picking.{id_of}
use Rattle.scan_exec.proofs.OrderLemmas.{sorted_is}
use Rattle.scan_exec.proofs.order.in_order.Goals as goal

pub returns : goal.returns
returns c =
    c.from_vec.ensures
    ∙ sorted_is id_of c.into_vec-items.result.items _ c.in_ok-sort_by_key.ensures.sorted c.in_ok-sort_by_key.ensures.stable (λ a r q k. search rules)
    ∙ ap (ordered id_of) c.into_vec-items.ensures
