use Rattle.std.proofs.Common.{ap, sym, ◌∙◌}
use Rattle.std.specs.Ordering.{is_lt}
use Rattle.cat_changes.proofs.OrderLemmas.{follows}
use Rattle.cat_changes.proofs.order.may_follow.Goals as goal

pub returns-in-Some : goal.returns-in-Some
returns-in-Some c =
    follows c.args.kinds.now c.in-Some.last.now c.args.next.now c.is_lt.result c.requires (sym c.in-Some.ensures.value)
    (c.is_lt.ensures ∙ ap is_lt c.compare.ensures)
