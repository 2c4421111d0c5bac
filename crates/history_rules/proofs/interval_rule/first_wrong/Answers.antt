use Rattle.std.proofs.Common.{Some, sym, ap, ◌∙◌}
use Rattle.history_rules.proofs.OverlapLemmas.{first_wrong_of, none_wrong, wrong_now}
use Rattle.history_rules.proofs.interval_rule.first_wrong.Goals as goal

pub returns-then-is_wrong : goal.returns-then-is_wrong
returns-then-is_wrong c =
    first_wrong_of c.args.kept c.args.rows.now _ c.requires
    (sym c.loop-row.invariant ∙ wrong_now c.args.kept _ c.args.rows.now c.loop-row.row-index c.row-item.result c.loop-row-test.true c.row-item.is (sym c.is_wrong.ensures ∙ c.if-is_wrong.true) ∙ ap Some (sym c.key.ensures))

pub returns : goal.returns
returns c = first_wrong_of c.args.kept c.args.rows.now _ c.requires (sym c.loop-row.invariant ∙ none_wrong c.args.kept _ c.args.rows.now c.loop-row.row-index c.loop-row-test.false)
