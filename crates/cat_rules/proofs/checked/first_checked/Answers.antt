use Rattle.std.proofs.Common.{◌∙◌, sym, arith}
use Rattle.cat_rules.proofs.CheckedLemmas.{at_row, end, past_rows, step, stop}
use Rattle.cat_rules.proofs.checked.first_checked.Goals as goal

pub returns-then-is_some : goal.returns-then-is_some
returns-then-is_some g c =
    let name = g.T.CheckedRule.name in
    let Bad = g.T.CheckedRule.Bad c.args.rule.now in
    let rows = c.args.rows.now in
    let row = c.row-item.result in
    let on = at_row name Bad rows c.loop-row.row-index row row c.loop-row-test.true c.row-item.is c.loop-row.invariant in
    stop name Bad rows row _ c.in_ok-told.told on c.in_ok-told.ensures (sym c.is_some.ensures ∙ c.if-is_some.true)

pub loop-row-preserved : goal.loop-row-preserved
loop-row-preserved g c =
    let name = g.T.CheckedRule.name in
    let Bad = g.T.CheckedRule.Bad c.args.rule.now in
    let rows = c.args.rows.now in
    let row = c.row-item.result in
    let on = at_row name Bad rows c.loop-row.row-index row row c.loop-row-test.true c.row-item.is c.loop-row.invariant in
    step name Bad rows row _ c.in_ok-told.told on c.in_ok-told.ensures (sym c.is_some.ensures ∙ c.if-is_some.false)

pub returns : goal.returns
returns g c =
    let name = g.T.CheckedRule.name in
    let Bad = g.T.CheckedRule.Bad c.args.rule.now in
    end name Bad c.args.rows.now (past_rows name Bad c.args.rows.now c.loop-row.row-index (omega arith) c.loop-row.invariant)
