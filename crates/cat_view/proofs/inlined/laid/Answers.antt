use Rattle.std.proofs.Common.{◌∙◌}
use Rattle.cat_view.proofs.InlinedLemmas.{one_cell}
use Rattle.cat_view.proofs.inlined.laid.Goals as goal

pub loop-column-preserved : goal.loop-column-preserved
loop-column-preserved c =
    let at = c.loop-column.column-index in
    one_cell c.args.columns.now c.args.cells.now at c.column-item.result c.loop-column.laid c.push.new.self c.in_ok-copy.field-0 c.loop-column-test.true c.column-item.is
    (c.in_ok-copy.ensures ∙ c.laid_value.ensures) c.in_ok-push.ensures.ok
    ∙ c.loop-column.invariant
