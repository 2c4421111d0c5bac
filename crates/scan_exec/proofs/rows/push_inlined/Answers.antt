use Rattle.std.proofs.Common.{◌∙◌}
use Rattle.std.specs.Arc.{arc_value}
use Rattle.scan_exec.proofs.PickLemmas.{turn_map}
use Rattle.scan_exec.proofs.rows.push_inlined.Goals as goal

pub loop-row-preserved : goal.loop-row-preserved
loop-row-preserved c = rw (c.in_ok-push_chosen.ensures.rows, c.deref.ensures, c.deref-in-loop-row.ensures)
    (turn_map (λ r. arc_value r) c.args.choice.now.bound c.args.choice.now.fields.items c.loop-row.rows c.args.inlined.now c.loop-row.row-index c.row-item.result
    c.loop-row-test.true c.row-item.is ∙ c.loop-row.invariant)
