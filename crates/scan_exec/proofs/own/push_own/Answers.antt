use Rattle.std.proofs.Common.{◌∙◌}
use Rattle.scan_exec.proofs.OwnLemmas.{refs_turn, rows_turn}
use Rattle.scan_exec.proofs.own.push_own.Goals as goal

pub loop-change-preserved : goal.loop-change-preserved
loop-change-preserved c = record {
  rows = rw (c.in_ok-push_change.ensures.rows, c.in_ok-push_change.ensures.place)
      (rows_turn c.args.choice.now.bound c.args.choice.now.fields.items c.loop-change.told.rows c.args.home.now.columns.now c.args.home.now.next_row c.loop-change.told.place
      c.args.home.now.table c.args.own.now c.loop-change.change-index c.change-item.result c.loop-change-test.true c.change-item.is ∙ c.loop-change.invariant.rows);
  refs = rw (c.in_ok-push_change.ensures.refs, c.in_ok-push_change.ensures.place)
      (refs_turn c.args.choice.now.bound c.loop-change.told.refs.items c.args.home.now.columns.now c.args.home.now.next_row c.loop-change.told.place
      c.args.home.now.table c.args.own.now c.loop-change.change-index c.change-item.result c.loop-change-test.true c.change-item.is ∙ c.loop-change.invariant.refs);
}
