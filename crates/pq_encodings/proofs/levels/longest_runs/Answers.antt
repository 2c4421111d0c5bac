use Rattle.std.proofs.Common.{arith}
use Rattle.pq_encodings.proofs.LevelLemmas.{all_spelled, run_continues, run_ended}
use Rattle.pq_encodings.proofs.levels.longest_runs.Goals as goal
use Rattle.pq_encodings.proofs.levels.longest_runs.Goals.{then-ends_run+in_ok-push_run, else-ends_run}

pub loop-at-preserved : goal.loop-at-preserved
loop-at-preserved c =
    elim c.if-ends_run.branch [
      | then-ends_run+in_ok-push_run w ↦
          rw (w.count-is, w.out-is) (run_ended c.args.levels.now c.loop-at.at c.loop-at.count c.loop-at.out.items w.push_run.new.out.items c.loop-at-test.true
          (c.ends_run.ensures.other w.if-ends_run.true) c.loop-at.invariant w.in_ok-push_run.ensures)
      | else-ends_run w ↦
          rw (w.count-is, w.out-is) (run_continues c.args.levels.now c.loop-at.at c.loop-at.count c.loop-at.out.items
          (c.ends_run.ensures.same w.if-ends_run.false).0 (c.ends_run.ensures.same w.if-ends_run.false).1 c.loop-at.invariant)
    ]

pub returns : goal.returns
returns c = all_spelled c.args.levels.now c.loop-at.at c.loop-at.count c.loop-at.out.items (omega arith) c.loop-at.invariant
