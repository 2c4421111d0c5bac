use Rattle.std.proofs.Common.{◌≡◌, ◌-◌, length, arith, Ok}
use Rattle.std.proofs.lemmas.Result.{err_from_is_err_and}
use Rattle.pq_encodings.specs.Runs.{run_at, runs_in}
use Rattle.pq_encodings.proofs.RunLemmas.{goes_on, stops, is_done}
use Rattle.pq_encodings.proofs.runs.read_runs.Goals as goal

pub returns-then-need-eq0-clause-runs : goal.returns-then-need-eq0-clause-runs
returns-then-need-eq0-clause-runs c =
    is_done c.loop-turn.out.items c.args.count (c.args.count - c.loop-turn._turn) c.args.width c.loop-turn.at c.loop-turn.rest.now
    (runs_in c.args.count c.args.width c.args.bytes.now c.args.count c.args.first) (omega arith) c.loop-turn.invariant.values

pub returns-in_err-used-clause-runs : goal.returns-in_err-used-clause-runs
returns-in_err-used-clause-runs c =
    let p = err_from_is_err_and c.from_residual.result c.from_residual.ensures.1 in
    let e : c.len.result ≡ length c.loop-turn.out.items = omega arith in
    rw (p.1, p.2, c.in_err-used.ensures.err) (stops c.in_err-used.field-0.0 c.loop-turn.out.items c.args.count c.loop-turn._turn c.args.width c.loop-turn.at c.loop-turn.rest.now
    (runs_in c.args.count c.args.width c.args.bytes.now c.args.count c.args.first) c.loop-turn-test.true (omega arith)
    (rw (← e) c.in_err-used.ensures.run) c.loop-turn.invariant.values)

pub loop-turn-preserved : goal.loop-turn-preserved
loop-turn-preserved c =
    let run = c.in_ok-used.ensures.run in
    let e : c.len.result ≡ length c.loop-turn.out.items = omega arith in
    let here : run_at c.args.width c.loop-turn.rest.now (c.args.count - length c.loop-turn.out.items) c.loop-turn.at ≡ Ok (run.0, c.in_ok-used.used) = rw (← e) run.1 in
    record {
      values = rw (c.split_at.ensures.back, run.2) (goes_on c.loop-turn.out.items run.0 c.args.count c.loop-turn._turn c.args.width c.loop-turn.at c.in_ok-used.used c.loop-turn.rest.now
          (runs_in c.args.count c.args.width c.args.bytes.now c.args.count c.args.first) c.loop-turn-test.true (omega arith) here c.loop-turn.invariant.values);
      turns = omega (arith, c.in_ok-used.ensures.more);
      most = omega (arith, c.in_ok-used.ensures.more);
      within = omega arith;
    }

pub returns-clause-runs : goal.returns-clause-runs
returns-clause-runs c =
    is_done c.loop-turn.out.items c.args.count (c.args.count - c.loop-turn._turn) c.args.width c.loop-turn.at c.loop-turn.rest.now
    (runs_in c.args.count c.args.width c.args.bytes.now c.args.count c.args.first) (omega arith) c.loop-turn.invariant.values
