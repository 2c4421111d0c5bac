use Rattle.std.proofs.Common.{arith, rules}
use Rattle.lake_io.proofs.ToldLemmas.{tail-range}
use Rattle.lake_top.proofs.DeskLemmas.{answers_more, answers_none, stops_rest}
use Rattle.lake_top.proofs.desk.Desk.take.Goals as goal

pub loop-at-init : goal.loop-at-init
loop-at-init g c = record {
  within = omega arith;
  set = c.requires.set;
  counted = c.requires.counted;
  begun = c.requires.begun;
  part = search rules;
  answered = answers_none c.args.self.now _ (g.O.Sink.taken c.args.sink.now) c.requires.begun;
  later = omega arith;
}

pub returns-in-Err-clause-stop : goal.returns-in-Err-clause-stop
returns-in-Err-clause-stop g c =
    let taken = g.O.Sink.taken in
    let l = c.loop-at in
    stops_rest c.in-Err.stop c.args.self.now l.self _ _ _ l.at c.args.piece.now (taken c.args.sink.now) (taken l.sink) (taken c.take_some.new.sink) l.invariant.answered (rw tail-range at c.in-Err.ensures.stop)

pub loop-at-preserved : goal.loop-at-preserved
loop-at-preserved g c =
    let taken = g.O.Sink.taken in
    let l = c.loop-at in
    record {
      within = search (arith, c.in-Ok.ensures.within);
      set = c.take_some.ensures.set;
      counted = c.take_some.ensures.counted;
      begun = c.take_some.ensures.begun;
      part = search rules;
      answered = answers_more c.args.self.now l.self c.take_some.new.self _ _ _ l.at c.in-Ok.count c.args.piece.now (taken c.args.sink.now) (taken l.sink) (taken c.take_some.new.sink) l.invariant.answered (rw tail-range at c.in-Ok.ensures.ok);
      later = omega (arith, c.take_some.ensures.later, l.invariant.later);
    }
