use Rattle.std.proofs.Common.{◌≡◌, arith, rules, ap, subst, sym, length, length-take}
use Rattle.lake_model.specs.Replay.{NoFeed}
use Rattle.lake_top.specs.Desks.{moment}
use Rattle.lake_top.specs.Run.{Halts}
use Rattle.lake_top.specs.declared.halt.Halt.{Halt}
use Rattle.lake_top.proofs.RunLemmas.{answered_end, answered_long, answered_read, finish_halts, moves_end, moves_none, moves_then, turn_halts}
use Rattle.lake_top.proofs.script.answer_all.Goals as goal

pub loop-total-init : goal.loop-total-init
loop-total-init g c =
    let begun : NoFeed c.args.desk.now.pending.items = subst NoFeed (sym c.requires.empty) tt in
    record {
      small = omega arith;
      set = c.requires.set;
      counted = ap length c.requires.zero;
      begun = begun;
      part = search rules;
      moved = moves_none c.args.desk.now _ (g.S.Source.left c.args.input.now) (g.O.Sink.taken c.args.output.now) begun;
      given = omega arith;
      given_most = omega arith;
      read_later = omega arith;
      written_later = omega arith;
    }

pub returns-in-Err-clause-halt : goal.returns-in-Err-clause-halt
returns-in-Err-clause-halt g c =
    let left = g.S.Source.left in
    let taken = g.O.Sink.taken in
    let l = c.loop-total in
    turn_halts c.args.desk.now c.requires.zero c.requires.empty c.in-Err.halt l.desk _ _ _ l.total (left c.args.input.now) (left l.input) (left c.turn.new.input) (taken c.args.output.now) (taken l.output) (taken c.turn.new.output) l.invariant.moved c.in-Err.ensures.halt

pub returns-in-Ok-finish-clause-ok : goal.returns-in-Ok-finish-clause-ok
returns-in-Ok-finish-clause-ok g c =
    let left = g.S.Source.left in
    let taken = g.O.Sink.taken in
    let l = c.loop-total in
    answered_end c.args.desk.now c.requires.zero c.requires.empty c.turn.new.desk c.finish.new.desk _ _ _ _ (left c.args.input.now) (left c.turn.new.input) (taken c.args.output.now) (taken c.turn.new.output) (taken c.finish.new.output)
    (moves_then c.args.desk.now l.desk c.turn.new.desk _ _ _ l.total c.in-Ok.count (left c.args.input.now) (left l.input) (left c.turn.new.input) (taken c.args.output.now) (taken l.output) (taken c.turn.new.output) l.invariant.moved c.in-Ok.ensures.ok) c.in-Ok-finish.ensures.ok

pub returns-in-Err-finish-clause-halt : goal.returns-in-Err-finish-clause-halt
returns-in-Err-finish-clause-halt g c =
    let left = g.S.Source.left in
    let taken = g.O.Sink.taken in
    let l = c.loop-total in
    finish_halts c.args.desk.now c.requires.zero c.requires.empty c.in-Err-finish.halt c.turn.new.desk _ _ _ _ (left c.args.input.now) (left c.turn.new.input) (taken c.args.output.now) (taken c.turn.new.output) (taken c.finish.new.output) (c.in-Ok.ensures.end c.if-count-eq0.true)
    (moves_then c.args.desk.now l.desk c.turn.new.desk _ _ _ l.total c.in-Ok.count (left c.args.input.now) (left l.input) (left c.turn.new.input) (taken c.args.output.now) (taken l.output) (taken c.turn.new.output) l.invariant.moved c.in-Ok.ensures.ok) c.in-Err-finish.ensures.halt

pub loop-total-preserved : goal.loop-total-preserved
loop-total-preserved g c =
    let left = g.S.Source.left in
    let taken = g.O.Sink.taken in
    let l = c.loop-total in
    record {
      small = omega (arith, c.in-Ok.ensures.within, c.min-room.ensures, c.loop-total-test.true, length-take c.min-room.result l.piece);
      set = c.turn.ensures.set;
      counted = c.turn.ensures.counted;
      begun = c.turn.ensures.begun;
      part = search rules;
      moved = moves_then c.args.desk.now l.desk c.turn.new.desk _ _ _ l.total c.in-Ok.count (left c.args.input.now) (left l.input) (left c.turn.new.input) (taken c.args.output.now) (taken l.output) (taken c.turn.new.output) l.invariant.moved c.in-Ok.ensures.ok;
      given = omega (arith, c.in-Ok.ensures.given, l.invariant.given);
      given_most = omega (arith, c.in-Ok.ensures.given, l.invariant.given_most);
      read_later = omega (arith, c.turn.ensures.read_later, l.invariant.read_later);
      written_later = omega (arith, c.turn.ensures.written_later, l.invariant.written_later);
    }

pub returns-in-Ok-true-clause-halt : goal.returns-in-Ok-true-clause-halt
returns-in-Ok-true-clause-halt g c =
    let left = g.S.Source.left in
    let taken = g.O.Sink.taken in
    let l = c.loop-total in
    let full : l.total ≡ 67108864 = omega (arith, l.invariant.small, c.loop-total-test.false) in
    let more = rw c.in-Ok-true.field-0-test at c.in-Ok-true.ensures.more in
    answered_long c.args.desk.now c.requires.zero c.requires.empty l.desk _ _ l.total (left c.args.input.now) (left l.input) (left c.goes_past.new.input) (taken c.args.output.now) (taken l.output) more.0 l.invariant.moved full more.1

pub returns-in-Ok-finish-2-clause-ok : goal.returns-in-Ok-finish-2-clause-ok
returns-in-Ok-finish-2-clause-ok g c =
    let left = g.S.Source.left in
    let taken = g.O.Sink.taken in
    let l = c.loop-total in
    answered_end c.args.desk.now c.requires.zero c.requires.empty l.desk c.finish-in-Ok-false.new.desk _ _ _ l.total (left c.args.input.now) (left c.goes_past.new.input) (taken c.args.output.now) (taken l.output) (taken c.finish-in-Ok-false.new.output)
    (moves_end c.args.desk.now c.requires.zero c.requires.empty l.desk _ _ l.total (left c.args.input.now) (left l.input) (left c.goes_past.new.input) (taken c.args.output.now) (taken l.output) l.invariant.moved (rw c.in-Ok-false.field-0-test at c.in-Ok-false.ensures.more).1) c.in-Ok-finish-2.ensures.ok

pub returns-in-Err-finish-2-clause-halt : goal.returns-in-Err-finish-2-clause-halt
returns-in-Err-finish-2-clause-halt g c =
    let left = g.S.Source.left in
    let taken = g.O.Sink.taken in
    let l = c.loop-total in
    finish_halts c.args.desk.now c.requires.zero c.requires.empty c.in-Err-finish-2.halt l.desk _ _ _ l.total (left c.args.input.now) (left c.goes_past.new.input) (taken c.args.output.now) (taken l.output) (taken c.finish-in-Ok-false.new.output) (rw c.in-Ok-false.field-0-test at c.in-Ok-false.ensures.more).0
    (moves_end c.args.desk.now c.requires.zero c.requires.empty l.desk _ _ l.total (left c.args.input.now) (left l.input) (left c.goes_past.new.input) (taken c.args.output.now) (taken l.output) l.invariant.moved (rw c.in-Ok-false.field-0-test at c.in-Ok-false.ensures.more).1) c.in-Err-finish-2.ensures.halt

pub returns-in-Err-goes_past-clause-halt : goal.returns-in-Err-goes_past-clause-halt
returns-in-Err-goes_past-clause-halt g c =
    let door = g.R.Door in
    let disk = g.D.FileDisk in
    let left = g.S.Source.left in
    let taken = g.O.Sink.taken in
    let l = c.loop-total in
    let P : Halt → Type 0 = λ x. Halts x (moment (door.stands c.args.door.now) c.args.desk.now.sessions.items (disk.files c.args.disk.now) (door.keeper_faults c.args.door.now) (disk.faults c.args.disk.now))
    (moment (door.stands l.door) l.desk.sessions.items (disk.files l.disk) (door.keeper_faults l.door) (disk.faults l.disk)) (left c.args.input.now) (left c.goes_past.new.input) (taken c.args.output.now) (taken l.output) in
    subst P (sym c.in-Err-goes_past.ensures.only) (answered_read c.args.desk.now c.requires.zero c.requires.empty l.desk _ _ l.total (left c.args.input.now) (left l.input) (left c.goes_past.new.input) (taken c.args.output.now) (taken l.output) l.invariant.moved c.in-Err-goes_past.ensures.fault)
