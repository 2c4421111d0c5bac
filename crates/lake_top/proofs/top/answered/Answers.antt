use Rattle.lake_top.proofs.ExitLemmas.{door_unbegun, door_within, wide_halts}
use Rattle.lake_top.proofs.top.answered.Goals as goal

pub answer_all-requires-clause-set : goal.answer_all-requires-clause-set
answer_all-requires-clause-set g c = record {
  all = c.requires.all;
  orderly = c.requires.in_order;
  ready = c.in-Ok.ensures.ready (g.R.Door.opened c.args.door.now) c.requires.closed;
  sixteen = c.in-Ok.ensures.sixteen;
}

pub returns-in-Ok-clause-halt : goal.returns-in-Ok-clause-halt
returns-in-Ok-clause-halt g c =
    let door = g.R.Door in
    let disk = g.D.FileDisk in
    let left = g.S.Source.left in
    let taken = g.O.Sink.taken in
    wide_halts _ _ _ _ (door_within (door.stands c.args.door.now) (door.stands c.answer_all.new.door) c.in-Ok.desk.sessions.items c.answer_all.new.desk.sessions.items (disk.files c.args.disk.now) (disk.files c.answer_all.new.disk)
    (door.keeper_faults c.args.door.now) (door.keeper_faults c.answer_all.new.door) (disk.faults c.args.disk.now) (disk.faults c.answer_all.new.disk) c.in-Ok.ensures.owns)
    c.in-Err-answer_all.halt (left c.args.input.now) (left c.answer_all.new.input) (taken c.args.output.now) (taken c.answer_all.new.output) c.in-Err-answer_all.ensures.halt

pub returns-clause-halt : goal.returns-clause-halt
returns-clause-halt g c =
    let door = g.R.Door in
    let disk = g.D.FileDisk in
    door_unbegun (door.stands c.args.door.now) (disk.files c.args.disk.now) (door.keeper_faults c.args.door.now) (disk.faults c.args.disk.now) (g.S.Source.left c.args.input.now) (g.O.Sink.taken c.args.output.now)
