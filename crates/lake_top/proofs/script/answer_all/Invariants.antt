use Rattle.std.proofs.Common.{◌≡◌, ◌≤◌, ◌+◌, ◌-◌, ◌^◌, min, length}
use Rattle.lake_model.specs.Replay.{NoFeed}
use Rattle.lake_top.specs.Desks.{AreSet, moment}
use Rattle.lake_top.specs.Reading.{Moves}
use Rattle.lake_top.proofs.script.answer_all.Given as goal

-- the bytes so far are answered
abbrev pub invariant-loop-total : goal.invariant-loop-total
invariant-loop-total g l =
    let door = g.R.Door in
    let disk = g.D.FileDisk in
    record {
      small : l.total ≤ 67108864;
      set : AreSet g.F.Held.name g.F.Held.size g.F.Held.bytes (door.in_order l.door) (door.serves l.door) (door.opened l.door) l.desk.sessions.items;
      counted : length l.desk.counts.items ≡ 17;
      begun : NoFeed l.desk.pending.items;
      part : disk.part l.disk ≡ disk.part l.fn.disk;
      moved : Moves l.fn.desk l.desk (moment (door.stands l.fn.door) l.fn.desk.sessions.items (disk.files l.fn.disk) (door.keeper_faults l.fn.door) (disk.faults l.fn.disk))
          (moment (door.stands l.door) l.desk.sessions.items (disk.files l.disk) (door.keeper_faults l.door) (disk.faults l.disk)) l.total
          (g.S.Source.left l.fn.input) (g.S.Source.left l.input) (g.O.Sink.taken l.fn.output) (g.O.Sink.taken l.output);
      given : min (g.S.Source.given l.fn.input + l.total) (2 ^ 64 - 1) ≤ g.S.Source.given l.input;
      given_most : g.S.Source.given l.input ≤ g.S.Source.given l.fn.input + l.total;
      read_later : g.S.Source.faults l.fn.input ≤ g.S.Source.faults l.input;
      written_later : g.O.Sink.faults l.fn.output ≤ g.O.Sink.faults l.output;
    }

abbrev pub decreases-loop-total : goal.decreases-loop-total
decreases-loop-total g l = 67108864 - l.total
