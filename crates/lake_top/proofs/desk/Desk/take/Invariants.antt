use Rattle.std.proofs.Common.{◌≡◌, ◌-◌, ◌≤◌, length, take}
use Rattle.lake_model.specs.Replay.{NoFeed}
use Rattle.lake_top.specs.Desks.{Answers, AreSet, moment}
use Rattle.lake_top.proofs.desk.Desk.take.Given as goal

-- the bytes so far are answered
abbrev pub invariant-loop-at : goal.invariant-loop-at
invariant-loop-at g l =
    let door = g.R.Door in
    let disk = g.D.FileDisk in
    record {
      within : l.at ≤ length l.piece;
      set : AreSet g.F.Held.name g.F.Held.size g.F.Held.bytes (door.in_order l.door) (door.serves l.door) (door.opened l.door) l.self.sessions.items;
      counted : length l.self.counts.items ≡ 17;
      begun : NoFeed l.self.pending.items;
      part : disk.part l.disk ≡ disk.part l.fn.disk;
      answered : Answers l.fn.self l.self (moment (door.stands l.fn.door) l.fn.self.sessions.items (disk.files l.fn.disk) (door.keeper_faults l.fn.door) (disk.faults l.fn.disk))
          (moment (door.stands l.door) l.self.sessions.items (disk.files l.disk) (door.keeper_faults l.door) (disk.faults l.disk))
          (take l.at l.piece) (g.O.Sink.taken l.fn.sink) (g.O.Sink.taken l.sink);
      later : g.O.Sink.faults l.fn.sink ≤ g.O.Sink.faults l.sink;
    }

abbrev pub decreases-loop-at : goal.decreases-loop-at
decreases-loop-at g l = length l.piece - l.at
