use Rattle.std.proofs.Common.{◌-◌, ◌≤◌, length, take}
use Rattle.lake_io.specs.Told.{Takes}
use Rattle.lake_io.proofs.sink.write_all.Given as goal

-- the part so far was taken, and no fault was passed over
abbrev pub invariant-loop-at : goal.invariant-loop-at
invariant-loop-at g l = record {
  within : l.at ≤ length l.piece;
  bytes : Takes (g.O.Sink.taken l.fn.sink) (g.O.Sink.taken l.sink) (take l.at l.piece);
  later : g.O.Sink.faults l.fn.sink ≤ g.O.Sink.faults l.sink;
}

abbrev pub decreases-loop-at : goal.decreases-loop-at
decreases-loop-at g l = length l.piece - l.at
