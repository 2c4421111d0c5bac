use Rattle.std.proofs.Common.{◌≡◌, take, map}
use Rattle.pq_file.specs.Cells.{long_of}
use Rattle.pq_file.proofs.cells.longs_of.Given as goal

abbrev pub invariant-loop-number : goal.invariant-loop-number
invariant-loop-number l = l.cells ≡ map long_of (take l.number-index l.numbers)
