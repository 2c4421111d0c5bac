use Rattle.std.proofs.Common.{◌≡◌, take, map}
use Rattle.pq_file.specs.Cells.{number_of}
use Rattle.pq_file.proofs.cells.numbers_of.Given as goal

abbrev pub invariant-loop-number : goal.invariant-loop-number
invariant-loop-number l = l.cells ≡ map (number_of l.ty) (take l.number-index l.numbers)
