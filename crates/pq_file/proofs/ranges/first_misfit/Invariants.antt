use Rattle.std.proofs.Common.{◌≡◌, ◌+◌, drop}
use Rattle.pq_file.specs.Reading.{cells_fit}
use Rattle.pq_file.proofs.ranges.first_misfit.Given as goal

abbrev pub invariant-loop-at : goal.invariant-loop-at
invariant-loop-at l = cells_fit l.column l.ty (l.row + l.at) (drop l.at l.cells) ≡ cells_fit l.column l.ty l.row l.cells
