use Rattle.std.proofs.Common.{◌≡◌, take, map}
use Rattle.pq_file.specs.Cells.{bool_of}
use Rattle.pq_file.proofs.cells.bools_of.Given as goal

abbrev pub invariant-loop-truth : goal.invariant-loop-truth
invariant-loop-truth l = l.cells ≡ map bool_of (take l.truth-index l.bools)
