use Rattle.std.proofs.Common.{◌≡◌, drop}
use Rattle.pq_file.specs.Reading.{parts_fit}
use Rattle.pq_file.proofs.ranges.misfit_in.Given as goal

abbrev pub invariant-loop-part : goal.invariant-loop-part
invariant-loop-part l = parts_fit l.row (drop l.part-index l.parts) ≡ parts_fit l.row l.parts
