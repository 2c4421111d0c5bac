use Rattle.std.proofs.Common.{◌≡◌, take}
use Rattle.pq_file.specs.Cuts as spec
use Rattle.pq_file.proofs.cuts.row_weight.Given as goal

abbrev pub invariant-loop-column : goal.invariant-loop-column
invariant-loop-column l = l.total ≡ spec.row_weight (take l.column-index l.columns) l.row
