use Rattle.std.proofs.Common.{◌≡◌, ◌-◌, ◌^◌, min, take}
use Rattle.std.specs.List.{sum_by}
use Rattle.lake_types.specs.Weights.{weight}
use Rattle.pq_file.proofs.limits.cells_weight.Given as goal

abbrev pub invariant-loop-cell : goal.invariant-loop-cell
invariant-loop-cell l = l.total ≡ min (sum_by weight (take l.cell-index l.cells)) (2 ^ 64 - 1)
