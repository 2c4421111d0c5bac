use Rattle.std.proofs.Common.{◌≡◌, ◌+◌, ◌-◌, ◌^◌, take, min}
use Rattle.std.specs.Prelude.{sum_by}
use Rattle.lake_types.specs.Weights.{cell_weight}
use Rattle.lake_types.proofs.weights.row_weight.Given as goal

-- the cells so far
abbrev pub invariant-loop-value : goal.invariant-loop-value
invariant-loop-value l = l.total ≡ min (16 + sum_by cell_weight (take l.value-index l.cells)) (2 ^ 64 - 1)
