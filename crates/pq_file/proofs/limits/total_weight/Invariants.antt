use Rattle.std.proofs.Common.{◌≡◌, ◌-◌, ◌^◌, min, take}
use Rattle.std.specs.List.{sum_by}
use Rattle.pq_file.specs.Writable.{column_weight}
use Rattle.pq_file.proofs.limits.total_weight.Given as goal

abbrev pub invariant-loop-column : goal.invariant-loop-column
invariant-loop-column l = l.total ≡ min (sum_by column_weight (take l.column-index l.columns)) (2 ^ 64 - 1)
