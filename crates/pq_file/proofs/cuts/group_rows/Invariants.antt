use Rattle.std.proofs.Common.{◌≡◌, ◌-◌, ◌<◌, drop}
use Rattle.pq_file.specs.Cuts.{cuts, cuts_behind, row_weights}
use Rattle.pq_file.proofs.cuts.group_rows.Given as goal

abbrev pub invariant-loop-row : goal.invariant-loop-row
invariant-loop-row l =
    (cuts_behind (l.row - l.first) l.weight (drop l.row (row_weights l.columns l.rows)) ≡ cuts (drop l.first (row_weights l.columns l.rows))) × (l.weight < 67108864)
