use Rattle.std.proofs.Common.{◌≤◌, length, drop}
use Rattle.cat_view.specs.Columns.{ArePlaced}
use Rattle.cat_view.specs.Groups.{rows_at}
use Rattle.cat_view.proofs.columns.placed_columns.Given as goal

-- the columns of the rows behind
abbrev pub invariant-loop-at : goal.invariant-loop-at
invariant-loop-at l = record {
  within : l.at ≤ length l.places;
  placed : ArePlaced (rows_at l.rows (drop l.at l.places)) l.placed.items;
}

abbrev pub decreases-loop-at : goal.decreases-loop-at
decreases-loop-at l = l.at
