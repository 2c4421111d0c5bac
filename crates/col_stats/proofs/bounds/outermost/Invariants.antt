use Rattle.std.proofs.Common.{◌≡◌, take, None}
use Rattle.std.specs.Prelude.{fold}
use Rattle.std.specs.Option.{option_copied}
use Rattle.col_stats.specs.Bounds.{cells, outer_cell}
use Rattle.col_stats.proofs.bounds.outermost.Given as goal

-- the rows so far
abbrev pub invariant-loop-row : goal.invariant-loop-row
invariant-loop-row l = option_copied l.bound ≡ fold (outer_cell l.side) None (cells l.field (take l.row-index l.rows))
