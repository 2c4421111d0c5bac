use Rattle.std.proofs.Common.{◌≡◌, take, None}
use Rattle.std.specs.Prelude.{fold}
use Rattle.std.specs.Option.{option_copied}
use Rattle.col_stats.specs.Bounds.{outer_cell}
use Rattle.col_stats.proofs.bounds.outermost_cell.Given as goal

-- the cells so far
abbrev pub invariant-loop-cell : goal.invariant-loop-cell
invariant-loop-cell l = option_copied l.bound ≡ fold (outer_cell l.side) None (take l.cell-index l.cells)
