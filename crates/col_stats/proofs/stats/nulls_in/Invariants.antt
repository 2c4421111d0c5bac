use Rattle.std.proofs.Common.{◌≡◌, take}
use Rattle.std.specs.List.{count_by}
use Rattle.col_stats.specs.Stats.{is_null}
use Rattle.col_stats.proofs.stats.nulls_in.Given as goal

-- the cells so far
abbrev pub invariant-loop-cell : goal.invariant-loop-cell
invariant-loop-cell l = l.nulls ≡ count_by is_null (take l.cell-index l.cells)
