use Rattle.std.proofs.Common.{◌≡◌, take}
use Rattle.std.specs.List.{count_by}
use Rattle.col_stats.specs.Bounds.{cells}
use Rattle.col_stats.specs.Stats.{is_null}
use Rattle.col_stats.proofs.stats.nulls_of.Given as goal

-- the rows so far
abbrev pub invariant-loop-row : goal.invariant-loop-row
invariant-loop-row l = l.nulls ≡ count_by is_null (cells l.field (take l.row-index l.rows))
