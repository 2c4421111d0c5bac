use Rattle.std.proofs.Common.{take}
use Rattle.cat_view.specs.Groups.{rows_at}
use Rattle.cat_view.specs.Stats.{AreRead}
use Rattle.cat_view.proofs.files.stats_at.Given as goal

-- the statistics of the rows at the places so far
abbrev pub invariant-loop-at : goal.invariant-loop-at
invariant-loop-at l = AreRead l.columns l.count (rows_at l.rows (take l.at l.places)) l.stats
