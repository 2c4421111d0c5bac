use Rattle.std.proofs.Common.{take}
use Rattle.cat_view.specs.Groups.{rows_at}
use Rattle.cat_view.specs.Inlined.{AreInlined}
use Rattle.cat_view.proofs.inlined.inlined_at.Given as goal

-- the rows at the places so far
abbrev pub invariant-loop-at : goal.invariant-loop-at
invariant-loop-at l = AreInlined l.columns (rows_at l.rows (take l.at l.places)) l.made.items
