use Rattle.std.specs.List.{AllZip}
use Rattle.cat_view.specs.Groups.{IsGroupOf}
use Rattle.cat_view.proofs.groups.rows_by_owner.Given as goal

-- the groups of the rows so far
abbrev pub invariant-loop-place : goal.invariant-loop-place
invariant-loop-place g l = AllZip (IsGroupOf (g.R.Owned.owner l.snapshot) l.rows l.place) l.ids l.groups.items
