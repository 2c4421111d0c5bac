use Rattle.std.proofs.Common.{◌≡◌, ◌++◌, drop}
use Rattle.cat_view.specs.Building.{heads_in}
use Rattle.cat_view.proofs.versions.heads_at.Given as goal

-- those so far, and those of the rows that are left
abbrev pub invariant-loop-row : goal.invariant-loop-row
invariant-loop-row l = l.heads.items ++ heads_in l.snapshot (drop l.row-index l.rows) ≡ heads_in l.snapshot l.rows
