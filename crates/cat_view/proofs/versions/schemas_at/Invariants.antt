use Rattle.std.proofs.Common.{◌≡◌, ◌++◌, drop}
use Rattle.cat_view.specs.Building.{schemas_in}
use Rattle.cat_view.proofs.versions.schemas_at.Given as goal

-- those so far, and those of the rows that are left
abbrev pub invariant-loop-row : goal.invariant-loop-row
invariant-loop-row l = l.names ++ schemas_in l.snapshot (drop l.row-index l.rows) ≡ schemas_in l.snapshot l.rows
