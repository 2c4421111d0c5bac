use Rattle.std.proofs.Common.{◌≡◌, drop}
use Rattle.std.specs.List.{slice_get}
use Rattle.cat_view.specs.Groups.{rows_at}
use Rattle.cat_view.proofs.files.first_at.Given as goal

-- the places that are left decide
abbrev pub invariant-loop-at : goal.invariant-loop-at
invariant-loop-at g l = slice_get (rows_at l.rows l.places) 0 ≡ slice_get (rows_at l.rows (drop l.at l.places)) 0
