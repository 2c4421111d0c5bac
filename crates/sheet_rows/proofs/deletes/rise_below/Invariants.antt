use Rattle.std.proofs.Common.{◌≡◌, drop}
use Rattle.sheet_rows.specs.Live.{rise_within}
use Rattle.sheet_rows.proofs.deletes.rise_below.Given as goal

-- the places that are left decide
abbrev pub invariant-loop-place : goal.invariant-loop-place
invariant-loop-place l = rise_within 0 l.limit l.places ≡ rise_within l.least l.limit (drop l.place-index l.places)
