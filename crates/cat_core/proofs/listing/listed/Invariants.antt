use Rattle.std.proofs.Common.{◌≡◌, ◌++◌, length}
use Rattle.cat_core.specs.Listing as spec
use Rattle.cat_core.proofs.listing.listed.Given as goal

-- what is still to come
abbrev pub invariant-loop-rest : goal.invariant-loop-rest
invariant-loop-rest l = l.rows ++ spec.listed l.rest l.texts ≡ spec.listed l.snapshots l.changes

abbrev pub decreases-loop-rest : goal.decreases-loop-rest
decreases-loop-rest l = length l.rest
