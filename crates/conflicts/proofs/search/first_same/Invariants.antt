use Rattle.std.proofs.Common.{◌≡◌, length}
use Rattle.conflicts.specs.Search as spec
use Rattle.conflicts.proofs.search.first_same.Given as goal

abbrev pub invariant-loop-rest : goal.invariant-loop-rest
invariant-loop-rest l = spec.first_same l.kinds l.rest ≡ spec.first_same l.kinds l.sought

abbrev pub decreases-loop-rest : goal.decreases-loop-rest
decreases-loop-rest l = length l.rest
