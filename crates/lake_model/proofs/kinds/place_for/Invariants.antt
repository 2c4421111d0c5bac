use Rattle.std.proofs.Common.{length}
use Rattle.lake_model.specs.Placed.{IsSought}
use Rattle.lake_model.proofs.kinds.place_for.Given as goal

abbrev pub invariant-loop-rest : goal.invariant-loop-rest
invariant-loop-rest l = IsSought l.kind l.kinds l.at l.rest

abbrev pub decreases-loop-rest : goal.decreases-loop-rest
decreases-loop-rest l = length l.rest
