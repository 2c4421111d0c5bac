use Rattle.std.proofs.Common.{◌≡◌, ◌+◌, length}
use Rattle.lake_model.specs.Kinds as spec
use Rattle.lake_model.proofs.kinds.inserted.Given as goal

abbrev pub invariant-loop-rest : goal.invariant-loop-rest
invariant-loop-rest l = l.total + spec.inserted l.rest l.at ≡ spec.inserted l.own l.at

abbrev pub decreases-loop-rest : goal.decreases-loop-rest
decreases-loop-rest l = length l.rest
