use Rattle.std.proofs.Common.{◌≡◌, length}
use Rattle.lake_model.specs.Kinds as spec
use Rattle.lake_model.proofs.kinds.created_name.Given as goal

abbrev pub invariant-loop-rest : goal.invariant-loop-rest
invariant-loop-rest l = spec.created_name l.left l.rest ≡ spec.created_name l.place l.own

abbrev pub decreases-loop-rest : goal.decreases-loop-rest
decreases-loop-rest l = length l.rest
