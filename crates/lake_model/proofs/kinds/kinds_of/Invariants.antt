use Rattle.std.proofs.Common.{◌≡◌, length}
use Rattle.lake_model.specs.Kinds as spec
use Rattle.lake_model.proofs.kinds.kinds_of.Given as goal

abbrev pub invariant-loop-rest : goal.invariant-loop-rest
invariant-loop-rest l =
    spec.put_all l.kinds.items (spec.kinds_from l.base_names l.own l.created.0 l.created.1 l.rest) ≡ spec.kinds l.base_names l.own

abbrev pub decreases-loop-rest : goal.decreases-loop-rest
decreases-loop-rest l = length l.rest
