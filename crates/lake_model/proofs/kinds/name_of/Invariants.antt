use Rattle.std.proofs.Common.{◌≡◌, length}
use Rattle.lake_types.specs.Kinds as types
use Rattle.lake_model.proofs.kinds.name_of.Given as goal

abbrev pub invariant-loop-rest : goal.invariant-loop-rest
invariant-loop-rest l = types.name_of l.rest l.id ≡ types.name_of l.names l.id

abbrev pub decreases-loop-rest : goal.decreases-loop-rest
decreases-loop-rest l = length l.rest
