use Rattle.std.proofs.Common.{◌≡◌, ◌++◌, length}
use Rattle.lake_model.specs.Creations.{made_schemas}
use Rattle.rebase.specs.Made as spec
use Rattle.rebase.proofs.made.add_schemas.Given as goal

abbrev pub invariant-loop-rest : goal.invariant-loop-rest
invariant-loop-rest l = l.adds.items ++ spec.schema_adds l.place (made_schemas l.schemas l.rest) ≡ l.fn.adds.items ++ spec.schema_adds l.place (made_schemas 0 l.own)

abbrev pub decreases-loop-rest : goal.decreases-loop-rest
decreases-loop-rest l = length l.rest
