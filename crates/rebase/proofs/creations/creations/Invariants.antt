use Rattle.std.proofs.Common.{◌≡◌, ◌++◌, length}
use Rattle.lake_model.specs.Creations as model
use Rattle.rebase.specs.Made.{creations_of}
use Rattle.rebase.proofs.creations.creations.Given as goal

abbrev pub invariant-loop-rest : goal.invariant-loop-rest
invariant-loop-rest l = creations_of l.made.items ++ model.creations l.schemas l.tables l.rest ≡ model.creations 0 0 l.own

abbrev pub decreases-loop-rest : goal.decreases-loop-rest
decreases-loop-rest l = length l.rest
