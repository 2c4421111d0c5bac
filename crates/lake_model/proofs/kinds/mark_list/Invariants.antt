use Rattle.std.proofs.Common.{length}
use Rattle.lake_model.specs.Kinds as spec
use Rattle.lake_model.specs.Placed.{AreMarked}
use Rattle.lake_model.specs.declared.change.RowRef.TheVariants.{Fresh}
use Rattle.lake_model.proofs.kinds.mark_list.Given as goal

abbrev pub invariant-loop-rest : goal.invariant-loop-rest
invariant-loop-rest l = AreMarked l.fn.gone l.gone (λ p. spec.deletes_row l.rest l.at (Fresh p)) (λ p. spec.deletes_row l.own l.at (Fresh p))

abbrev pub decreases-loop-rest : goal.decreases-loop-rest
decreases-loop-rest l = length l.rest
