use Rattle.std.proofs.Common.{length}
use Rattle.lake_model.specs.Apply as apply
use Rattle.lake_model.specs.Placed.{AreMarked}
use Rattle.lake_model.specs.declared.change.RowRef.TheVariants.{Fresh}
use Rattle.lake_model.proofs.kinds.mark_rows.Given as goal

abbrev pub invariant-loop-rest : goal.invariant-loop-rest
invariant-loop-rest l = AreMarked l.fn.gone l.gone (λ p. apply.is_named l.rest (Fresh p)) (λ p. apply.is_named l.rows (Fresh p))

abbrev pub decreases-loop-rest : goal.decreases-loop-rest
decreases-loop-rest l = length l.rest
