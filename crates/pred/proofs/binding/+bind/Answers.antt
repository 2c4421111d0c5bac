use Rattle.std.proofs.Common.{map, ap, ◌∙◌, arith}
use Rattle.std.proofs.lemmas.Grind.{common_steps}
use Rattle.std.proofs.lemmas.List.{take_all}
use Rattle.lake_types.specs.Cells.{cell_named}
use Rattle.lake_types.specs.Truth.{truth}
use Rattle.pred.proofs.BindLemmas.{binds_and, binds_more, binds_not, binds_or}
use Rattle.pred.proofs.binding.+bind.Goals as goal

pub bind-returns-in_ok-new-in-Ok-bind-clause-bound :
    goal.bind-returns-in_ok-new-in-Ok-bind-clause-bound
bind-returns-in_ok-new-in-Ok-bind-clause-bound t c =
    rw (c.in-Not.is, c.in_ok-new-in-Ok-bind.ensures, ← c.get.ensures) (binds_not _ _ _ c.in-Ok-bind.ensures.bound)

pub bind-returns-in-Ok-bind_parts-clause-bound : goal.bind-returns-in-Ok-bind_parts-clause-bound
bind-returns-in-Ok-bind_parts-clause-bound t c =
    rw (c.in-And.is, ← c.as_slice.ensures) (binds_and _ _ _ c.in-Ok-bind_parts.ensures.bound)

pub bind-returns-in-Ok-bind_parts-2-clause-bound :
    goal.bind-returns-in-Ok-bind_parts-2-clause-bound
bind-returns-in-Ok-bind_parts-2-clause-bound t c =
    rw (c.in-Or.is, ← c.as_slice-in-Or.ensures) (binds_or _ _ _ c.in-Ok-bind_parts-2.ensures.bound)

pub bind_parts-loop-part-preserved : goal.bind_parts-loop-part-preserved
bind_parts-loop-part-preserved t c = record {
  bound = λ cells. rw c.in_ok-push-in-Ok.ensures.ok
      (binds_more c.args.columns.now c.args.parts.now c.loop-part.part-index c.part-item.result c.loop-part.bounds c.in-Ok.bound
      c.loop-part-test.true c.part-item.is c.loop-part.invariant.bound c.in-Ok.ensures.bound cells);
  left = grind (arith, common_steps);
}

pub bind_parts-returns-clause-bound : goal.bind_parts-returns-clause-bound
bind_parts-returns-clause-bound t c = λ cells.
    c.loop-part.invariant.bound cells ∙ ap (map (truth (cell_named c.args.columns.now cells))) (take_all c.loop-part.part-index c.args.parts.now c.loop-part-test.false)
