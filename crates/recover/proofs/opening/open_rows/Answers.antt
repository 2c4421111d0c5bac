use Rattle.cat_rows.specs.Batches.{tables_of}
use Rattle.recover.proofs.OpenLemmas.{sane_begun, why_ruled}
use Rattle.recover.proofs.opening.open_rows.Goals as goal

pub returns-then-is_empty-clause-sane : goal.returns-then-is_empty-clause-sane
returns-then-is_empty-clause-sane g c = sane_begun c.begin.result _ c.begin.ensures.rows

pub returns-else-is_empty-clause-refused : goal.returns-else-is_empty-clause-refused
returns-else-is_empty-clause-refused g c =
    let k = g.K.Keeper in
    why_ruled c.ruled.result (k.faults c.args.keeper.now) (k.faults c.load.new.keeper) (k.content c.args.keeper.now) (k.content c.barrier.new.keeper)
    (tables_of c.in-Ok-load.rows) c.in-Ok.ensures.content c.in-Ok-load.ensures.rows
    (c.ruled.ensures.refused (k.faults c.args.keeper.now) (k.faults c.load.new.keeper))
