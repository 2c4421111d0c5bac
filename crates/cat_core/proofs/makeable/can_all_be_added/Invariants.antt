use Rattle.std.proofs.Common.{length}
use Rattle.std.specs.Prelude.{◌↔◌}
use Rattle.cat_rows.specs.Batches.{tables_of}
use Rattle.rebase.specs.Files.{files_in}
use Rattle.cat_core.specs.Makeable.{CanAllBeAdded}
use Rattle.cat_core.proofs.makeable.can_all_be_added.Given as goal

abbrev pub invariant-loop-rest : goal.invariant-loop-rest
invariant-loop-rest g l =
    CanAllBeAdded (tables_of l.rows) (files_in g.F.Held.name g.F.Held.size l.rest)
    ↔ CanAllBeAdded (tables_of l.rows) (files_in g.F.Held.name g.F.Held.size l.staged)

abbrev pub decreases-loop-rest : goal.decreases-loop-rest
decreases-loop-rest g l = length l.rest
