use Rattle.std.proofs.Common.{◌≡◌, length}
use Rattle.cat_rows.specs.Batches.{tables_of}
use Rattle.rebase.specs.Files.{files_in}
use Rattle.rebase.specs.Made.{creations_of}
use Rattle.rebase.specs.Spent as spec
use Rattle.rebase.proofs.spent.spent_rows.Given as goal

abbrev pub invariant-loop-rest : goal.invariant-loop-rest
invariant-loop-rest g l =
    spec.spent_rows (tables_of l.rows) l.next (creations_of l.made) (files_in g.F.Held.name g.F.Held.size l.rest)
    ≡ spec.spent_rows (tables_of l.rows) l.next (creations_of l.made) (files_in g.F.Held.name g.F.Held.size l.staged)

abbrev pub decreases-loop-rest : goal.decreases-loop-rest
decreases-loop-rest g l = length l.rest
