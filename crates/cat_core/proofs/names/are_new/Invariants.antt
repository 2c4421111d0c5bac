use Rattle.std.proofs.Common.{length}
use Rattle.std.specs.Prelude.{◌↔◌}
use Rattle.cat_rows.specs.Batches.{tables_of}
use Rattle.rebase.specs.Files.{files_in}
use Rattle.cat_core.specs.Commits.{AreNew}
use Rattle.cat_core.specs.Shown.{held_at}
use Rattle.cat_core.proofs.names.are_new.Given as goal

abbrev pub invariant-loop-rest : goal.invariant-loop-rest
invariant-loop-rest g l =
    AreNew (tables_of l.rows) (held_at g.F.Held.name g.F.Held.size g.F.Held.bytes l.held) (files_in g.F.Held.name g.F.Held.size l.rest)
    ↔ AreNew (tables_of l.rows) (held_at g.F.Held.name g.F.Held.size g.F.Held.bytes l.held) (files_in g.F.Held.name g.F.Held.size l.staged)

abbrev pub decreases-loop-rest : goal.decreases-loop-rest
decreases-loop-rest g l = length l.rest
