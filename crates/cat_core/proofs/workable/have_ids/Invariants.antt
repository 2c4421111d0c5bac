use Rattle.std.proofs.Common.{length}
use Rattle.std.specs.Prelude.{◌↔◌}
use Rattle.cat_core.specs.Workable.{AreFilesWorkable}
use Rattle.cat_core.proofs.workable.have_ids.Given as goal

abbrev pub invariant-loop-rest : goal.invariant-loop-rest
invariant-loop-rest g l = AreFilesWorkable g.F.Held.name l.rest ↔ AreFilesWorkable g.F.Held.name l.files

abbrev pub decreases-loop-rest : goal.decreases-loop-rest
decreases-loop-rest g l = length l.rest
