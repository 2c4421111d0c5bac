use Rattle.std.proofs.Common.{length}
use Rattle.std.specs.Prelude.{◌↔◌, None}
use Rattle.cat_view.specs.Views.{named_tables}
use Rattle.cat_core.specs.Workable.{RisesPast}
use Rattle.cat_core.proofs.workable.do_ids_rise.Given as goal

abbrev pub invariant-loop-rest : goal.invariant-loop-rest
invariant-loop-rest g l = RisesPast l.last (named_tables g.F.Held.name l.rest) ↔ RisesPast None (named_tables g.F.Held.name l.tables)

abbrev pub decreases-loop-rest : goal.decreases-loop-rest
decreases-loop-rest g l = length l.rest
