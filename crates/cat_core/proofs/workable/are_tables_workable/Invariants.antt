use Rattle.std.proofs.Common.{length}
use Rattle.std.specs.Prelude.{◌↔◌}
use Rattle.std.specs.List.{AllByRecursion}
use Rattle.cat_view.specs.Views.{named_tables}
use Rattle.cat_core.specs.Workable.{IsTableWorkable}
use Rattle.cat_core.proofs.workable.are_tables_workable.Given as goal

abbrev pub invariant-loop-rest : goal.invariant-loop-rest
invariant-loop-rest g l = AllByRecursion IsTableWorkable (named_tables g.F.Held.name l.rest) ↔ AllByRecursion IsTableWorkable (named_tables g.F.Held.name l.tables)

abbrev pub decreases-loop-rest : goal.decreases-loop-rest
decreases-loop-rest g l = length l.rest
