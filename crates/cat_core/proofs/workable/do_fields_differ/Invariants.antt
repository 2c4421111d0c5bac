use Rattle.std.proofs.Common.{length}
use Rattle.std.specs.Prelude.{◌↔◌}
use Rattle.cat_tables.specs.Table.{IsAscending}
use Rattle.cat_view.specs.Workable.{HasOtherField}
use Rattle.cat_core.proofs.workable.do_fields_differ.Given as goal

abbrev pub invariant-loop-rest : goal.invariant-loop-rest
invariant-loop-rest l = IsAscending HasOtherField l.rest ↔ IsAscending HasOtherField l.columns

abbrev pub decreases-loop-rest : goal.decreases-loop-rest
decreases-loop-rest l = length l.rest
