use Rattle.std.proofs.Common.{length}
use Rattle.std.specs.Prelude.{◌↔◌}
use Rattle.std.specs.List.{AllByRecursion}
use Rattle.cat_tables.specs.Validity.{visible_at}
use Rattle.cat_rows.specs.Batches.{tables_of}
use Rattle.cat_rows.specs.Seen.{seen_at}
use Rattle.cat_rows.specs.Validities.{delete_file_validity}
use Rattle.cat_view.specs.Held.{held_in}
use Rattle.cat_core.specs.Readable.{IsDeleteHeld}
use Rattle.cat_core.proofs.readable.are_deletes_held.Given as goal

abbrev pub invariant-loop-rest : goal.invariant-loop-rest
invariant-loop-rest g l =
    AllByRecursion (IsDeleteHeld g.F.Held.name (held_in l.held).rows) (visible_at delete_file_validity l.snapshot l.rest)
    ↔ AllByRecursion (IsDeleteHeld g.F.Held.name (held_in l.held).rows) (seen_at l.snapshot (tables_of l.rows)).delete_file

abbrev pub decreases-loop-rest : goal.decreases-loop-rest
decreases-loop-rest g l = length l.rest
