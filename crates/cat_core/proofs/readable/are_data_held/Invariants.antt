use Rattle.std.proofs.Common.{length}
use Rattle.std.specs.Prelude.{◌↔◌}
use Rattle.std.specs.List.{AllByRecursion}
use Rattle.cat_tables.specs.Validity.{visible_at}
use Rattle.cat_rows.specs.Batches.{tables_of}
use Rattle.cat_rows.specs.Seen.{seen_at}
use Rattle.cat_rows.specs.Validities.{data_file_validity}
use Rattle.cat_view.specs.Held.{held_in}
use Rattle.cat_core.specs.Readable.{IsDataHeld}
use Rattle.cat_core.proofs.readable.are_data_held.Given as goal

abbrev pub invariant-loop-rest : goal.invariant-loop-rest
invariant-loop-rest g l =
    AllByRecursion (IsDataHeld g.F.Held.name (held_in l.held).rows) (visible_at data_file_validity l.snapshot l.rest)
    ↔ AllByRecursion (IsDataHeld g.F.Held.name (held_in l.held).rows) (seen_at l.snapshot (tables_of l.rows)).data_file

abbrev pub decreases-loop-rest : goal.decreases-loop-rest
decreases-loop-rest g l = length l.rest
