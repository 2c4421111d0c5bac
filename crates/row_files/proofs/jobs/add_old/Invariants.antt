use Rattle.std.proofs.Common.{◌≡◌, ◌++◌, drop}
use Rattle.indexmap.specs.IndexMap.{get}
use Rattle.lake_model.specs.Apply.{is_ref}
use Rattle.cat_view.specs.Views.{named_tables}
use Rattle.row_files.specs.Own.{old_jobs}
use Rattle.row_files.proofs.jobs.add_old.Given as goal

abbrev pub invariant-loop-place : goal.invariant-loop-place
invariant-loop-place g l =
    l.jobs.items ++ old_jobs l.own (get is_ref l.kept) l.place (drop l.place (named_tables g.F.Held.name l.tables))
    ≡ l.fn.jobs.items ++ old_jobs l.own (get is_ref l.kept) 0 (named_tables g.F.Held.name l.tables)
