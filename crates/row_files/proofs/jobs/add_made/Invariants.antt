use Rattle.std.proofs.Common.{◌≡◌, ◌≤◌, ◌++◌, drop}
use Rattle.indexmap.specs.IndexMap.{get}
use Rattle.lake_model.specs.Apply.{is_ref}
use Rattle.row_files.specs.Own.{made_jobs}
use Rattle.row_files.proofs.jobs.add_made.Given as goal

abbrev pub invariant-loop-place : goal.invariant-loop-place
invariant-loop-place l = record {
  few : l.created ≤ l.place;
  made : l.jobs.items ++ made_jobs l.own (get is_ref l.kept) l.place l.created (drop l.place l.own)
      ≡ l.fn.jobs.items ++ made_jobs l.own (get is_ref l.kept) 0 0 l.own;
}
