use Rattle.std.proofs.Common.{◌≡◌, ◌≤◌, map, take}
use Rattle.indexmap.specs.IndexMap.{get}
use Rattle.lake_model.specs.Apply.{is_ref}
use Rattle.cat_view.specs.Views.{named_tables}
use Rattle.row_files.specs.Own.{fresh_job}
use Rattle.row_files.specs.Stages.{StagesTables}
use Rattle.row_files.proofs.tables.stage_jobs.Given as goal

-- the tables of the jobs so far are staged
abbrev pub invariant-loop-job : goal.invariant-loop-job
invariant-loop-job g l = let h = g.D.File.Held in let d = g.D.FileDisk in record {
  staged : StagesTables h.name h.size h.bytes (map (fresh_job (named_tables h.name l.tables) l.own (get is_ref l.kept)) (take l.job-index l.jobs))
      (g.N.Names.drawn l.fn.names) (g.N.Names.drawn l.names) (d.files l.fn.disk) (d.files l.disk) (d.images l.fn.disk) (d.images l.disk) l.staged.items;
  later : d.faults l.fn.disk ≤ d.faults l.disk;
  opens : d.opens l.disk ≡ d.opens l.fn.disk;
  part : d.part l.disk ≡ d.part l.fn.disk;
}
