use Rattle.std.proofs.Common.{rules}
use Rattle.indexmap.specs.IndexMap.{get}
use Rattle.lake_model.specs.Apply.{is_ref}
use Rattle.row_files.proofs.JobLemmas.{old_more}
use Rattle.row_files.proofs.jobs.add_old.Goals as goal

pub loop-place-preserved : goal.loop-place-preserved
loop-place-preserved g c =
    old_more g.F.Held.name c.args.tables.now c.args.own.now (get is_ref c.args.kept.now) c.loop-place.place c.index-tables-place.result c.loop-place.jobs.items c.add_job.new.jobs.items _
    c.loop-place-test.true (search rules) (search rules) c.loop-place.invariant
