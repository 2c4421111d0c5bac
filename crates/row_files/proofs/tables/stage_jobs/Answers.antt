use Rattle.std.proofs.Common.{refl, ◌∙◌, ap₂, arith, get_or, rules}
use Rattle.indexmap.specs.IndexMap.{get}
use Rattle.lake_model.specs.Apply.{is_ref}
use Rattle.lake_model.specs.declared.change.Ref.TheVariants as ref
use Rattle.cat_view.specs.Views.{named_tables}
use Rattle.row_files.specs.Own.{fresh_at, fresh_job}
use Rattle.row_files.proofs.StageLemmas.{all_jobs, can_job, next_job, stages_nothing, stages_wrote, stay_after, stay_before, taken_after, taken_more, wrote_after}
use Rattle.row_files.proofs.tables.stage_jobs.Goals as goal

pub loop-job-init : goal.loop-job-init
loop-job-init g c = let h = g.D.File.Held in record {
  staged = stages_nothing h.name h.size h.bytes (g.N.Names.drawn c.args.names.now) (g.D.FileDisk.files c.args.disk.now) (g.D.FileDisk.images c.args.disk.now) c.new-staged.result.items c.new-staged.ensures.items;
  later = omega arith;
  opens = refl;
  part = refl;
}

pub stage_table-requires : goal.stage_table-requires
stage_table-requires g c =
    can_job (fresh_job (named_tables g.D.File.Held.name c.args.tables.now) c.args.own.now (get is_ref c.args.kept.now)) c.args.jobs.now c.loop-job.job-index (record { table = ref.Old 0; place = 0 }) _
    c.loop-job-test.true (ap₂ (λ cs ps. fresh_at (get_or c.args.jobs.now c.loop-job.job-index (record { table = ref.Old 0; place = 0 })).table cs c.args.own.now ps) c.columns_of-columns.ensures c.places_of-places.ensures) c.requires

pub returns-in-Err-clause-taken : goal.returns-in-Err-clause-taken
returns-in-Err-clause-taken g c =
    let h = g.D.File.Held in
    taken_more c.in-Err.why _ _
    (λ n next. taken_after h.name h.size h.bytes _ _ _ _ _ _ _ _ c.loop-job.invariant.staged _ _ n next) c.in-Err.ensures.taken

pub returns-in-Err-clause-wrote : goal.returns-in-Err-clause-wrote
returns-in-Err-clause-wrote g c =
    let h = g.D.File.Held in
    wrote_after h.name h.size h.bytes _ _ _ _ _ _ _ _ c.loop-job.invariant.staged _ _ _ c.in-Err.ensures.wrote

pub returns-in-Err-clause-stays : goal.returns-in-Err-clause-stays
returns-in-Err-clause-stays g c = let h = g.D.File.Held in stay_after h.name h.size h.bytes _ _ _ _ _ _ _ _ c.loop-job.invariant.staged _ c.in-Err.ensures.stays

pub loop-job-preserved : goal.loop-job-preserved
loop-job-preserved g c = let h = g.D.File.Held in record {
  staged = next_job h.name h.size h.bytes (fresh_job (named_tables h.name c.args.tables.now) c.args.own.now (get is_ref c.args.kept.now)) c.args.jobs.now c.loop-job.job-index (record { table = ref.Old 0; place = 0 })
      _ _ _ _ _ _ _ _ _ _ _ _ c.loop-job-test.true (ap₂ (λ cs ps. fresh_at (get_or c.args.jobs.now c.loop-job.job-index (record { table = ref.Old 0; place = 0 })).table cs c.args.own.now ps) c.columns_of-columns.ensures c.places_of-places.ensures)
      c.loop-job.invariant.staged c.in-Ok.ensures.staged;
  later = omega (arith, c.loop-job.invariant.later, c.in-Ok.ensures.later);
  opens = c.in-Ok.ensures.opens ∙ c.loop-job.invariant.opens;
  part = c.in-Ok.ensures.part ∙ c.loop-job.invariant.part;
}

pub returns-clause-staged : goal.returns-clause-staged
returns-clause-staged g c =
    let h = g.D.File.Held in
    all_jobs h.name h.size h.bytes (fresh_job (named_tables h.name c.args.tables.now) c.args.own.now (get is_ref c.args.kept.now)) c.args.jobs.now c.loop-job.job-index _ _ _ _ _ _ _ (search rules)
    c.loop-job.invariant.staged

pub returns-clause-wrote : goal.returns-clause-wrote
returns-clause-wrote g c = let h = g.D.File.Held in stages_wrote h.name h.size h.bytes _ _ _ _ _ _ _ _ c.loop-job.invariant.staged

pub returns-clause-stays : goal.returns-clause-stays
returns-clause-stays g c = let h = g.D.File.Held in stay_before h.name h.size h.bytes _ _ _ _ _ _ _ _ c.loop-job.invariant.staged
