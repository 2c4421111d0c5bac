use Rattle.std.proofs.Common.{All, [], subst, sym, ◌∙◌}
use Rattle.indexmap.specs.IndexMap.{get}
use Rattle.lake_model.specs.Apply.{is_ref}
use Rattle.cat_view.specs.Views.{named_tables, named_view}
use Rattle.row_files.specs.Stages.{CanBeStaged, StagesTables}
use Rattle.row_files.proofs.FitsLemmas.{all_fields, can_be_staged}
use Rattle.row_files.proofs.GrowingLemmas.{jobs_of_view}
use Rattle.row_files.proofs.JoinLemmas.{stands}
use Rattle.row_files.proofs.ToldLemmas.{stages_told, stages_typed}
use Rattle.row_files.proofs.tables.stage.Goals as goal

pub stage_jobs-requires : goal.stage_jobs-requires
stage_jobs-requires g c =
    let name = g.D.File.Held.name in
    subst (All CanBeStaged)
    (sym (jobs_of_view (named_view name c.args.view.now) (named_tables name c.tables-tables.result.now) c.args.txn.now.own c.as_slice-own.result.now (get is_ref c.in-Ok.kept) c.as_slice.result.now c.tables-tables.ensures
    c.as_slice-own.ensures (c.as_slice.ensures.value ∙ c.in-Ok-jobs_of.ensures) c.in-Ok.ensures c.requires.growth (all_fields c.requires.fits.0 [] c.args.txn.now.own c.requires.fits.2 c.requires.growth)))
    (can_be_staged (named_view name c.args.view.now) c.requires.fits.0 c.args.txn.now.own c.requires.growth c.requires.tables c.requires.fits.1 c.requires.fits.2)

pub returns-in-Ok-stage_jobs-clause-staged : goal.returns-in-Ok-stage_jobs-clause-staged
returns-in-Ok-stage_jobs-clause-staged g c =
    let h = g.D.File.Held in
    let d = g.D.FileDisk in
    subst (λ ts. StagesTables h.name h.size h.bytes ts (g.N.Names.drawn c.args.names.now) (g.N.Names.drawn c.stage_jobs.new.names) (d.files c.args.disk.now) (d.files c.stage_jobs.new.disk)
    (d.images c.args.disk.now) (d.images c.stage_jobs.new.disk) c.in-Ok-stage_jobs.staged.items)
    (jobs_of_view (named_view h.name c.args.view.now) (named_tables h.name c.tables-tables.result.now) c.args.txn.now.own c.as_slice-own.result.now (get is_ref c.in-Ok.kept) c.as_slice.result.now c.tables-tables.ensures
    c.as_slice-own.ensures (c.as_slice.ensures.value ∙ c.in-Ok-jobs_of.ensures) c.in-Ok.ensures c.requires.growth (all_fields c.requires.fits.0 [] c.args.txn.now.own c.requires.fits.2 c.requires.growth))
    c.in-Ok-stage_jobs.ensures.staged

pub returns-in-Ok-stage_jobs-clause-stands : goal.returns-in-Ok-stage_jobs-clause-stands
returns-in-Ok-stage_jobs-clause-stands g c =
    let h = g.D.File.Held in
    let d = g.D.FileDisk in
    stands h.name h.size h.bytes (named_view h.name c.args.view.now) c.args.txn.now.own (g.N.Names.drawn c.args.names.now) (g.N.Names.drawn c.stage_jobs.new.names) (d.files c.args.disk.now) (d.files c.stage_jobs.new.disk)
    (d.images c.args.disk.now) (d.images c.stage_jobs.new.disk) c.in-Ok-stage_jobs.staged.items c.requires.growth c.requires.tables.ids
    (subst (λ ts. StagesTables h.name h.size h.bytes ts (g.N.Names.drawn c.args.names.now) (g.N.Names.drawn c.stage_jobs.new.names) (d.files c.args.disk.now) (d.files c.stage_jobs.new.disk)
    (d.images c.args.disk.now) (d.images c.stage_jobs.new.disk) c.in-Ok-stage_jobs.staged.items)
    (jobs_of_view (named_view h.name c.args.view.now) (named_tables h.name c.tables-tables.result.now) c.args.txn.now.own c.as_slice-own.result.now (get is_ref c.in-Ok.kept) c.as_slice.result.now c.tables-tables.ensures
    c.as_slice-own.ensures (c.as_slice.ensures.value ∙ c.in-Ok-jobs_of.ensures) c.in-Ok.ensures c.requires.growth (all_fields c.requires.fits.0 [] c.args.txn.now.own c.requires.fits.2 c.requires.growth))
    c.in-Ok-stage_jobs.ensures.staged)

pub returns-in-Ok-stage_jobs-clause-typed : goal.returns-in-Ok-stage_jobs-clause-typed
returns-in-Ok-stage_jobs-clause-typed g c = let h = g.D.File.Held in stages_typed h.name h.size h.bytes _ _ _ _ _ _ _ _ c.in-Ok-stage_jobs.ensures.staged

pub returns-in-Ok-stage_jobs-clause-told : goal.returns-in-Ok-stage_jobs-clause-told
returns-in-Ok-stage_jobs-clause-told g c = let h = g.D.File.Held in stages_told h.name h.size h.bytes _ _ _ _ _ _ _ _ c.in-Ok-stage_jobs.ensures.staged
