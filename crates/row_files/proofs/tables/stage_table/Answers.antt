use Rattle.row_files.specs.Own.{fresh_at}
use Rattle.row_files.proofs.StageLemmas.{more_of, wrote_at_most}
use Rattle.row_files.proofs.tables.stage_table.Goals as goal

pub returns-clause-staged : goal.returns-clause-staged
returns-clause-staged g c =
    let h = g.D.File.Held in
    let e = c.in-Ok.ensures in
    more_of c.add_fresh.result h.name h.size h.bytes (fresh_at c.args.table c.args.columns.now c.args.own.now c.args.places.now) c.in-Ok.file _ _ _ _ _ _ _ _ e.name e.files e.images
    c.add_fresh.ensures.added

pub returns-clause-wrote : goal.returns-clause-wrote
returns-clause-wrote g c = wrote_at_most _ _ _ _ _ _ c.in-Ok.ensures.wrote
