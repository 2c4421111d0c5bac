use Rattle.std.proofs.Common.{ap, ◌∙◌}
use Rattle.row_files.specs.Folders.{sheet_in}
use Rattle.row_files.specs.Own.{laid_rows}
use Rattle.row_files.proofs.FileLemmas.{adds_rows}
use Rattle.row_files.proofs.fresh.stage_rows.Goals as goal

pub returns-in-Ok-write_new-clause-files : goal.returns-in-Ok-write_new-clause-files
returns-in-Ok-write_new-clause-files g c =
    let e = c.in-Ok-write_new.ensures in
    adds_rows c.args.columns.now (laid_rows c.args.columns.now c.args.own.now c.args.places.now) _ (g.D.File.Held.bytes c.in-Ok-write_new.file) c.as_slice.result.now (g.D.FileDisk.images c.write_new.new.disk)
    (g.D.FileDisk.files c.args.disk.now) (g.D.FileDisk.files c.write_new.new.disk) _ _ c.requires.columns c.requires.rows c.in-Ok.ensures.bytes
    (ap sheet_in c.as_slice.ensures.value ∙ c.in-Ok.ensures.sheet) e.name c.in-Ok.ensures.rows c.in-Ok.ensures.weight c.in-Ok.ensures.stats e.bytes e.size e.durable e.files
