use Rattle.row_files.proofs.LeftLemmas.{delete_damaged}
use Rattle.row_files.proofs.reading.read_live.Goals as goal

pub returns-in-Some-clause-damaged : goal.returns-in-Some-clause-damaged
returns-in-Some-clause-damaged g c =
    delete_damaged g.D.File.Held.name g.D.File.Held.part g.D.File.Held.bytes
    (g.D.FileDisk.part c.args.disk.now) (g.D.FileDisk.part c.read_data.new.disk) c.args.file.now c.args.columns.now c.in-Some.deletes _
    c.in-Some.is c.in-Ok.ensures.part c.in-Ok.ensures.rows
    (g.D.FileDisk.files c.args.disk.now) (g.D.FileDisk.files c.read_data.new.disk) c.without_deleted.result
    c.in-Ok.ensures.files c.in-Ok.ensures.there c.without_deleted.ensures.damaged c.without_deleted.ensures.named
