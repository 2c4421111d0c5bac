use Rattle.cat_rows.specs.Batches.{tables_of}
use Rattle.cat_view.specs.Held.{held_in}
use Rattle.cat_core.specs.Shown.{shown}
use Rattle.lake_top.proofs.OpeningLemmas.{core_stands, kept_still}
use Rattle.lake_top.proofs.opening.open_lake.Goals as goal

pub returns-in-Err-hold_files-clause-kept : goal.returns-in-Err-hold_files-clause-kept
returns-in-Err-hold_files-clause-kept g c =
    let k = g.K.Keeper in
    let d = g.D.FileDisk in
    kept_still _ (k.content c.args.keeper) (k.content c.open_rows.new.keeper) (d.files c.args.disk.now) (d.files c.hold_files.new.disk) c.open_rows.ensures.kept c.hold_files.ensures.files

pub returns-in-Ok-new-clause-stands : goal.returns-in-Ok-new-clause-stands
returns-in-Ok-new-clause-stands g c =
    let h = g.D.File.Held in
    let d = g.D.FileDisk in
    core_stands h.name h.size h.bytes _ (g.K.Keeper.content c.args.keeper) (tables_of c.in-Ok.rows) (held_in c.in-Ok-hold_files.held).rows (shown h.name h.size h.bytes c.in-Ok-new.core) (d.files c.args.disk.now) (d.files c.hold_files.new.disk)
    c.hold_files.ensures.files c.in-Ok.ensures.opened c.in-Ok-hold_files.ensures.named c.in-Ok-hold_files.ensures.told c.in-Ok-new.ensures.stands

pub returns-in-Err-new-clause-kept : goal.returns-in-Err-new-clause-kept
returns-in-Err-new-clause-kept g c =
    let k = g.K.Keeper in
    let d = g.D.FileDisk in
    rw c.in-Err-new.ensures.back (kept_still _ (k.content c.args.keeper) (k.content c.open_rows.new.keeper) (d.files c.args.disk.now) (d.files c.hold_files.new.disk) c.open_rows.ensures.kept c.hold_files.ensures.files)
