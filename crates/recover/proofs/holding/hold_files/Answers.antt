use Rattle.cat_rows.specs.Batches.{tables_of}
use Rattle.cat_view.specs.Held.{held_in}
use Rattle.recover.proofs.HoldLemmas.{holds_all, why_data, why_delete}
use Rattle.recover.proofs.holding.hold_files.Goals as goal

pub returns-in-Err-clause-refused : goal.returns-in-Err-clause-refused
returns-in-Err-clause-refused g c =
    let h = g.D.File.Held in
    let d = g.D.FileDisk in
    why_data h.name h.size h.bytes (tables_of c.args.rows.now) c.data_file.result.now c.data_file.ensures.rows
    (d.faults c.args.disk.now) (d.faults c.hold_data_files.new.disk) (d.files c.args.disk.now) c.in-Err.why c.in-Err.ensures.refused

pub returns-in-Ok-hold_delete_files-clause-named : goal.returns-in-Ok-hold_delete_files-clause-named
returns-in-Ok-hold_delete_files-clause-named g c =
    let h = g.D.File.Held in
    let d = g.D.FileDisk in
    (holds_all h.name h.size h.bytes (tables_of c.args.rows.now) c.data_file.result.now c.data_file.ensures.rows
    c.delete_file.result.now c.delete_file.ensures.rows (d.files c.args.disk.now) (d.files c.hold_data_files.new.disk) c.in-Ok.ensures.files
    (held_in c.new-held.result).rows (held_in c.hold_data_files.new.held).rows c.in-Ok.ensures.holds
    (d.files c.hold_delete_files.new.disk) (held_in c.hold_delete_files.new.held).rows c.in-Ok-hold_delete_files.ensures.holds).held

pub returns-in-Err-hold_delete_files-clause-refused : goal.returns-in-Err-hold_delete_files-clause-refused
returns-in-Err-hold_delete_files-clause-refused g c =
    let h = g.D.File.Held in
    let d = g.D.FileDisk in
    why_delete h.name h.size h.bytes (tables_of c.args.rows.now) c.data_file.result.now c.data_file.ensures.rows
    c.delete_file.result.now c.delete_file.ensures.rows (d.files c.args.disk.now) (d.files c.hold_data_files.new.disk) c.in-Ok.ensures.files
    (held_in c.new-held.result).rows (held_in c.hold_data_files.new.held).rows c.in-Ok.ensures.holds
    (d.faults c.args.disk.now) (d.faults c.hold_data_files.new.disk) (d.faults c.hold_delete_files.new.disk) c.in-Err-hold_delete_files.why
    c.in-Ok.ensures.later c.in-Err-hold_delete_files.ensures.refused
