use Rattle.std.specs.Option.{option_copied}
use Rattle.lake_model.specs.Apply.{worked}
use Rattle.cat_view.specs.Named.{state_of}
use Rattle.cat_view.specs.Views.{named_view}
use Rattle.row_files.specs.Folders.{files_of}
use Rattle.scan_exec.specs.Damage.{IsDamagedIn}
use Rattle.session.proofs.ReplyLemmas.{fault_damage, fault_numberless, fault_selected, rows_selected}
use Rattle.session.proofs.select.selected.Goals as goal

pub returns-in-Ok-clause-selected : goal.returns-in-Ok-clause-selected
returns-in-Ok-clause-selected g c = λ folder next tells.
    rows_selected (worked (state_of (files_of folder) next (named_view g.D.File.Held.name c.args.view.now)) c.args.txn.now.own) c.args.table.now c.args.items.now (option_copied c.args.test)
    c.in-Ok.scan c.told_rows.result c.told_rows.ensures (c.in-Ok.ensures.accepted (files_of folder) next) (c.in-Ok.ensures.told folder next tells)

pub returns-in-Err-clause-selected : goal.returns-in-Err-clause-selected
returns-in-Err-clause-selected g c = λ folder next tells.
    fault_selected (worked (state_of (files_of folder) next (named_view g.D.File.Held.name c.args.view.now)) c.args.txn.now.own) c.args.table.now c.args.items.now (option_copied c.args.test)
    c.in-Err.why c.told_fault.result c.told_fault.ensures (λ other. c.in-Err.ensures.refused other (files_of folder) next)

pub returns-in-Err-clause-damaged : goal.returns-in-Err-clause-damaged
returns-in-Err-clause-damaged g c =
    let h = g.D.File.Held in
    fault_damage (IsDamagedIn h.name h.part h.bytes (g.D.FileDisk.part c.args.disk.now) (g.D.FileDisk.files c.args.disk.now) c.args.view.now c.args.txn.now.own c.args.table.now)
    c.args.table.now c.in-Err.why c.told_fault.result c.told_fault.ensures c.in-Err.ensures.damaged

pub returns-in-Err-clause-whole : goal.returns-in-Err-clause-whole
returns-in-Err-clause-whole g c = λ n e. absurd (fault_numberless c.args.table.now c.in-Err.why c.told_fault.result c.told_fault.ensures n e)
