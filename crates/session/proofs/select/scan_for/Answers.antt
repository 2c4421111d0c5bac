use Rattle.std.proofs.Common.{◌≡◌, ◌≢◌, ℕ, List, subst}
use Rattle.std.specs.Prelude.{IfErr, IfOk, None, OnOk, Option}
use Rattle.std.specs.Option.{option_copied}
use Rattle.lake_model.specs.Apply.{worked}
use Rattle.file_disk.specs.Folder.{Folder}
use Rattle.cat_view.specs.Files.{Files}
use Rattle.cat_view.specs.Named.{state_of}
use Rattle.cat_view.specs.Views.{named_view}
use Rattle.row_files.specs.Folders.{files_of}
use Rattle.scan_exec.specs.Refusals.{refusal, told}
use Rattle.scan_exec.specs.Scans.{IsScanOf}
use Rattle.scan_exec.specs.Telling.{TellsView}
use Rattle.scan_exec.specs.declared.fault.ScanFault.TheVariants.{Memory}
use Rattle.session.proofs.select.scan_for.Goals as goal

pub returns-in-Ok-clause-told : goal.returns-in-Ok-clause-told
returns-in-Ok-clause-told g c =
    subst (λ (names : Option (List (List ℕ))). IfOk c.scan.result (λ scan. (folder : Folder) → (next : ℕ) → TellsView g.D.File.Held.name g.D.File.Held.bytes folder c.args.view.now
    → IsScanOf (worked (state_of (files_of folder) next (named_view g.D.File.Held.name c.args.view.now)) c.args.txn.now.own) c.args.table.now names (option_copied c.args.test) scan))
    c.names_read.ensures c.scan.ensures.told

pub returns-in-Ok-clause-accepted : goal.returns-in-Ok-clause-accepted
returns-in-Ok-clause-accepted g c =
    subst (λ (names : Option (List (List ℕ))). OnOk c.scan.result ((files : Files) → (next : ℕ)
    → refusal (worked (state_of files next (named_view g.D.File.Held.name c.args.view.now)) c.args.txn.now.own) c.args.table.now names (option_copied c.args.test) ≡ None))
    c.names_read.ensures c.scan.ensures.accepted

pub returns-in-Ok-clause-refused : goal.returns-in-Ok-clause-refused
returns-in-Ok-clause-refused g c =
    subst (λ (names : Option (List (List ℕ))). IfErr c.scan.result (λ why. why ≢ Memory → (files : Files) → (next : ℕ)
    → refusal (worked (state_of files next (named_view g.D.File.Held.name c.args.view.now)) c.args.txn.now.own) c.args.table.now names (option_copied c.args.test) ≡ told c.args.table.now why))
    c.names_read.ensures c.scan.ensures.refused
