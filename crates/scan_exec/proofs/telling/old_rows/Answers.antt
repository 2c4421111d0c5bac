use Rattle.std.proofs.Common.{ap, sym, ◌∙◌, subst}
use Rattle.std.specs.Prelude.{IfSome}
use Rattle.std.specs.Option.{option_copied}
use Rattle.cat_view.specs.Named.{ordered}
use Rattle.row_files.specs.Folders.{files_of}
use Rattle.scan_exec.specs.Aims.{rows_before as rows_of_old}
use Rattle.scan_exec.specs.Picking.{id_of, short_rows}
use Rattle.scan_exec.specs.Telling.{TellFiles}
use Rattle.scan_exec.proofs.ScanLemmas.{table_told}
use Rattle.scan_exec.proofs.telling.old_rows.Goals as goal

pub returns-in-Ok-in_order-clause-rows : goal.returns-in-Ok-in_order-clause-rows
returns-in-Ok-in_order-clause-rows g c = λ folder tells.
    let bound = c.args.choice.now.bound in
    let fields = c.args.choice.now.fields.items in
    c.in-Ok-in_order.ensures
    ∙ ap (ordered id_of) (c.in-Ok.ensures.rows folder (subst (λ o. IfSome (option_copied o) (λ x. TellFiles g.D.File.Held.name g.D.File.Held.bytes folder x.files.items)) c.in-Some.is tells))
    ∙ rw c.as_slice.ensures (table_told g.D.File.Held.name folder bound fields c.in-Some.table.now
    ∙ ap (λ o. short_rows bound fields (rows_of_old g.D.File.Held.name (files_of folder) (option_copied o))) (sym c.in-Some.is))
