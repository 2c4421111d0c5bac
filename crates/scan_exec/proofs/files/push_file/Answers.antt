use Rattle.std.proofs.Common.{◌++◌, ap, ◌∙◌}
use Rattle.scan_exec.specs.Picking.{short_rows}
use Rattle.scan_exec.proofs.TellLemmas.{live_told}
use Rattle.scan_exec.proofs.files.push_file.Goals as goal

pub returns-in-Ok-push_sheet-clause-rows : goal.returns-in-Ok-push_sheet-clause-rows
returns-in-Ok-push_sheet-clause-rows g c = λ folder t. c.in-Ok-push_sheet.ensures
    ∙ ap (λ l. c.args.rows.now ++ short_rows c.args.choice.now.bound c.args.choice.now.fields.items l)
    (live_told g.D.File.Held.name g.D.File.Held.bytes folder c.args.file.now c.args.columns.now c.in-Ok.sheet t c.in-Ok.ensures.rows)
