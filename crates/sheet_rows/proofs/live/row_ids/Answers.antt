use Rattle.std.proofs.Common.{Some, ap, sym, ◌∙◌}
use Rattle.sheet_rows.specs.Live.{laid_rows}
use Rattle.sheet_rows.proofs.LiveLemmas.{counted}
use Rattle.sheet_rows.proofs.live.row_ids.Goals as goal

pub returns-in-Some-clause-rows : goal.returns-in-Some-clause-rows
returns-in-Some-clause-rows c = λ columns.
    ap Some (counted c.in-Some.first columns c.args.sheet.now c.requires.cells) ∙ sym (ap (λ o. laid_rows o columns c.args.sheet.now) c.in-Some.is)
