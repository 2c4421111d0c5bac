use Rattle.std.proofs.Common.{◌∙◌, sym}
use Rattle.inline_rows.proofs.AllowedLemmas.{cells_decide}
use Rattle.inline_rows.proofs.allowed.cells_ok.Goals as goal

pub returns : goal.returns
returns c =
    let decided = cells_decide c.args.next_field c.args.cells.now in
    (λ e. decided.0 (sym c.are_allowed.ensures ∙ e), λ h. c.are_allowed.ensures ∙ decided.1 h)
