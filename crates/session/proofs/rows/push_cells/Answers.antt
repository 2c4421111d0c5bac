use Rattle.std.proofs.Common.{◌∙◌, ◌≡◌, ◌++◌, ap, arith, rules}
use Rattle.std.specs.String.{string_bytes}
use Rattle.session.specs.Shown.{cell_text}
use Rattle.session.proofs.ShownLemmas.{cells_step}
use Rattle.session.proofs.rows.push_cells.Goals as goal

pub loop-cell-preserved : goal.loop-cell-preserved
loop-cell-preserved c =
    let grown : string_bytes c.push_literal.new.text ≡ (string_bytes c.loop-cell.text ++ c.loop-cell.before.now) ++ cell_text c.cell-item.result =
    c.in_ok-push_literal.ensures ∙ ap (λ t. t ++ cell_text c.cell-item.result) c.in_ok-push_str.ensures.bytes in
    record {
      text = cells_step (string_bytes c.loop-cell.text) _ c.loop-cell.before.now _ c.args.cells.now c.loop-cell.cell-index c.cell-item.result (omega arith) c.cell-item.is grown c.loop-cell.invariant.text;
      utf8 = search rules;
    }
