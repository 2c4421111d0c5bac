use Rattle.std.proofs.Common.{◌<◌, ◌++◌, ◌∷◌, [], List, length, take, ap, sym, ◌∙◌, arith}
use Rattle.std.proofs.lemmas.List.{take_more}
use Rattle.lake_types.specs.declared.value.Row.{Row}
use Rattle.sheet_rows.proofs.rows.SheetRows.to_rows.Goals as goal

pub loop-at-preserved : goal.loop-at-preserved
loop-at-preserved c =
    let row = c.in_ok-row.field-0 in
    let lt : c.loop-at.at < length c.args.self.now = omega (arith, c.len-at-end.ensures, c.loop-at-test.true) in
    c.in_ok-push.ensures.ok ∙ ap (λ (rs : List Row). rs ++ row ∷ []) c.loop-at.invariant
    ∙ ap (λ (r : Row). take c.loop-at.at c.args.self.now ++ r ∷ []) (c.in_ok-row.ensures row) ∙ sym (take_more c.args.self.now c.loop-at.at row lt)
