use Rattle.std.proofs.Common.{rules, ◌≡◌, ◌∙◌, ◌<◌, ◌==◌, refl, true, sym, ap, length, None, Some, arith}
use Rattle.lake_types.specs.declared.value.Value.{Value}
use Rattle.field_map.proofs.LayLemmas.{same_length}
use Rattle.field_map.specs.Steps.{cell}
use Rattle.sheet_rows.proofs.RowLemmas.{left_turn, value_is}
use Rattle.sheet_rows.proofs.rows.cell_in.Goals as goal

pub returns-then-column-field : goal.returns-then-column-field
returns-then-column-field c =
    let within : c.loop-at.at < length c.args.places.now = omega (arith, same_length c.args.sheet.now c.args.columns.now c.args.places.now c.requires, c.loop-at-test.true) in
    let is =
    value_is c.args.sheet.now c.args.columns.now c.args.places.now c.args.row c.loop-at.at c.index-columns-at.result None c.requires c.loop-at-test.true within c.index-columns-at.is in
    let told : c.value_at.result.now ≡ (cell c.args.sheet.now c.args.row c.index-columns-at.result).1 = grind (rules, is) in
    let turn = left_turn c.args.sheet.now c.args.columns.now c.args.row c.loop-at.at c.args.field c.index-columns-at.result c.loop-at-test.true c.index-columns-at.is in
    let hit : (c.index-columns-at.result.field == c.args.field) ≡ true = search rules in
    ap (λ (v : Value). Some v) told ∙ sym (c.loop-at.invariant ∙ turn ∙ rw hit refl)
