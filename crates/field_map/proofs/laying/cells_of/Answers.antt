use Rattle.std.proofs.Common.{rules, ◌<◌, length, None, arith}
use Rattle.field_map.proofs.LayLemmas.{cell_turn, same_length}
use Rattle.field_map.proofs.laying.cells_of.Goals as goal

pub loop-at-preserved : goal.loop-at-preserved
loop-at-preserved c =
    let within : c.loop-at.at < length c.args.places.now = omega (arith, same_length c.args.sheet.now c.args.columns.now c.args.places.now c.requires, c.loop-at-test.true) in
    let turn = cell_turn c.args.sheet.now c.args.columns.now c.args.places.now c.args.row c.loop-at.at c.index-columns-at.result None c.loop-at.cells c.requires c.loop-at-test.true within c.index-columns-at.is c.loop-at.invariant in
    grind (rules, turn)
