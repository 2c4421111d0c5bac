use Rattle.cat_view.proofs.PlaceLemmas.{left_none, left_row, so_far_none, so_far_row}
use Rattle.cat_view.proofs.groups.row_at.Goals as goal

pub returns-then-place-rows-clause-left : goal.returns-then-place-rows-clause-left
returns-then-place-rows-clause-left g c =
    left_row c.args.rows.now c.args.places.now c.args.at 0 c.requires c.index-rows-place.result c.if-place-rows.true c.index-rows-place.is

pub returns-then-place-rows-clause-so_far : goal.returns-then-place-rows-clause-so_far
returns-then-place-rows-clause-so_far g c =
    so_far_row c.args.rows.now c.args.places.now c.args.at 0 c.requires c.index-rows-place.result c.if-place-rows.true c.index-rows-place.is

pub returns-else-place-rows-clause-left : goal.returns-else-place-rows-clause-left
returns-else-place-rows-clause-left g c =
    left_none c.args.rows.now c.args.places.now c.args.at 0 c.requires c.if-place-rows.false

pub returns-else-place-rows-clause-so_far : goal.returns-else-place-rows-clause-so_far
returns-else-place-rows-clause-so_far g c =
    so_far_none c.args.rows.now c.args.places.now c.args.at 0 c.requires c.if-place-rows.false
