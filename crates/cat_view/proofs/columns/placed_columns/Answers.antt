use Rattle.std.proofs.Common.{◌-◌}
use Rattle.cat_view.specs.Columns.{SpellsColumn}
use Rattle.cat_view.proofs.PlaceLemmas.{row_has}
use Rattle.cat_view.proofs.columns.placed_columns.Goals as goal

pub add_column-requires : goal.add_column-requires
add_column-requires c = row_has SpellsColumn c.args.rows.now c.args.places.now (c.loop-at.at - 1) _ c.row_at.ensures.left c.requires
