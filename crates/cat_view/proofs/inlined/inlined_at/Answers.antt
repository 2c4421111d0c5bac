use Rattle.cat_view.specs.Inlined.{SpellsCells}
use Rattle.cat_view.proofs.PlaceLemmas.{row_has}
use Rattle.cat_view.proofs.inlined.inlined_at.Goals as goal

pub add_inlined-requires : goal.add_inlined-requires
add_inlined-requires c = row_has SpellsCells c.args.rows.now c.args.places.now c.loop-at.at _ c.row_at.ensures.left c.requires
