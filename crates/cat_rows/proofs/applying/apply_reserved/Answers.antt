use Rattle.cat_rows.proofs.EarlierLemmas.{KeepsEarlier-applied}
use Rattle.cat_rows.proofs.applying.apply_reserved.Goals as goal

pub returns-clause-earlier : goal.returns-clause-earlier
returns-clause-earlier c = KeepsEarlier-applied _ _ _ c.apply_in_room.ensures
