use Rattle.lake_model.proofs.KindLemmas.{kinds-order}
use Rattle.lake_model.proofs.laws.kinds_stand_in_order.Goals as goal

pub returns : goal.returns
returns c = kinds-order
