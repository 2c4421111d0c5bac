use Rattle.lake_model.proofs.IdLemmas.{row_ids_rise}
use Rattle.lake_model.proofs.laws.row_ids_rise.Goals as goal

pub returns : goal.returns
returns c = row_ids_rise
