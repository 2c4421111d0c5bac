use Rattle.lake_model.proofs.FieldLemmas.{field_ids_rise}
use Rattle.lake_model.proofs.laws.field_ids_rise.Goals as goal

pub returns : goal.returns
returns c = field_ids_rise
