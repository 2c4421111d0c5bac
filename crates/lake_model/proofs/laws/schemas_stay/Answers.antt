use Rattle.lake_model.proofs.GrowthLemmas.{schemas_stay}
use Rattle.lake_model.proofs.laws.schemas_stay.Goals as goal

pub returns : goal.returns
returns c = schemas_stay
