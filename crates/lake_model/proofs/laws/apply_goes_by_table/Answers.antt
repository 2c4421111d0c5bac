use Rattle.lake_model.proofs.ApplyLemmas.{by_table}
use Rattle.lake_model.proofs.laws.apply_goes_by_table.Goals as goal

pub returns : goal.returns
returns c = by_table
