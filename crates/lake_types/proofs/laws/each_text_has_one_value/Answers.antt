use Rattle.lake_types.proofs.ValueLemmas.{one_value}
use Rattle.lake_types.proofs.laws.each_text_has_one_value.Goals as goal

pub returns : goal.returns
returns c = one_value
