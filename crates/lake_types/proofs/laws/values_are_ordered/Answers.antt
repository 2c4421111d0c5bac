use Rattle.lake_types.proofs.ValueLemmas.{flips, transitive, only_equals_tie}
use Rattle.lake_types.proofs.laws.values_are_ordered.Goals as goal

pub returns : goal.returns
returns c = record { flips = flips; transitive = transitive; ties = only_equals_tie }
