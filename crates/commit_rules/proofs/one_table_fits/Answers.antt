use Rattle.commit_rules.proofs.ExampleLemmas.{one_table-fits}
use Rattle.commit_rules.proofs.one_table_fits.Goals as goal

pub returns : goal.returns
returns c = one_table-fits
