use Rattle.cat_growth.proofs.HeadLemmas.{free-tables_stay}
use Rattle.cat_growth.proofs.laws.free_tables_stay.Goals as goal

pub returns : goal.returns
returns c = free-tables_stay
