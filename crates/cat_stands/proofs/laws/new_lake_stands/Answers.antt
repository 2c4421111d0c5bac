use Rattle.cat_stands.proofs.NewLemmas.{empty-stands, new_lake-stands}
use Rattle.cat_stands.proofs.laws.new_lake_stands.Goals as goal

pub returns-clause-empty : goal.returns-clause-empty
returns-clause-empty c = empty-stands

pub returns-clause-new : goal.returns-clause-new
returns-clause-new c = new_lake-stands
