use Rattle.lake_model.proofs.LayLemmas.{lays_once}
use Rattle.lake_model.proofs.laws.rows_are_laid_once.Goals as goal

pub returns : goal.returns
returns c = lays_once
