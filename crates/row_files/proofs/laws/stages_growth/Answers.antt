use Rattle.row_files.proofs.GrowthLemmas.{stages_growth}
use Rattle.row_files.proofs.laws.stages_growth.Goals as goal

pub returns : goal.returns
returns c = stages_growth
