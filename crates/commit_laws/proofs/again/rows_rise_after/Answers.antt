use Rattle.commit_laws.proofs.RiseLemmas.{rows-rise}
use Rattle.commit_laws.proofs.again.rows_rise_after.Goals as goal

pub returns : goal.returns
returns c = rows-rise
