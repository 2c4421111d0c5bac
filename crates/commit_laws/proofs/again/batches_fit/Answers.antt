use Rattle.commit_laws.proofs.FitLemmas.{batches-fit}
use Rattle.commit_laws.proofs.again.batches_fit.Goals as goal

pub returns : goal.returns
returns c = batches-fit
