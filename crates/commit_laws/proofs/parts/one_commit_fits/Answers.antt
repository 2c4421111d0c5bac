use Rattle.commit_laws.proofs.ExampleLemmas.{one_commit-fits}
use Rattle.commit_laws.proofs.parts.one_commit_fits.Goals as goal

pub returns : goal.returns
returns c = one_commit-fits
