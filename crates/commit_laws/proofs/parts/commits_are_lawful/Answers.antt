use Rattle.commit_laws.proofs.WholeLemmas.{are-lawful}
use Rattle.commit_laws.proofs.parts.commits_are_lawful.Goals as goal

pub returns : goal.returns
returns c = are-lawful
