use Rattle.commit_laws.proofs.CoreLemmas.{versions-go_on}
use Rattle.commit_laws.proofs.stands.versions_go_on.Goals as goal

pub returns : goal.returns
returns c = versions-go_on
