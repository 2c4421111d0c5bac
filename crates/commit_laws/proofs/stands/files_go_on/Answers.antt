use Rattle.commit_laws.proofs.NewFileLemmas.{files-go_on}
use Rattle.commit_laws.proofs.stands.files_go_on.Goals as goal

pub returns : goal.returns
returns c = files-go_on
