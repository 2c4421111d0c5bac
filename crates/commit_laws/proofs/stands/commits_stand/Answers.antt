use Rattle.commit_laws.proofs.StandWholeLemmas.{commits-stand}
use Rattle.commit_laws.proofs.stands.commits_stand.Goals as goal

pub returns : goal.returns
returns c = commits-stand
