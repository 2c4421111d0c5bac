use Rattle.commit_laws.proofs.FreeLemmas.{free_commits-stand}
use Rattle.commit_laws.proofs.stands.free_commits_stand.Goals as goal

pub returns : goal.returns
returns c = free_commits-stand
