use Rattle.commit_laws.proofs.HeadLemmas.{head-counted}
use Rattle.commit_laws.proofs.stands.head_is_counted.Goals as goal

pub returns : goal.returns
returns c = head-counted
