use Rattle.commit_laws.proofs.PlainLemmas.{next-is-plain, next-is-seen}
use Rattle.commit_laws.proofs.stands.next_is_seen.Goals as goal

pub returns-clause-version : goal.returns-clause-version
returns-clause-version c = next-is-seen

pub returns-clause-plain : goal.returns-clause-plain
returns-clause-plain c = next-is-plain
