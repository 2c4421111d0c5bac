use Rattle.commit_laws.proofs.CountedLemmas.{counts-go_on}
use Rattle.commit_laws.proofs.StandCounterLemmas.{counters-go_on}
use Rattle.commit_laws.proofs.stands.counts_go_on.Goals as goal

pub returns-clause-counters : goal.returns-clause-counters
returns-clause-counters c = counters-go_on

pub returns-clause-counts : goal.returns-clause-counts
returns-clause-counts c = counts-go_on
