use Rattle.commit_rules.proofs.CounterLemmas.{ids-stay}
use Rattle.commit_rules.proofs.HistoryLemmas.{history-stays, layout-stays}
use Rattle.commit_rules.proofs.IntervalLemmas.{intervals-stay}
use Rattle.commit_rules.proofs.history_stays.Goals as goal

pub returns-clause-layout : goal.returns-clause-layout
returns-clause-layout c = layout-stays

pub returns-clause-history : goal.returns-clause-history
returns-clause-history c = history-stays

pub returns-clause-intervals : goal.returns-clause-intervals
returns-clause-intervals c = intervals-stay

pub returns-clause-ids : goal.returns-clause-ids
returns-clause-ids c = ids-stay
