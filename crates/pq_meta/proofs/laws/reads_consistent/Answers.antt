use Rattle.pq_meta.proofs.ConsistencyLemmas.{footer_consistent}
use Rattle.pq_meta.proofs.laws.reads_consistent.Goals as goal

pub returns : goal.returns
returns c = footer_consistent
