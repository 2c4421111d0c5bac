use Rattle.pq_pages.proofs.FitLemmas.{chunk_fits}
use Rattle.pq_pages.proofs.laws.reads_as_said.Goals as goal

pub returns : goal.returns
returns c = chunk_fits c.reads_as_asked.ensures.levels c.reads_as_asked.ensures.indices c.reads_as_asked.ensures.values
