use Rattle.pq_file.proofs.HoldingLemmas.{reading_named}
use Rattle.pq_file.proofs.holding.reads_named.Goals as goal

pub returns : goal.returns
returns c = reading_named
