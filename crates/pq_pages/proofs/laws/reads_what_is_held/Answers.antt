use Rattle.pq_pages.proofs.HoldingLemmas.{held_both}
use Rattle.pq_pages.proofs.laws.reads_what_is_held.Goals as goal

pub returns : goal.returns
returns c = held_both c.reads_as_asked.ensures.levels c.reads_as_asked.ensures.values
