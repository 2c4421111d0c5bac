use Rattle.pq_file.proofs.HoldingLemmas.{held_both}
use Rattle.pq_file.proofs.holding.reads_what_is_held.Goals as goal

pub returns : goal.returns
returns c = held_both (record { chunks = c.reads_what_is_held-2.ensures; footers = c.reads_what_is_held.ensures; consistent = c.reads_consistent.ensures })
