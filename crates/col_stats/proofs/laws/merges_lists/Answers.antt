use Rattle.col_stats.proofs.BoundLemmas.{merges_lists}
use Rattle.col_stats.proofs.laws.merges_lists.Goals as goal

pub returns : goal.returns
returns c = merges_lists
