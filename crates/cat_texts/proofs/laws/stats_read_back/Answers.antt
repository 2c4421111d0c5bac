use Rattle.cat_texts.proofs.RowLemmas.{bounds_can, stats_back}
use Rattle.cat_texts.proofs.laws.stats_read_back.Goals as goal

pub returns : goal.returns
returns c = record { back = stats_back; counted = bounds_can }
