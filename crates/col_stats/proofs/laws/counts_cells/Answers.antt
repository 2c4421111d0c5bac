use Rattle.std.proofs.Common.{refl}
use Rattle.col_stats.proofs.laws.counts_cells.Goals as goal

pub returns : goal.returns
returns c = λ cells stats are. record { nulls = are.nulls; min = (stats.min, are.min, refl); max = (stats.max, are.max, refl) }
