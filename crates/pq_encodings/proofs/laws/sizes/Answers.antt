use Rattle.pq_encodings.proofs.SizeLemmas.{level_bytes-size, value_bytes-size}
use Rattle.pq_encodings.proofs.laws.sizes.Goals as goal

pub returns-clause-levels : goal.returns-clause-levels
returns-clause-levels c = level_bytes-size

pub returns-clause-values : goal.returns-clause-values
returns-clause-values c = value_bytes-size
