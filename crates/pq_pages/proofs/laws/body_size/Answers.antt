use Rattle.pq_pages.proofs.ChunkBackLemmas.{body_at_most}
use Rattle.pq_pages.proofs.laws.body_size.Goals as goal

pub returns : goal.returns
returns c = body_at_most c.sizes.ensures.levels c.sizes.ensures.values
