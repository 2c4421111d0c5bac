use Rattle.pq_pages.proofs.ChunkBackLemmas.{chunk_back}
use Rattle.pq_pages.proofs.laws.reads_back.Goals as goal

pub returns : goal.returns
returns c = chunk_back c.reads_back.ensures.i32 c.reads_back-2.ensures.levels c.reads_back-2.ensures.values
