use Rattle.pq_file.proofs.BackLemmas.{law}
use Rattle.pq_file.proofs.laws.reads_back.Goals as goal

pub returns : goal.returns
returns c = law c.reads_back.ensures c.body_size.ensures c.reads_back-2.ensures
