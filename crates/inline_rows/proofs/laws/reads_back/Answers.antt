use Rattle.inline_rows.proofs.BackLemmas.{reads_back}
use Rattle.inline_rows.proofs.laws.reads_back.Goals as goal

pub returns : goal.returns
returns c = reads_back
