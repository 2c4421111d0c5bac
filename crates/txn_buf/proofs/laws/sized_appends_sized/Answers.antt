use Rattle.txn_buf.proofs.SizeLemmas.{sized_appends}
use Rattle.txn_buf.proofs.laws.sized_appends_sized.Goals as goal

pub returns : goal.returns
returns c = sized_appends
