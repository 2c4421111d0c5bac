use Rattle.txn_buf.proofs.ListLemmas.{kept_lists_fit}
use Rattle.txn_buf.proofs.laws.kept_lists_fit.Goals as goal

pub returns : goal.returns
returns c = kept_lists_fit
