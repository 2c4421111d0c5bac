use Rattle.txn_buf.proofs.ListLemmas.{states_are_bases}
use Rattle.txn_buf.proofs.laws.states_are_bases.Goals as goal

pub returns : goal.returns
returns c = states_are_bases
