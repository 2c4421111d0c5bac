use Rattle.stmt_tokens.proofs.CutLemmas.{cut_spelled}
use Rattle.stmt_tokens.proofs.laws.spelled_tokens_are_cut_again.Goals as goal

pub returns : goal.returns
returns c = cut_spelled
