use Rattle.stmt_tokens.proofs.StandLemmas.{token_stands}
use Rattle.stmt_tokens.proofs.laws.quoted_tokens_stand.Goals as goal

pub returns : goal.returns
returns c = token_stands
