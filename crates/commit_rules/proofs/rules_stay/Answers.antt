use Rattle.commit_rules.proofs.WholeLemmas.{rules-stay}
use Rattle.commit_rules.proofs.rules_stay.Goals as goal

pub returns : goal.returns
returns c = rules-stay
