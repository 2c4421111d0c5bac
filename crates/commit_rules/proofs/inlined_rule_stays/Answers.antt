use Rattle.commit_rules.proofs.InlinedLemmas.{inlined-stay}
use Rattle.commit_rules.proofs.inlined_rule_stays.Goals as goal

pub returns : goal.returns
returns c = inlined-stay
