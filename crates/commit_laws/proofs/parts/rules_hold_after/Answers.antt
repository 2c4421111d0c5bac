use Rattle.commit_laws.proofs.WholeLemmas.{rules-hold}
use Rattle.commit_laws.proofs.parts.rules_hold_after.Goals as goal

pub returns : goal.returns
returns c = rules-hold
