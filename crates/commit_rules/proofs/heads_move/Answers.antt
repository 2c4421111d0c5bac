use Rattle.commit_rules.proofs.HeadLemmas.{head-moves, sane-settled}
use Rattle.commit_rules.proofs.heads_move.Goals as goal

pub returns-clause-settled : goal.returns-clause-settled
returns-clause-settled c = sane-settled

pub returns-clause-next : goal.returns-clause-next
returns-clause-next c = head-moves
