use Rattle.cat_stands.proofs.EarlierLemmas.{kept-stay, states-stay, versions-stay}
use Rattle.cat_stands.proofs.laws.earlier_versions_stay.Goals as goal

pub returns-clause-versions : goal.returns-clause-versions
returns-clause-versions c = versions-stay

pub returns-clause-states : goal.returns-clause-states
returns-clause-states c = states-stay

pub returns-clause-kept : goal.returns-clause-kept
returns-clause-kept c = kept-stay
