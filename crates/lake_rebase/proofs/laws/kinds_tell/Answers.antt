use Rattle.lake_rebase.proofs.TellLemmas.{tells-at-once, tells-more}
use Rattle.lake_rebase.proofs.laws.kinds_tell.Goals as goal

pub returns-clause-none : goal.returns-clause-none
returns-clause-none c = tells-at-once

pub returns-clause-more : goal.returns-clause-more
returns-clause-more c = tells-more
