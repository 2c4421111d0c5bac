use Rattle.cat_growth.proofs.StagedLemmas.{made-files_hold, staged-files_hold, staged-versions_apply}
use Rattle.cat_growth.proofs.laws.staged_files_hold.Goals as goal

pub returns-clause-old : goal.returns-clause-old
returns-clause-old c = staged-files_hold

pub returns-clause-made : goal.returns-clause-made
returns-clause-made c = made-files_hold

pub returns-clause-applied : goal.returns-clause-applied
returns-clause-applied c = staged-versions_apply
