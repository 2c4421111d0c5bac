use Rattle.cat_growth.proofs.VersionLemmas.{versions-apply, versions-grow}
use Rattle.cat_growth.proofs.laws.versions_grow.Goals as goal

pub returns-clause-grown : goal.returns-clause-grown
returns-clause-grown c = versions-grow

pub returns-clause-applied : goal.returns-clause-applied
returns-clause-applied c = versions-apply
