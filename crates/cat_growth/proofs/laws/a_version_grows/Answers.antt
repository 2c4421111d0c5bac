use Rattle.cat_growth.proofs.ExampleLemmas.{grows-state, grows-version, staged-to_grow}
use Rattle.cat_growth.proofs.laws.a_version_grows.Goals as goal

pub returns-clause-version : goal.returns-clause-version
returns-clause-version c = grows-version

pub returns-clause-state : goal.returns-clause-state
returns-clause-state c = grows-state

pub returns-clause-staged : goal.returns-clause-staged
returns-clause-staged c = staged-to_grow
