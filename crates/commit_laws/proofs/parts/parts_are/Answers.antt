use Rattle.commit_laws.proofs.PartLemmas.{heads-are, parts-are}
use Rattle.commit_laws.proofs.parts.parts_are.Goals as goal

pub returns-clause-head : goal.returns-clause-head
returns-clause-head c = heads-are

pub returns-clause-parts : goal.returns-clause-parts
returns-clause-parts c = parts-are
