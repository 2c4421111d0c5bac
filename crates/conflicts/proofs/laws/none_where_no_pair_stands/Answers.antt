use Rattle.conflicts.proofs.LawLemmas.{none_stands, some_is_first}
use Rattle.conflicts.proofs.laws.none_where_no_pair_stands.Goals as goal

pub returns-clause-none : goal.returns-clause-none
returns-clause-none c = none_stands

pub returns-clause-some : goal.returns-clause-some
returns-clause-some c = some_is_first
