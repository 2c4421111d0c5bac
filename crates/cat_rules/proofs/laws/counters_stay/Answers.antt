use Rattle.cat_rules.proofs.LawLemmas.{counters-stay, fields-stay, inlined_ids-stay, row_ids-stay}
use Rattle.cat_rules.proofs.laws.counters_stay.Goals as goal

pub returns-clause-fields : goal.returns-clause-fields
returns-clause-fields c = fields-stay

pub returns-clause-ids : goal.returns-clause-ids
returns-clause-ids c = counters-stay

pub returns-clause-row_ids : goal.returns-clause-row_ids
returns-clause-row_ids c = row_ids-stay

pub returns-clause-inlined_ids : goal.returns-clause-inlined_ids
returns-clause-inlined_ids c = inlined_ids-stay
