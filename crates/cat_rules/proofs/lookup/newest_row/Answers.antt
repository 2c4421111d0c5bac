use Rattle.std.proofs.Common.{ap, ◌∙◌}
use Rattle.cat_rules.specs.Lookups.{last}
use Rattle.cat_rules.proofs.LookupLemmas.{last_is}
use Rattle.cat_rules.proofs.lookup.newest_row.Goals as goal

pub returns : goal.returns
returns c = c.last.ensures.value ∙ last_is c.rows_of_column.result.now ∙ ap last c.rows_of_column.ensures
