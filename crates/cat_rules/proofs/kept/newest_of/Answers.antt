use Rattle.std.proofs.Common.{◌∙◌}
use Rattle.cat_rules.proofs.KeptLemmas.{newest_is_last}
use Rattle.cat_rules.proofs.kept.newest_of.Goals as goal

pub returns : goal.returns
returns c = c.last.ensures.value ∙ newest_is_last c.args.rows.now
