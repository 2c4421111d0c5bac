use Rattle.cat_changes.proofs.SignLemmas.{behind_none}
use Rattle.cat_changes.proofs.quotes.behind.Goals as goal

pub returns-clause-none : goal.returns-clause-none
returns-clause-none c = behind_none c.args.sign c.args.text.now c.strip_prefix.result c.strip_prefix.ensures.cases c.requires
