use Rattle.cat_changes.proofs.ListLemmas.{has_one_list}
use Rattle.cat_changes.proofs.laws.each_text_has_one_list.Goals as goal

pub returns : goal.returns
returns c = has_one_list
