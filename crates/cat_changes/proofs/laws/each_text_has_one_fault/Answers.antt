use Rattle.cat_changes.proofs.ListLemmas.{has_one_place, says_or_is_wrong, lacks_one_name, lacks_gives_none}
use Rattle.cat_changes.proofs.laws.each_text_has_one_fault.Goals as goal

pub returns-clause-place : goal.returns-clause-place
returns-clause-place c = has_one_place

pub returns-clause-wrong : goal.returns-clause-wrong
returns-clause-wrong c = says_or_is_wrong

pub returns-clause-name : goal.returns-clause-name
returns-clause-name c = lacks_one_name

pub returns-clause-lacks : goal.returns-clause-lacks
returns-clause-lacks c = lacks_gives_none
