use Rattle.std.proofs.Common.{◌∙◌}
use Rattle.cat_view.proofs.GroupLemmas.{group_lacking, group_there}
use Rattle.cat_view.proofs.groups.group_of.Goals as goal

pub returns-in-Some : goal.returns-in-Some
returns-in-Some c =
    c.as_slice.ensures ∙ c.index-groups-at.is
    ∙ group_there c.args.id c.in-Some.at c.args.ids.now c.args.groups.now 0 c.index-groups-at.result c.requires.rises c.in-Some.ensures.within (c.in-Some.ensures.there 0) c.requires.same

pub returns-in-None : goal.returns-in-None
returns-in-None c = group_lacking c.args.id c.args.ids.now c.args.groups.now c.in-None.ensures.lacking
