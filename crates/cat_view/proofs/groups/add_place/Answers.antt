use Rattle.std.proofs.Common.{rules, ◌≡◌, None, ◌∙◌, ◌++◌, ◌∷◌, [], sym, ap, set}
use Rattle.cat_view.specs.Groups.{with_place}
use Rattle.cat_view.proofs.GroupLemmas.{has_owner, lacks_owner, none_owns}
use Rattle.cat_view.proofs.groups.add_place.Goals as goal

pub returns-in_default : goal.returns-in_default
returns-in_default c =
    let none : c.args.owner ≡ None = search rules in
    sym (ap (λ o. with_place o c.args.place c.args.ids.now c.args.groups.now.items) none ∙ none_owns c.args.place c.args.ids.now c.args.groups.now.items c.requires.same)

pub returns-in_default-place_of : goal.returns-in_default-place_of
returns-in_default-place_of c =
    sym (ap (λ o. with_place o c.args.place c.args.ids.now c.args.groups.now.items) c.in-Some.is ∙ lacks_owner c.in-Some.id c.args.place c.args.ids.now c.args.groups.now.items c.in_default-place_of.ensures.lacking c.requires.same)

pub returns : goal.returns
returns c =
    let groups = c.args.groups.now.items in
    let at = c.in-Some-place_of.at in
    ap (set groups at) (c.in_ok-push.ensures.ok ∙ ap (λ g. g ++ c.args.place ∷ []) c.index_mut.ensures.value)
    ∙ sym (ap (λ o. with_place o c.args.place c.args.ids.now groups) c.in-Some.is ∙ has_owner c.in-Some.id c.args.place at c.args.ids.now groups 0 c.index_mut.result.now c.requires.rises c.in-Some-place_of.ensures.within (c.in-Some-place_of.ensures.there 0) c.requires.same)
