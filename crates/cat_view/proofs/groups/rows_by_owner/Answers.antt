use Rattle.std.proofs.Common.{subst, ap, ◌+◌, sym, ◌∙◌, arith}
use Rattle.std.specs.List.{AllZip}
use Rattle.cat_view.specs.Groups.{IsGroupOf, with_place}
use Rattle.cat_view.proofs.GroupLemmas.{all_groups, as_many, no_groups, whole_groups}
use Rattle.cat_view.proofs.groups.rows_by_owner.Goals as goal

pub loop-place-init : goal.loop-place-init
loop-place-init g c =
    let owner = g.R.Owned.owner c.args.snapshot in
    subst (AllZip (IsGroupOf owner c.args.rows.now 0) c.args.ids.now) (sym c.in_ok-groups.ensures) (no_groups owner c.args.rows.now c.args.ids.now)

pub add_place-requires-clause-same : goal.add_place-requires-clause-same
add_place-requires-clause-same g c = as_many (g.R.Owned.owner c.args.snapshot) c.args.rows.now c.loop-place.place c.args.ids.now c.loop-place.groups.items c.loop-place.invariant

pub loop-place-preserved : goal.loop-place-preserved
loop-place-preserved g c =
    let owner = g.R.Owned.owner c.args.snapshot in
    let n = c.loop-place.place in
    let row = c.index-rows-place.result in
    subst (AllZip (IsGroupOf owner c.args.rows.now (n + 1)) c.args.ids.now)
    (sym (c.in_ok-add_place.ensures ∙ ap (λ o. with_place o n c.args.ids.now c.loop-place.groups.items) c.owner.ensures))
    (all_groups owner c.args.rows.now n row c.args.ids.now c.loop-place.groups.items c.loop-place-test.true c.index-rows-place.is c.loop-place.invariant)

pub returns : goal.returns
returns g c =
    let n = c.loop-place.place in
    whole_groups (g.R.Owned.owner c.args.snapshot) c.args.rows.now n c.args.ids.now c.loop-place.groups.items (omega (arith, c.loop-place-test.false, c.loop-place.auto.place-end)) c.loop-place.invariant
