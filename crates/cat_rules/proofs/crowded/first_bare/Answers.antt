use Rattle.std.proofs.Common.{map, ◌∙◌, subst, List}
use Rattle.cat_spans.specs.Spans.{Extent, IsFirstGap}
use Rattle.cat_rules.proofs.CrowdedLemmas.{first_bare_named}
use Rattle.cat_rules.proofs.crowded.first_bare.Goals as goal

pub returns : goal.returns
returns g c =
    let extent = g.T.Grouped.extent c.args.rule.now in
    let other_extent = g.U.Grouped.extent c.args.other_rule.now in
    let place = c.in_ok-place.place in
    let P : List Extent → Type 0 = λ xs. IsFirstGap c.deref-2.result.now xs place in
    let Q : List Extent → Type 0 = λ xs. IsFirstGap xs (map extent c.args.rows.now) place in
    let found : IsFirstGap (map other_extent c.args.others.now) (map extent c.args.rows.now) place =
    subst Q (c.deref-2.ensures.value ∙ c.in_ok-other_spans.ensures) (subst P (c.deref.ensures.value ∙ c.in_ok-spans.ensures) c.in_ok-place.ensures) in
    rw c.key_at.ensures (first_bare_named g.T.Grouped.name extent other_extent c.args.others.now c.args.rows.now c.requires place found)
