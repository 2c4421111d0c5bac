use Rattle.std.proofs.Common.{map, ◌∙◌, subst, List}
use Rattle.cat_spans.specs.Spans.{Extent, IsFirstPast}
use Rattle.cat_rules.proofs.CrowdedLemmas.{first_named}
use Rattle.cat_rules.proofs.crowded.first_crowded.Goals as goal

pub returns : goal.returns
returns g c =
    let extent = g.T.Grouped.extent c.args.rule.now in
    let rows = c.args.rows.now in
    let P : List Extent → Type 0 = λ xs. IsFirstPast c.args.limit xs c.in_ok-place.place in
    let found : IsFirstPast c.args.limit (map extent rows) c.in_ok-place.place = subst P (c.deref.ensures.value ∙ c.in_ok-spans.ensures) c.in_ok-place.ensures in
    rw c.key_at.ensures (first_named g.T.Grouped.name extent c.args.limit rows c.requires c.in_ok-place.place found)
