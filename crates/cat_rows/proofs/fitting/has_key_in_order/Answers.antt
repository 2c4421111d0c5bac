use Rattle.std.proofs.Common.{◌∙◌, rules}
use Rattle.std.proofs.lemmas.Fn.{always_returns_same}
use Rattle.cat_tables.specs.Table.{key_cmp}
use Rattle.cat_rows.specs.Places.{place}
use Rattle.cat_rows.specs.Steps.{ref_place}
use Rattle.cat_rows.proofs.RiseLemmas.{search_tells}
use Rattle.cat_rows.proofs.fitting.has_key_in_order.Goals as goal

pub returns : goal.returns
returns g c =
    let key = g.T.HasKey.key in
    let k = ref_place c.args.key in
    c.is_ok.ensures.value
    ∙ search_tells key k c.args.items.now _ c.requires c.binary_search_by.ensures.bound
    (c.binary_search_by.ensures.position (λ x. key_cmp (place (key x)) k) (always_returns_same _ _ _ (λ a r f h. search rules)))
