use Rattle.std.proofs.Common.{rules}
use Rattle.std.proofs.lemmas.Fn.{always_returns_same}
use Rattle.cat_tables.specs.Table.{key_cmp}
use Rattle.cat_tables.proofs.PlaceLemmas.{place_found, place_lacking}
use Rattle.cat_view.specs.Groups.{id_key}
use Rattle.cat_view.proofs.groups.place_of.Goals as goal

pub returns-clause-there : goal.returns-clause-there
returns-clause-there c =
    place_found id_key (id_key c.args.id) c.args.ids.now _ _ c.ok.ensures.value c.requires
    (c.binary_search_by.ensures.position (λ x. key_cmp (id_key x) (id_key c.args.id)) (always_returns_same _ _ _ (λ a r f h. search rules)))

pub returns-clause-lacking : goal.returns-clause-lacking
returns-clause-lacking c =
    place_lacking id_key (id_key c.args.id) c.args.ids.now _ _ c.ok.ensures.value c.requires
    (c.binary_search_by.ensures.position (λ x. key_cmp (id_key x) (id_key c.args.id)) (always_returns_same _ _ _ (λ a r f h. search rules)))
