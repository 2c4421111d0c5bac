use Rattle.std.proofs.Common.{rules, ◌≡◌, List, false, subst}
use Rattle.std.specs.BTreeMap.{get}
use Rattle.std.specs.List.{list_any}
use Rattle.std.specs.Ordering.{nat_cmp}
use Rattle.lake_types.specs.declared.kind.Kind.{Kind}
use Rattle.lake_types.specs.Kinds.{name_of}
use Rattle.cat_changes.specs.Reading.{NamesAll, is_dropped_schema, shown}
use Rattle.cat_changes.proofs.NameLemmas.{all_named_as, stay_unnamed}
use Rattle.cat_changes.proofs.names.with_names.Goals as goal

pub returns-then-not-drops_schema : goal.returns-then-not-drops_schema
returns-then-not-drops_schema c =
    let none : list_any is_dropped_schema c.args.kinds ≡ false = search rules in
    stay_unnamed (name_of c.args.schemas.now) c.args.kinds none

pub returns : goal.returns
returns c =
    all_named_as (λ id. shown (get nat_cmp c.in_ok-names.names id)) (name_of c.args.schemas.now) c.args.kinds c.named.result c.in_ok-names.ensures
    (subst (λ (x : List Kind). NamesAll (λ id. shown (get nat_cmp c.in_ok-names.names id)) x c.named.result) c.as_slice-2.ensures c.named.ensures)
