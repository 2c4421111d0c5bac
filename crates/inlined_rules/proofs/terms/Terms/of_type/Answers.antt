use Rattle.std.proofs.Common.{List, filter, sym, ◌∙◌, ap, subst}
use Rattle.cat_tables.specs.Table.{RisesByKey}
use Rattle.cat_tables.proofs.PutLemmas.{RisesByKey-filter}
use Rattle.inlined_rules.specs.Terms.{is_of_type, term_key}
use Rattle.inlined_rules.specs.declared.terms.Term.{Term}
use Rattle.inlined_rules.proofs.terms.Terms.of_type.Goals as goal

pub invariant_of-result : goal.invariant_of-result
invariant_of-result c =
    let typed = is_of_type c.args.column_type in
    let Rises : List Term → Type 0 = RisesByKey term_key in
    subst Rises (sym (c.in_ok-items.ensures ∙ ap (filter typed) c.as_slice.ensures.value)) (RisesByKey-filter term_key typed c.self.inside.items.items c.self.invariant)
