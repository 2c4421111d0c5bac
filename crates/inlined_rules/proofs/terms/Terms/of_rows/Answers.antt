use Rattle.inlined_rules.proofs.ClearLemmas.{terms_rise}
use Rattle.inlined_rules.proofs.terms.Terms.of_rows.Goals as goal

pub invariant_of-result : goal.invariant_of-result
invariant_of-result c = rw c.in_ok-items.ensures (terms_rise c.args.rows.now c.requires)
