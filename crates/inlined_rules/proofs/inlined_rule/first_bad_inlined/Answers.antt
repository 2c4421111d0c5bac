use Rattle.cat_rows.specs.Batches.{tables_of}
use Rattle.cat_rules.specs.EachKept.{AtKept}
use Rattle.cat_rules.specs.InlinedRule.{IsInlinedBad, IsPastThousand}
use Rattle.cat_rules.proofs.FirstLemmas.{first_or}
use Rattle.cat_rules.proofs.SeenLemmas.{first_at_or}
use Rattle.inlined_rules.proofs.inlined_rule.first_bad_inlined.Goals as goal

pub returns : goal.returns
returns c =
    let t = tables_of c.args.rows.now in
    first_at_or (IsInlinedBad t) IsPastThousand t _ (first_or (AtKept (IsInlinedBad t) t) (AtKept IsPastThousand t) _ _ _ c.sooner.ensures c.in_ok-wrong.ensures c.in_ok-crowded.ensures)
