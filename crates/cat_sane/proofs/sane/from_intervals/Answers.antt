use Rattle.std.proofs.Common.{Option, subst}
use Rattle.cat_rows.specs.Batches.{tables_of}
use Rattle.cat_rows.specs.declared.batch.Key.{Key}
use Rattle.cat_rules.specs.First.{FirstBad}
use Rattle.cat_rules.specs.IntervalRule.{IsIntervalBad}
use Rattle.cat_rules.specs.Sane.{FromSchemas}
use Rattle.cat_sane.proofs.ChainLemmas.{told_here, told_later}
use Rattle.cat_sane.proofs.sane.from_intervals.Goals as goal

pub returns-in-Some : goal.returns-in-Some
returns-in-Some c =
    let t = tables_of c.args.rows.now in
    let T : Option Key → Type 0 = FirstBad (IsIntervalBad t) in
    told_here 3 (IsIntervalBad t) (FromSchemas t) c.in-Some.key c.told.result (subst T c.in-Some.is c.first_bad_interval.ensures) c.told.ensures

pub returns-in-None : goal.returns-in-None
returns-in-None c =
    let t = tables_of c.args.rows.now in
    let T : Option Key → Type 0 = FirstBad (IsIntervalBad t) in
    told_later 3 (IsIntervalBad t) (FromSchemas t) c.from_schemas.result (subst T c.in-None.is c.first_bad_interval.ensures) c.from_schemas.ensures
