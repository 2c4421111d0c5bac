use Rattle.std.proofs.Common.{Option, subst}
use Rattle.cat_rows.specs.Batches.{tables_of}
use Rattle.cat_rows.specs.declared.batch.Key.{Key}
use Rattle.cat_rules.specs.First.{FirstBad}
use Rattle.cat_rules.specs.LayoutRule.{IsLayoutBad}
use Rattle.cat_rules.specs.Sane.{FromHistory}
use Rattle.cat_sane.proofs.ChainLemmas.{told_here, told_later}
use Rattle.cat_sane.proofs.sane.first_bad_row.Goals as goal

pub returns-in-Some : goal.returns-in-Some
returns-in-Some c =
    let t = tables_of c.args.rows.now in
    let T : Option Key → Type 0 = FirstBad (IsLayoutBad t) in
    told_here 1 (IsLayoutBad t) (FromHistory t) c.in-Some.key c.told.result (subst T c.in-Some.is c.in_ok-key.ensures) c.told.ensures

pub returns-in-None : goal.returns-in-None
returns-in-None c =
    let t = tables_of c.args.rows.now in
    let T : Option Key → Type 0 = FirstBad (IsLayoutBad t) in
    told_later 1 (IsLayoutBad t) (FromHistory t) c.from_history.result (subst T c.in-None.is c.in_ok-key.ensures) c.from_history.ensures
