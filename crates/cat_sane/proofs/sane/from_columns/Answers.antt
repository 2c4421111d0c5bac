use Rattle.std.proofs.Common.{Option, subst}
use Rattle.cat_rows.specs.Batches.{tables_of}
use Rattle.cat_rows.specs.declared.batch.Key.{Key}
use Rattle.cat_rules.specs.First.{FirstBad}
use Rattle.cat_rules.specs.ColumnRule.{AreColumnsBad}
use Rattle.cat_rules.specs.Sane.{FromDataFiles}
use Rattle.cat_sane.proofs.ChainLemmas.{told_here, told_later}
use Rattle.cat_sane.proofs.sane.from_columns.Goals as goal

pub returns-in-Some : goal.returns-in-Some
returns-in-Some c =
    let t = tables_of c.args.rows.now in
    let T : Option Key → Type 0 = FirstBad (AreColumnsBad t) in
    told_here 6 (AreColumnsBad t) (FromDataFiles t) c.in-Some.key c.told.result (subst T c.in-Some.is c.in_ok-key.ensures) c.told.ensures

pub returns-in-None : goal.returns-in-None
returns-in-None c =
    let t = tables_of c.args.rows.now in
    let T : Option Key → Type 0 = FirstBad (AreColumnsBad t) in
    told_later 6 (AreColumnsBad t) (FromDataFiles t) c.from_data_files.result (subst T c.in-None.is c.in_ok-key.ensures) c.from_data_files.ensures
