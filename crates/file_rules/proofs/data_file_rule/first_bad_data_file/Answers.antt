use Rattle.cat_rows.specs.Batches.{tables_of}
use Rattle.cat_rules.specs.DataFileRule.{IsPathBad, IsDataFileWrong}
use Rattle.cat_rules.proofs.FirstLemmas.{first_or}
use Rattle.file_rules.proofs.data_file_rule.first_bad_data_file.Goals as goal

pub returns : goal.returns
returns c =
    let t = tables_of c.args.rows.now in
    first_or (IsDataFileWrong t) (IsPathBad t) _ _ _ c.sooner.ensures c.first_wrong_data_file.ensures c.in_ok-path.ensures
