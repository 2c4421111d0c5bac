use Rattle.cat_rows.specs.Batches.{tables_of}
use Rattle.cat_rules.specs.DeleteFileRule.{IsDeleteFileWrong, IsSecondDeleteFile}
use Rattle.cat_rules.specs.EachKept.{AtKept}
use Rattle.cat_rules.proofs.FirstLemmas.{first_or}
use Rattle.file_rules.proofs.delete_file_rule.first_bad_delete_file.Goals as goal

pub returns : goal.returns
returns c =
    let t = tables_of c.args.rows.now in
    first_or (IsDeleteFileWrong t) (AtKept IsSecondDeleteFile t) _ _ _ c.sooner.ensures c.first_wrong_delete_file.ensures c.in_ok-second.ensures
