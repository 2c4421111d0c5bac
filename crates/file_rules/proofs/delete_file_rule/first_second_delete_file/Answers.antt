use Rattle.std.proofs.Common.{◌≡◌, true, refl, ap, ◌∷◌, [], is_lt}
use Rattle.std.proofs.lemmas.Result.{IfOk-weaker}
use Rattle.cat_rules.proofs.SeenLemmas.{first_alike}
use Rattle.cat_tables.specs.Table.{IsBelow}
use Rattle.cat_rows.specs.Batches.{tables_of}
use Rattle.cat_rows.specs.Keys.{delete_file_key}
use Rattle.cat_rows.specs.Validities.{delete_file_validity}
use Rattle.cat_rules.specs.Places.{is_sooner, of_delete_file}
use Rattle.cat_rules.proofs.DatedLemmas.{none_missing, dated_delete_files}
use Rattle.cat_rules.proofs.FirstLemmas.{ascends_like}
use Rattle.cat_rules.specs.DeleteFileRule.{HaveOneFile}
use Rattle.file_rules.specs.Groups.{delete_file_group}
use Rattle.cat_rules.proofs.EarlierLemmas.{first_used_among}
use Rattle.file_rules.proofs.delete_file_rule.first_second_delete_file.Goals as goal

pub first_crowded-requires : goal.first_crowded-requires
first_crowded-requires c =
    ascends_like (IsBelow delete_file_key) (λ a b. is_sooner (of_delete_file a) (of_delete_file b) ≡ true) (λ a b below. ap is_lt below) c.delete_file.result.now c.delete_file.ensures.rises

pub returns : goal.returns
returns c =
    let t = tables_of c.args.rows.now in
    let first = c.first_kept-first in
    IfOk-weaker c.first_crowded.result _ _ (first_alike t delete_file_validity of_delete_file delete_file_key HaveOneFile (λ q r x. x) (λ q r x. x) (λ r. refl) t.delete_file)
    (first_used_among t first.ensures.rises (none_missing t c.requires.history) delete_file_validity of_delete_file delete_file_key (λ q r. refl) delete_file_group HaveOneFile
    (λ q r e. cc) (λ q r e. ap (λ n. n ∷ 0 ∷ []) e) t.delete_file (dated_delete_files t c.requires.intervals)
    c.first_crowded.result first.result c.delete_file.result.now first.ensures.first c.delete_file.ensures.rows c.first_crowded.ensures)
