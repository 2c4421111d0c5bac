use Rattle.std.proofs.Common.{◌≡◌, true, refl, ap, ap₂, ◌∷◌, is_lt}
use Rattle.std.proofs.lemmas.Result.{IfOk-weaker}
use Rattle.cat_rules.proofs.SeenLemmas.{first_alike}
use Rattle.cat_tables.specs.Table.{IsBelow}
use Rattle.cat_rows.specs.Batches.{tables_of}
use Rattle.cat_rows.specs.Keys.{table_key}
use Rattle.cat_rows.specs.Validities.{table_validity}
use Rattle.cat_rules.specs.Places.{is_sooner, of_table}
use Rattle.cat_rules.proofs.DatedLemmas.{none_missing, dated_tables}
use Rattle.cat_rules.proofs.FirstLemmas.{ascends_like}
use Rattle.cat_rules.specs.TableRule.{HaveOnePlace}
use Rattle.schema_rules.specs.Groups.{table_group}
use Rattle.cat_rules.proofs.EarlierLemmas.{first_used_among}
use Rattle.schema_rules.proofs.table_rule.first_used_table_name.Goals as goal

pub first_crowded-requires : goal.first_crowded-requires
first_crowded-requires c =
    ascends_like (IsBelow table_key) (λ a b. is_sooner (of_table a) (of_table b) ≡ true) (λ a b below. ap is_lt below) c.table.result.now c.table.ensures.rises

pub returns : goal.returns
returns c =
    let t = tables_of c.args.rows.now in
    let first = c.first_kept-first in
    IfOk-weaker c.first_crowded.result _ _ (first_alike t table_validity of_table table_key HaveOnePlace (λ q r x. x) (λ q r x. x) (λ r. refl) t.table)
    (first_used_among t first.ensures.rises (none_missing t c.requires.history) table_validity of_table table_key (λ q r. refl) table_group HaveOnePlace
    (λ q r e. (cc, cc)) (λ q r e. ap₂ (λ s n. s ∷ 0 ∷ n) e.0 e.1) t.table (dated_tables t c.requires.intervals)
    c.first_crowded.result first.result c.table.result.now first.ensures.first c.table.ensures.rows c.first_crowded.ensures)
