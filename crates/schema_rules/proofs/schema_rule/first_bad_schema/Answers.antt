use Rattle.std.proofs.Common.{◌≡◌, true, refl, ap, ◌∷◌, is_lt}
use Rattle.std.proofs.lemmas.Result.{IfOk-weaker}
use Rattle.cat_rules.proofs.SeenLemmas.{first_alike}
use Rattle.cat_tables.specs.Table.{IsBelow}
use Rattle.cat_rows.specs.Batches.{tables_of}
use Rattle.cat_rows.specs.Keys.{schema_key}
use Rattle.cat_rows.specs.Validities.{schema_validity}
use Rattle.cat_rules.specs.Places.{is_sooner, of_schema}
use Rattle.cat_rules.proofs.DatedLemmas.{none_missing, dated_schemas}
use Rattle.cat_rules.proofs.FirstLemmas.{ascends_like}
use Rattle.cat_rules.specs.SchemaRule.{HaveOneName}
use Rattle.schema_rules.specs.Groups.{schema_group}
use Rattle.cat_rules.proofs.EarlierLemmas.{first_used_among}
use Rattle.schema_rules.proofs.schema_rule.first_bad_schema.Goals as goal

pub first_crowded-requires : goal.first_crowded-requires
first_crowded-requires c =
    ascends_like (IsBelow schema_key) (λ a b. is_sooner (of_schema a) (of_schema b) ≡ true) (λ a b below. ap is_lt below) c.schema.result.now c.schema.ensures.rises

pub returns : goal.returns
returns c =
    let t = tables_of c.args.rows.now in
    let first = c.first_kept-first in
    IfOk-weaker c.first_crowded.result _ _ (first_alike t schema_validity of_schema schema_key HaveOneName (λ q r x. x) (λ q r x. x) (λ r. refl) t.schema)
    (first_used_among t first.ensures.rises (none_missing t c.requires.history) schema_validity of_schema schema_key (λ q r. refl) schema_group HaveOneName
    (λ q r e. cc) (λ q r e. ap (λ n. 0 ∷ 0 ∷ n) e) t.schema (dated_schemas t c.requires.intervals)
    c.first_crowded.result first.result c.schema.result.now first.ensures.first c.schema.ensures.rows c.first_crowded.ensures)
