use Rattle.std.proofs.Common.{◌≡◌, refl, List, [], ◌∷◌, ap, ◌∙◌, subst}
use Rattle.cat_rules.proofs.SeenLemmas.{first_without}
use Rattle.cat_rules.specs.EachKept.{missing_or_own}
use Rattle.cat_tables.specs.Table.{RisesByKey}
use Rattle.cat_rows.specs.Batches.{tables_of}
use Rattle.cat_rows.specs.Keys.{schema_key, snapshot_key}
use Rattle.cat_rows.specs.Validities.{schema_laws, schema_validity, table_validity}
use Rattle.cat_rows.specs.declared.schemas.TableRow.{TableRow}
use Rattle.cat_rules.specs.First.{FirstBad}
use Rattle.cat_rules.specs.Kept.{kept_of}
use Rattle.cat_rules.specs.Places.{of_table}
use Rattle.cat_rules.specs.TableRule.{schema_id_of, schema_of}
use Rattle.cat_rules.specs.Sight.{IsUnmatchedBy}
use Rattle.cat_rules.specs.declared.kept.Kept.{Kept}
use Rattle.cat_rules.proofs.DatedLemmas.{dated_schemas, dated_tables, found_dated}
use Rattle.cat_rules.proofs.ReferLemmas.{first_unmatched}
use Rattle.schema_rules.proofs.table_rule.first_unmatched_table.Goals as goal

pub returns : goal.returns
returns c =
    let t = tables_of c.args.rows.now in
    let up = subst (RisesByKey snapshot_key) c.snapshot.ensures.rows c.snapshot.ensures.rises in
    let is : c.kept_of-kept.result ≡ kept_of t.snapshot = c.kept_of-kept.ensures ∙ ap kept_of c.snapshot.ensures.rows in
    let history = c.requires.history in
    let intervals = c.requires.intervals in
    let Found : Kept → List TableRow → Type 0 = λ kept rows. FirstBad (IsUnmatchedBy t table_validity schema_validity (schema_of t) schema_id_of of_table rows kept.first) c.first_unmatched.result in
    let found = subst (Found (kept_of t.snapshot)) c.table.ensures.rows (subst (λ kept. Found kept c.table.result.now) is c.first_unmatched.ensures) in
    let schemas = subst (RisesByKey schema_key) c.schema-schemas.ensures.rows c.schema-schemas.ensures.rises in
    first_without t table_validity schema_validity schema_key schema_laws t.schema schemas (λ r. r.schema_id ∷ []) (λ r. refl) schema_id_of of_table (missing_or_own (schema_of t) schema_id_of of_table) (λ r. refl) t.table _
    (first_unmatched t up history table_validity schema_validity (schema_of t) schema_id_of of_table t.table _
    (dated_tables t intervals)
    (λ r q e. found_dated t schema_key (r.schema_id ∷ []) schema_validity t.schema (dated_schemas t intervals) q e)
    found)
