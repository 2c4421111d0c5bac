use Rattle.std.proofs.Common.{ℕ, List, Option, sym, subst}
use Rattle.cat_rows.specs.Batches.{tables_of}
use Rattle.cat_rows.specs.declared.batch.Key.{Key}
use Rattle.cat_rows.specs.declared.batch.Key.TheVariants as key
use Rattle.cat_rows.specs.declared.history.MetadataRow.{MetadataRow}
use Rattle.cat_rules.specs.First.{FirstBad}
use Rattle.cat_rules.specs.LayoutRule.{IsLayoutBad, Misses, is_other_entry, layout_key}
use Rattle.cat_rules.specs.Places.{of_metadata}
use Rattle.cat_rules.specs.Rows.{NamesIf}
use Rattle.cat_rules.proofs.FirstLemmas.{first_either}
use Rattle.history_rules.proofs.layout_rule.first_bad_layout.Goals as goal

pub returns : goal.returns
returns c =
    let t = tables_of c.args.rows.now in
    let Other : List MetadataRow → Type 0 = λ rows. FirstBad (NamesIf of_metadata is_other_entry rows) c.in_ok-other.other in
    let Missing : List ℕ → Type 0 = λ name. FirstBad (Misses t (key.Metadata name)) c.missing.result in
    let other = subst Other c.metadata.ensures.rows c.in_ok-other.ensures in
    let missing = subst Missing c.in_ok-of.ensures c.missing.ensures in
    let T : Option Key → Type 0 = FirstBad (IsLayoutBad t) in
    subst T (sym c.sooner.ensures) (first_either (NamesIf of_metadata is_other_entry t.metadata) (Misses t layout_key) _ _ other missing)
