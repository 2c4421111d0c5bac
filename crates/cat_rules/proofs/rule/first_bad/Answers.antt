use Rattle.std.proofs.Common.{◌≡◌, Option, None, sym, ◌∙◌, subst, arith}
use Rattle.std.proofs.lemmas.List.{at_drop_all}
use Rattle.cat_rows.specs.declared.batch.Key.{Key}
use Rattle.cat_rules.specs.First.{FirstBad}
use Rattle.cat_rules.specs.Rows.{NamesIf}
use Rattle.cat_rules.proofs.FirstLemmas.{first_from, first_of_all}
use Rattle.cat_rules.proofs.rule.first_bad.Goals as goal

pub returns : goal.returns
returns g c =
    let name = g.T.RowRule.name in
    let is_bad = g.T.RowRule.is_bad c.args.rule.now in
    let rows = c.args.rows.now in
    let T : Option Key → Type 0 = FirstBad (NamesIf name is_bad rows) in
    let all : first_from name is_bad None rows ≡ c.loop-row.first = sym c.loop-row.invariant ∙ at_drop_all (λ xs. first_from name is_bad c.loop-row.first xs) rows c.loop-row.row-index (omega arith) in
    subst T all (first_of_all name is_bad rows)
