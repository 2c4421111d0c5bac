-- What is left of the rows makes of the first so far what all rows make of none.
use Rattle.std.proofs.Common.{◌≡◌, None, drop}
use Rattle.cat_rules.proofs.FirstLemmas.{first_from}
use Rattle.cat_rules.proofs.rule.first_bad.Given as goal

abbrev pub invariant-loop-row : goal.invariant-loop-row
invariant-loop-row g l =
    let name = g.T.RowRule.name in
    let is_bad = g.T.RowRule.is_bad l.rule in
    first_from name is_bad l.first (drop l.row-index l.rows) ≡ first_from name is_bad None l.rows
