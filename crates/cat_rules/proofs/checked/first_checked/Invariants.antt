-- What is left of the rows gives what all rows give.
use Rattle.std.proofs.Common.{drop}
use Rattle.cat_rules.proofs.CheckedLemmas.{GoesOn}
use Rattle.cat_rules.proofs.checked.first_checked.Given as goal

abbrev pub invariant-loop-row : goal.invariant-loop-row
invariant-loop-row g l = GoesOn g.T.CheckedRule.name (g.T.CheckedRule.Bad l.rule) l.rows (drop l.row-index l.rows)
