-- The first wrong row is still to come.
use Rattle.std.proofs.Common.{◌≡◌, None, drop}
use Rattle.std.specs.Option.{option_copied}
use Rattle.history_rules.proofs.OverlapLemmas.{wrong_from}
use Rattle.history_rules.proofs.interval_rule.first_wrong.Given as goal

abbrev pub invariant-loop-row : goal.invariant-loop-row
invariant-loop-row l = wrong_from l.kept (option_copied l.last) (drop l.row-index l.rows) ≡ wrong_from l.kept None l.rows
