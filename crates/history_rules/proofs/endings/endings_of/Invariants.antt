-- The names so far come before those to come.
use Rattle.std.proofs.Common.{◌≡◌, ◌++◌, ℕ, drop}
use Rattle.history_rules.specs.Endings.{names_at}
use Rattle.cat_rules.specs.HistoryRule.{names_ending}
use Rattle.history_rules.proofs.endings.endings_of.Given as goal

abbrev pub invariant-loop-row : goal.invariant-loop-row
invariant-loop-row l = (n : ℕ) → names_at l.endings n ++ names_ending (drop l.row-index l.schemas) n ≡ names_ending l.schemas n
