-- The first gap is still to come.
use Rattle.std.proofs.Common.{◌≡◌, drop}
use Rattle.history_rules.proofs.GapLemmas.{Climbs, gap}
use Rattle.history_rules.proofs.history_rule.first_gap.Given as goal

abbrev pub invariant-loop-row : goal.invariant-loop-row
invariant-loop-row l = record {
  climbs : Climbs l.last (drop l.row-index l.rest);
  same : gap l.last (drop l.row-index l.rest) ≡ gap l.initial.last l.rest;
}
