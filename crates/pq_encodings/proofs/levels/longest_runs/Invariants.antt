use Rattle.pq_encodings.proofs.LevelLemmas.{Spells}
use Rattle.pq_encodings.proofs.levels.longest_runs.Given as goal

abbrev pub invariant-loop-at : goal.invariant-loop-at
invariant-loop-at l = Spells l.levels l.at l.count l.out.items
