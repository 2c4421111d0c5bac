use Rattle.std.proofs.Common.{◌≡◌, map, take, get_or}
use Rattle.pq_pages.proofs.picks.pick_copied.Given as goal

abbrev pub invariant-loop-number : goal.invariant-loop-number
invariant-loop-number g l = (d : g.row.T.Denot) → l.out.items ≡ map (λ i. get_or l.entries i d) (take l.number-index l.numbers)
