use Rattle.std.proofs.Common.{◌≡◌, map, take, get_or, []}
use Rattle.pq_pages.proofs.picks.pick_strings.Given as goal

abbrev pub invariant-loop-number : goal.invariant-loop-number
invariant-loop-number l = map (λ x. x.items) l.out.items ≡ map (λ i. get_or (map (λ x. x.items) l.entries) i []) (take l.number-index l.numbers)
