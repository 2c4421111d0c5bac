use Rattle.std.proofs.Common.{◌≡◌, ◌+◌, drop, map}
use Rattle.pq_pages.specs.Pages.{all_texts}
use Rattle.pq_pages.proofs.texts.all_texts.Given as goal

abbrev pub invariant-loop-at : goal.invariant-loop-at
invariant-loop-at l = all_texts (l.place + l.at) (map (λ v. v.items) (drop l.at l.strings)) ≡ all_texts l.place (map (λ v. v.items) l.strings)
