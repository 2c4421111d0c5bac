use Rattle.std.proofs.Common.{◌≡◌, ℕ, ◌≤◌, length, get_or, sym, ◌∙◌, arith}
use Rattle.std.proofs.lemmas.List.{get_or_default, take_all}
use Rattle.pq_pages.proofs.PickLemmas.{map_more}
use Rattle.pq_pages.proofs.picks.pick_copied.Goals as goal

pub loop-number-preserved : goal.loop-number-preserved
loop-number-preserved g c = λ d.
    let one : c.index-entries-number.result ≡ get_or c.args.entries.now (get_or c.args.numbers.now c.loop-number.number-index 0) d =
    c.index-entries-number.is ∙ get_or_default c.args.entries.now (get_or c.args.numbers.now c.loop-number.number-index 0) c.index-entries-number.result d
    (c.requires c.loop-number.number-index 0 c.loop-number-test.true) in
    let more = map_more (λ (i : ℕ). get_or c.args.entries.now i d) c.args.numbers.now c.loop-number.number-index 0 c.loop-number-test.true in
    rw (c.in_ok-push.ensures.items, c.loop-number.invariant d, one) (sym more)

pub returns : goal.returns
returns g c = λ d.
    let all : length c.args.numbers.now ≤ c.loop-number.number-index = omega (arith, c.loop-number-test.false) in
    rw (← take_all c.loop-number.number-index c.args.numbers.now all) (c.loop-number.invariant d)
