use Rattle.std.proofs.Common.{◌≡◌, ℕ, suc, arith, take, subst}
use Rattle.std.proofs.lemmas.Bool.Decides.{when_true}
use Rattle.cat_spans.specs.Spans.{IsExceeded}
use Rattle.cat_spans.proofs.PastLemmas.{none_past, first_past_at}
use Rattle.cat_spans.proofs.limits.first_past.Goals as goal

pub returns-then-branch : goal.returns-then-branch
returns-then-branch c = none_past c.args.limit c.args.spans.now (when_true _ _ c.if-branch.true c.in_ok-is_within.ensures)

pub returns : goal.returns
returns c =
    let loop = c.loop-past in
    let next : loop.past ≡ suc loop.within = omega arith in
    let P : ℕ → Type 0 = λ n. IsExceeded c.args.limit (take n c.args.spans.now) in
    first_past_at c.args.limit c.args.spans.now loop.within (omega arith) loop.invariant.2 (subst P next loop.invariant.3)
