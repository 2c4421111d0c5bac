use Rattle.std.proofs.Common.{◌≡◌, get_or, ap, sym, ◌∙◌, subst, ⊎_elim, arith}
use Rattle.std.proofs.lemmas.Bool.{cases_lt}
use Rattle.std.proofs.lemmas.List.{get_or_read}
use Rattle.cat_spans.specs.Spans.{Extent, HasGap}
use Rattle.cat_spans.proofs.gaps.first_with_gap.Goals as goal

pub returns-then-has_gap : goal.returns-then-has_gap
returns-then-has_gap c =
    let spans = c.args.spans.now in
    λ others marks.
    let gap = (c.has_gap.ensures others marks).0 c.if-has_gap.true in
    (omega arith, λ d. (let P : Extent → Type 0 = HasGap others in subst P (get_or_read spans c.loop-place.place _ (omega arith) c.index-spans-place.is d) gap), λ k d low lt. c.loop-place.invariant others marks k d low lt)

pub loop-place-preserved : goal.loop-place-preserved
loop-place-preserved c = λ others marks k d low lt.
    ⊎_elim (λ before. c.loop-place.invariant others marks k d low before)
    (λ on.
    let here : k ≡ c.loop-place.place = omega arith in
    let same = get_or_read c.args.spans.now c.loop-place.place _ (omega arith) c.index-spans-place.is d in
    let P : Extent → Type 0 = HasGap others in
    λ gap. absurd (
    let yes = (c.has_gap.ensures others marks).1 (subst P (ap (λ n. get_or c.args.spans.now n d) here ∙ sym same) gap) in
    cc
    ))
    (cases_lt k c.loop-place.place)

pub returns : goal.returns
returns c = λ others marks k d lt. c.loop-place.invariant others marks k d (omega arith) (omega arith)
