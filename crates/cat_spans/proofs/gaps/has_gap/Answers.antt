use Rattle.std.proofs.Common.{◌<◌, ◌≤◌, ◌∙◌, map, [], get_or, refl, sym, ap, ⊎_elim, arith}
use Rattle.std.proofs.lemmas.Bool.{cases_lt}
use Rattle.std.proofs.lemmas.List.{length-map}
use Rattle.cat_spans.specs.declared.marks.Mark.{Mark}
use Rattle.cat_spans.specs.declared.marks.Place.TheVariants.{At}
use Rattle.cat_spans.specs.Marks.{number_of, point_of}
use Rattle.cat_spans.specs.Points.{point_at, upto_count}
use Rattle.cat_spans.proofs.GapLemmas.{stopped_from, covered_from, slice_get-map, covers_before, begins_upto, gap_here, no_gap, next_within, stop_further, stop_reached, lasts_to, lasts_on}
use Rattle.cat_spans.proofs.gaps.has_gap.Goals as goal

-- what an index past the end would read
none : Mark
none = record { group = record { first = 0; second = 0; text = record { ref_ptr = (0, 0); now = [] } }; place = At 0 }

pub returns-then-upto-stopped : goal.returns-then-upto-stopped
returns-then-upto-stopped c =
    let bs = map point_of c.args.begins.now in
    let ss = map point_of c.args.stops.now in
    let x = c.args.span.now in
    λ others marks. (
      λ _. gap_here others bs ss marks x c.loop-mark.number (sym c.loop-mark-test.ensures)
          (stopped_from bs ss _ (point_at x.group c.loop-mark.number) _ _ c.mark_at-mark.ensures c.upto-stopped.ensures.count c.upto.ensures.count c.if-upto-stopped.true),
      λ _. refl,
    )

pub bounds-stops-stopped : goal.bounds-stops-stopped
bounds-stops-stopped c =
    let bs = map point_of c.args.begins.now in
    let ss = map point_of c.args.stops.now in
    let g = c.args.span.now.group in
    let here = c.mark_at-mark.ensures in
    let covered = covered_from bs ss _ (point_at g c.loop-mark.number) _ _ here c.upto-stopped.ensures.count c.upto.ensures.count c.if-upto-stopped.false in
    let within = next_within c.requires.0 bs ss c.requires.1 g c.loop-mark.number c.upto-stopped.result covered (c.upto-stopped.ensures.count ∙ ap (λ m. upto_count m ss) here) in
    omega (arith, length-map c.args.stops.now point_of)

pub loop-mark-smaller : goal.loop-mark-smaller
unfolding none
loop-mark-smaller c =
    let bs = map point_of c.args.begins.now in
    let ss = map point_of c.args.stops.now in
    let g = c.args.span.now.group in
    let here = c.mark_at-mark.ensures in
    let covered = covered_from bs ss _ (point_at g c.loop-mark.number) _ _ here c.upto-stopped.ensures.count c.upto.ensures.count c.if-upto-stopped.false in
    let counted = c.upto-stopped.ensures.count ∙ ap (λ m. upto_count m ss) here in
    let within = next_within c.requires.0 bs ss c.requires.1 g c.loop-mark.number c.upto-stopped.result covered counted in
    let p = point_of (get_or c.args.stops.now c.upto-stopped.result none) in
    let at = slice_get-map point_of c.args.stops.now c.upto-stopped.result none (omega (arith, length-map c.args.stops.now point_of)) in
    let reached = stop_reached c.requires.0 bs ss c.requires.1 g c.loop-mark.number c.upto-stopped.result p covered counted at c.in-At.stop (ap number_of c.in-At.is) in
    omega (arith, length-map c.args.stops.now point_of)

pub loop-mark-preserved : goal.loop-mark-preserved
unfolding none
loop-mark-preserved c =
    let bs = map point_of c.args.begins.now in
    let ss = map point_of c.args.stops.now in
    let x = c.args.span.now in
    let g = x.group in
    let here = c.mark_at-mark.ensures in
    let covered = covered_from bs ss _ (point_at g c.loop-mark.number) _ _ here c.upto-stopped.ensures.count c.upto.ensures.count c.if-upto-stopped.false in
    let counted = c.upto-stopped.ensures.count ∙ ap (λ m. upto_count m ss) here in
    let within = next_within c.requires.0 bs ss c.requires.1 g c.loop-mark.number c.upto-stopped.result covered counted in
    let p = point_of (get_or c.args.stops.now c.upto-stopped.result none) in
    let at = slice_get-map point_of c.args.stops.now c.upto-stopped.result none (omega (arith, length-map c.args.stops.now point_of)) in
    let further : c.loop-mark.number < c.in-At.stop = stop_further c.requires.0 bs ss c.requires.1 g c.loop-mark.number c.upto-stopped.result p covered counted at c.in-At.stop (ap number_of c.in-At.is) in
    let begins : x.begin ≤ c.loop-mark.number = c.loop-mark.invariant.0 in (
      omega arith,
      λ n low lt. ⊎_elim (λ before. c.loop-mark.invariant.1 n low before)
          (λ on. lasts_to c.requires.0 bs ss c.requires.1 g c.loop-mark.number c.upto-stopped.result p covered counted at c.in-At.stop n (ap number_of c.in-At.is) on lt) (cases_lt n c.loop-mark.number),
    )

pub returns-in-Past : goal.returns-in-Past
unfolding none
returns-in-Past c =
    let bs = map point_of c.args.begins.now in
    let ss = map point_of c.args.stops.now in
    let x = c.args.span.now in
    let g = x.group in
    let here = c.mark_at-mark.ensures in
    let covered = covered_from bs ss _ (point_at g c.loop-mark.number) _ _ here c.upto-stopped.ensures.count c.upto.ensures.count c.if-upto-stopped.false in
    let counted = c.upto-stopped.ensures.count ∙ ap (λ m. upto_count m ss) here in
    let p = point_of (get_or c.args.stops.now c.upto-stopped.result none) in
    λ others marks.
    let within = next_within others bs ss marks g c.loop-mark.number c.upto-stopped.result covered counted in
    let at = slice_get-map point_of c.args.stops.now c.upto-stopped.result none (omega (arith, length-map c.args.stops.now point_of)) in (
      λ e. absurd cc,
      λ gap. absurd (no_gap others bs ss marks x
          (λ s h. ⊎_elim (λ before. c.loop-mark.invariant.1 s (begins_upto s x h) before)
          (λ on. lasts_on others bs ss marks g c.loop-mark.number c.upto-stopped.result p covered counted at s (ap number_of c.in-Past.is) on) (cases_lt s c.loop-mark.number)) gap),
    )

pub returns : goal.returns
returns c =
    let bs = map point_of c.args.begins.now in
    let ss = map point_of c.args.stops.now in
    let x = c.args.span.now in
    let over = c.loop-mark-test.ensures in
    λ others marks. (
      λ e. absurd cc,
      λ gap. absurd (no_gap others bs ss marks x
          (λ s h. ⊎_elim (λ before. c.loop-mark.invariant.1 s (begins_upto s x h) before)
          (λ on. absurd (let still = covers_before c.loop-mark.number s x c.loop-mark.invariant.0 on h in cc)) (cases_lt s c.loop-mark.number)) gap),
    )
