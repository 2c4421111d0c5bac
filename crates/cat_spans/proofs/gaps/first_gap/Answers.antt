use Rattle.std.proofs.Common.{map, List, subst, sym}
use Rattle.cat_spans.specs.declared.marks.Mark.{Mark}
use Rattle.cat_spans.specs.Marks.{point_of}
use Rattle.cat_spans.specs.Points.{IsInOrder, begin_of, stop_of}
use Rattle.cat_spans.proofs.gaps.first_gap.Goals as goal

pub first_with_gap-requires : goal.first_with_gap-requires
first_with_gap-requires c =
    let others = c.args.others.now in
    let P : List Mark → Type 0 = λ ms. IsInOrder (map begin_of others) (map point_of ms) in
    let Q : List Mark → Type 0 = λ ms. IsInOrder (map stop_of others) (map point_of ms) in
    (others, (subst P (sym c.deref.ensures.value) c.in_ok-begins.ensures, subst Q (sym c.deref-2.ensures.value) c.in_ok-stops.ensures))

pub returns : goal.returns
returns c =
    let others = c.args.others.now in
    let P : List Mark → Type 0 = λ ms. IsInOrder (map begin_of others) (map point_of ms) in
    let Q : List Mark → Type 0 = λ ms. IsInOrder (map stop_of others) (map point_of ms) in
    c.first_with_gap.ensures others (subst P (sym c.deref.ensures.value) c.in_ok-begins.ensures, subst Q (sym c.deref-2.ensures.value) c.in_ok-stops.ensures)
