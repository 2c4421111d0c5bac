use Rattle.std.proofs.Common.{◌≡◌, refl}
use Rattle.std.proofs.lemmas.List.Sorted.{IsPermutation-map}
use Rattle.cat_spans.specs.declared.marks.Mark.{Mark}
use Rattle.cat_spans.specs.declared.marks.Place.{Place}
use Rattle.cat_spans.specs.declared.marks.Place.TheVariants.{At, Past}
use Rattle.cat_spans.specs.declared.span.Group.{Group}
use Rattle.cat_spans.specs.contracts.marks.MarkOrd.TheImpl.{ghosts}
use Rattle.cat_spans.specs.Marks.{point_of}
use Rattle.cat_spans.specs.Points.{point_cmp}
use Rattle.cat_spans.proofs.PointLemmas.{IsAscending-sorted}
use Rattle.cat_spans.proofs.marks.in_order.Goals as goal

same : (g h : Group) (p q : Place) → let a : Mark = record { group = g; place = p } in let b : Mark = record { group = h; place = q } in ghosts.cmp a b ≡ point_cmp (point_of a) (point_of b)
same g h (At m) (At n) = refl
same g h (At m) Past = refl
same g h Past (At n) = refl
same g h Past Past = refl

pub returns : goal.returns
returns c =
    record {
      same = IsPermutation-map point_of _ _ c.sort_unstable.ensures.permutation;
      ascend = IsAscending-sorted point_of ghosts.cmp (λ a b. same a.group b.group a.place b.place) c.sort_unstable.new.self.items c.sort_unstable.ensures.sorted;
    }
