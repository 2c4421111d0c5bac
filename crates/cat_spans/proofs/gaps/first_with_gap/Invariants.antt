use Rattle.std.proofs.Common.{map, List}
use Rattle.std.specs.List.{AllWithin}
use Rattle.cat_spans.specs.Marks.{point_of}
use Rattle.cat_spans.specs.Points.{AreMarksOf}
use Rattle.cat_spans.specs.Spans.{Extent, HasGap}
use Rattle.cat_spans.proofs.gaps.first_with_gap.Given as goal

abbrev pub invariant-loop-place : goal.invariant-loop-place
invariant-loop-place l =
    (others : List Extent) → AreMarksOf others (map point_of l.begins) (map point_of l.stops) → AllWithin (λ x. HasGap others x → ⊥) l.spans 0 l.place
