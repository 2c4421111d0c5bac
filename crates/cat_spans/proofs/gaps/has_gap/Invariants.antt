use Rattle.std.proofs.Common.{map, length, ℕ, ◌-◌, ◌<◌, ◌≤◌}
use Rattle.cat_spans.specs.Marks.{point_of}
use Rattle.cat_spans.specs.Points.{IsCoveredAt, point_at, upto_count}
use Rattle.cat_spans.proofs.gaps.has_gap.Given as goal

abbrev pub invariant-loop-mark : goal.invariant-loop-mark
invariant-loop-mark l =
    (l.span.begin ≤ l.number)
    × ((n : ℕ) → l.span.begin ≤ n → n < l.number → IsCoveredAt (map point_of l.begins) (map point_of l.stops) (point_at l.span.group n))

abbrev pub decreases-loop-mark : goal.decreases-loop-mark
decreases-loop-mark l = length l.stops - upto_count (point_at l.span.group l.number) (map point_of l.stops)
