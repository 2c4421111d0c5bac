-- What a mark stands for: a point.
use Rattle.std.specs.Prelude.{ℕ, Option, Some, None}
use Rattle.cat_spans.specs.declared.marks.Mark.{Mark}
use Rattle.cat_spans.specs.declared.marks.Place.{Place}
use Rattle.cat_spans.specs.declared.marks.Place.TheVariants.{At, Past}
use Rattle.cat_spans.specs.Groups.{group_of}
use Rattle.cat_spans.specs.Points.{Point}

abbrev pub number_of : Place → Option ℕ
number_of (At n) = Some n
number_of Past = None

abbrev pub point_of : Mark → Point
point_of m = record { group = group_of m.group; number = number_of m.place }
