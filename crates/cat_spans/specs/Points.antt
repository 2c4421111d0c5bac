-- Where spans begin to cover their group and where they stop to, in one order: by group, and then by number.
use Rattle.std.specs.Prelude.{◌≡◌, ◌<◌, ℕ, Bool, true, ◌&&◌, not, List, [], ◌∷◌, Option, Some, None, count_by, map, max}
use Rattle.std.specs.Option.{option_map}
use Rattle.std.specs.Ordering.{is_gt, nat_cmp, ordering_then}
use Rattle.std.specs.declared.cmp.Ordering.{Ordering}
use Rattle.std.specs.declared.cmp.Ordering.TheVariants.{Less, Equal, Greater}
use Rattle.std.specs.List.Sorted.{IsPermutation}
use Rattle.cat_tables.specs.Table.{key_cmp, IsAscending}
use Rattle.cat_spans.specs.Spans.{Extent}

-- a number in a group, or the place past all numbers of the group
pub record Point : Type 0 where
  pub group : List ℕ
  pub number : Option ℕ

abbrev pub number_cmp : Option ℕ → Option ℕ → Ordering
number_cmp None None = Equal
number_cmp None (Some n) = Greater
number_cmp (Some m) None = Less
number_cmp (Some m) (Some n) = nat_cmp m n

abbrev pub point_cmp : Point → Point → Ordering
point_cmp p q = ordering_then (key_cmp p.group q.group) (number_cmp p.number q.number)

-- p stands at q or before it
abbrev pub is_upto : Point → Point → Bool
is_upto p q = not (is_gt (point_cmp p q))

abbrev pub begin_of : Extent → Point
begin_of x = record { group = x.group; number = Some x.begin }

-- a span that doesn't end past its begin stops where it begins
abbrev pub stop_of : Extent → Point
stop_of x = record { group = x.group; number = option_map (max x.begin) x.end }

-- as far as both lists go, each point of the one stands at that of the other or before it
abbrev pub are_upto : List Point → List Point → Bool
are_upto [] qs = true
are_upto (p ∷ ps) [] = true
are_upto (p ∷ ps) (q ∷ qs) = is_upto p q && are_upto ps qs

-- each point stands at those that follow it or before them
abbrev pub Ascends : List Point → Type 0
Ascends = IsAscending (λ p q. is_upto p q ≡ true)

-- how many of some points stand up to m
abbrev pub upto_count : Point → List Point → ℕ
upto_count m = count_by (λ p. is_upto p m)

-- the points of qs are those of ps, in order
pub record IsInOrder (ps qs : List Point) : Type 0 where
  pub same : IsPermutation ps qs
  pub ascend : Ascends qs

-- the begins and the stops of some spans, in order
abbrev pub AreMarksOf : List Extent → List Point → List Point → Type 0
AreMarksOf spans begins stops = IsInOrder (map begin_of spans) begins × IsInOrder (map stop_of spans) stops

abbrev pub point_at : List ℕ → ℕ → Point
point_at g n = record { group = g; number = Some n }

-- more have begun than stopped there
abbrev pub IsCoveredAt : List Point → List Point → Point → Type 0
IsCoveredAt begins stops p = upto_count p stops < upto_count p begins
