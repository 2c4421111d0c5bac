-- The order of points, and what a sort by it gives.
use Rattle.std.proofs.Common.{◌≡◌, ℕ, suc, ◌<◌, ◌≤◌, Bool, true, false, not, List, [], ◌∷◌, length, get_or, map, refl, sym, ap, ◌∙◌, Option, Some, None, Ordering, Less, Equal, Greater, is_lt, arith}
use Rattle.std.proofs.lemmas.Bool.{not-true}
use Rattle.std.specs.Cmp.{IsTotalOrder}
use Rattle.std.specs.List.{AllByRecursion}
use Rattle.std.specs.List.Sorted.{IsSorted}
use Rattle.std.specs.Ordering.{is_gt, ordering_reverse}
use Rattle.std.proofs.lemmas.Cmp.{nat_cmp_total, nat_list_cmp_total, on_total, then_total, upto, tied_itself}
use Rattle.std.proofs.lemmas.List.Sorted.{ranks_by, sorted_far}
use Rattle.cat_tables.specs.Table.{IsAscending}
use Rattle.cat_spans.specs.Points.{Point, number_cmp, point_cmp, is_upto}

number_cmp_total : IsTotalOrder number_cmp
number_cmp_total = record { antisymm = antisymm; trans = trans; congr = congr }
  where
    antisymm : (x y : Option ℕ) → number_cmp x y ≡ ordering_reverse (number_cmp y x)
    antisymm None None = refl
    antisymm None (Some y) = refl
    antisymm (Some x) None = refl
    antisymm (Some x) (Some y) = nat_cmp_total.antisymm x y

    trans : (x y z : Option ℕ) → number_cmp x y ≡ Less → number_cmp y z ≡ Less → number_cmp x z ≡ Less
    trans None None z p q = absurd cc
    trans None (Some y) z p q = absurd cc
    trans (Some x) None None p q = absurd cc
    trans (Some x) None (Some z) p q = absurd cc
    trans (Some x) (Some y) None p q = refl
    trans (Some x) (Some y) (Some z) p q = nat_cmp_total.trans x y z p q

    congr : (x y z : Option ℕ) → number_cmp x y ≡ Equal → number_cmp x z ≡ number_cmp y z
    congr None None z p = refl
    congr None (Some y) z p = absurd cc
    congr (Some x) None z p = absurd cc
    congr (Some x) (Some y) None p = refl
    congr (Some x) (Some y) (Some z) p = nat_cmp_total.congr x y z p

point_cmp_total : IsTotalOrder point_cmp
point_cmp_total = then_total (on_total (λ (p : Point). p.group) nat_list_cmp_total) (on_total (λ (p : Point). p.number) number_cmp_total)

-- ---- standing at a point or before it

pub is_upto-refl : (p : Point) → is_upto p p ≡ true
is_upto-refl p = ap (λ o. not (is_gt o)) (tied_itself point_cmp_total p)

pub is_upto-trans : (p q r : Point) → is_upto p q ≡ true → is_upto q r ≡ true → is_upto p r ≡ true
is_upto-trans p q r h k = ap not (upto point_cmp_total p q r (not-true _ h) (not-true _ k))

-- what doesn't stand up to a point stands past it
pub is_upto-back : (p q : Point) → is_lt (point_cmp q p) ≡ false → is_upto p q ≡ true
is_upto-back p q h = back (point_cmp p q) (point_cmp q p) (point_cmp_total.antisymm p q) h
  where
    back : (o r : Ordering) → o ≡ ordering_reverse r → is_lt r ≡ false → not (is_gt o) ≡ true
    back o Less e k = absurd cc
    back o Equal e k = ap (λ x. not (is_gt x)) e
    back o Greater e k = ap (λ x. not (is_gt x)) e

pub is_upto-total : (p q : Point) → is_upto p q ≡ false → is_upto q p ≡ true
is_upto-total p q h = total (point_cmp p q) (point_cmp q p) (point_cmp_total.antisymm q p) h
  where
    total : (o r : Ordering) → r ≡ ordering_reverse o → not (is_gt o) ≡ false → not (is_gt r) ≡ true
    total Less r e k = absurd cc
    total Equal r e k = absurd cc
    total Greater r e k = ap (λ x. not (is_gt x)) e

-- ---- lists that ascend

all_map : {X : Type 0} (f : X → Point) (p : Point) (xs : List X) → ((i : ℕ) (d : X) → i < length xs → is_upto p (f (get_or xs i d)) ≡ true) → AllByRecursion (λ q. is_upto p q ≡ true) (map f xs)
all_map f p [] h = tt
all_map f p (x ∷ xs) h = (h 0 x (omega arith), all_map f p xs (λ i d lt. h (suc i) d (omega arith)))

ascending : {X : Type 0} (f : X → Point) (xs : List X) → ((i j : ℕ) (d : X) → i ≤ j → j < length xs → is_upto (f (get_or xs i d)) (f (get_or xs j d)) ≡ true) → IsAscending (λ p q. is_upto p q ≡ true) (map f xs)
ascending f [] h = tt
ascending f (x ∷ xs) h = (all_map f (f x) xs (λ i d lt. h 0 (suc i) d (omega arith) (omega arith)), ascending f xs (λ i j d le lt. h (suc i) (suc j) d (omega arith) (omega arith)))

-- sorted by what is the order of their points
pub IsAscending-sorted : {X : Type 0} (f : X → Point) (cmp : X → X → Ordering) → ((a b : X) → cmp a b ≡ point_cmp (f a) (f b)) → (xs : List X) → IsSorted cmp xs → IsAscending (λ p q. is_upto p q ≡ true) (map f xs)
IsAscending-sorted f cmp same xs up =
    ascending f xs
    (λ i j d le lt. is_upto-back (f (get_or xs i d)) (f (get_or xs j d)) (sorted_far (λ x y. is_lt (point_cmp (f x) (f y))) (ranks_by point_cmp_total f) xs (λ k e low high. sym (ap is_lt (same _ _)) ∙ up k e low high) i j d le lt))
