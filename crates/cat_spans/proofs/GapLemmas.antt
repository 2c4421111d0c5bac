-- From a number that spans of a group cover up to the next stop in the group, each number is covered.
use Rattle.std.proofs.Common.{◌≡◌, ℕ, zero, suc, ◌+◌, ◌<◌, ◌≤◌, Bool, true, false, cond, not, ◌&&◌, List, [], ◌∷◌, length, get_or, map, refl, sym, ap, ap₂, subst, ◌∙◌, Option, Some, None, Ordering, Less, Equal, Greater, is_eq, max, nat_le, nat_lt, arith}
use Rattle.std.proofs.lemmas.Bool.{and_parts}
use Rattle.std.specs.List.{AllByRecursion, slice_get}
use Rattle.std.specs.List.Sorted.{IsPartitionPoint, IsPartitionedBy}
use Rattle.std.specs.Option.{option_map}
use Rattle.std.specs.Ordering.{is_gt, nat_cmp, ordering_then}
use Rattle.std.proofs.lemmas.Bool.Decides.{nat_tests}
use Rattle.std.proofs.lemmas.Cmp.{nat_list_cmp_total, tied_itself}
use Rattle.std.proofs.lemmas.List.Sorted.{sum_by-IsPermutation}
use Rattle.cat_tables.specs.Table.{key_cmp}
use Rattle.cat_tables.specs.Validity.{is_before}
use Rattle.cat_tables.proofs.KeyLemmas.{key_eq}
use Rattle.cat_spans.specs.Points.{Point, is_upto, number_cmp, stop_of, point_at, upto_count, Ascends, AreMarksOf, IsCoveredAt}
use Rattle.cat_spans.specs.Spans.{Extent, covers, is_in, depth_at, HasGap}
use Rattle.cat_spans.proofs.PointLemmas.{is_upto-refl, is_upto-trans}
use Rattle.cat_spans.proofs.CountLemmas.{count, count_by-is, upto_many, upto_many-none, step_le, at_point}

-- ---- counts in lists that ascend

upto_many-further : (m n : Point) (ps : List Point) → is_upto m n ≡ true → upto_many m ps ≤ upto_many n ps
upto_many-further m n [] le = omega arith
upto_many-further m n (p ∷ ps) le = step_le (is_upto p n) (is_upto p m) _ _ (λ h. is_upto-trans p m n h le) (upto_many-further m n ps le)

-- where a point stands past m, at most the points before it stand up to m
upto_many-bound : (m p : Point) (ps : List Point) (i : ℕ) → Ascends ps → slice_get ps i ≡ Some p → is_upto p m ≡ false → upto_many m ps ≤ i
upto_many-bound m p [] i up at past = absurd cc
upto_many-bound m p (q ∷ qs) zero up at past =
    let same : q ≡ p = cc in
    let P : Point → Type 0 = λ r. is_upto r m ≡ false in
    let none : upto_many m (q ∷ qs) ≡ 0 = upto_many-none m q (q ∷ qs) (subst P (sym same) past) (is_upto-refl q, up.0) in
    omega arith
upto_many-bound m p (q ∷ qs) (suc i) up at past = at_most (is_upto q m) (upto_many-bound m p qs i up.1 at past)
  where
    at_most : (b : Bool) → upto_many m qs ≤ i → cond b 1 0 + upto_many m qs ≤ suc i
    at_most true le = omega arith
    at_most false le = omega arith

-- the point at the place of the count stands past m
upto_many-next : (m p : Point) (ps : List Point) (i : ℕ) → Ascends ps → i ≡ upto_many m ps → slice_get ps i ≡ Some p → is_upto p m ≡ false
upto_many-next m p [] i up e at = absurd cc
upto_many-next m p (q ∷ qs) i up e at = go (is_upto q m) refl i e at (λ j f a. upto_many-next m p qs j up.1 f a)
  where
    go : (b : Bool) → is_upto q m ≡ b → (i : ℕ) → i ≡ cond b 1 0 + upto_many m qs → slice_get (q ∷ qs) i ≡ Some p
        → ((j : ℕ) → j ≡ upto_many m qs → slice_get qs j ≡ Some p → is_upto p m ≡ false) → is_upto p m ≡ false
    go true here zero e at more = absurd (omega arith)
    go true here (suc j) e at more = more j (omega arith) at
    go false here zero e at more = let same : q ≡ p = cc in let P : Point → Type 0 = λ r. is_upto r m ≡ false in subst P same here
    go false here (suc j) e at more = absurd (let none : upto_many m qs ≡ 0 = upto_many-none m q qs here up.0 in omega arith)

all_place : (P : Point → Type 0) (q : Point) (ps : List Point) (j : ℕ) → AllByRecursion P ps → slice_get ps j ≡ Some q → P q
all_place P q [] j all at = absurd cc
all_place P q (p ∷ ps) zero all at = let same : p ≡ q = cc in subst P same all.0
all_place P q (p ∷ ps) (suc j) all at = all_place P q ps j all.1 at

ascends_at : (p q : Point) (ps : List Point) (i j : ℕ) → Ascends ps → slice_get ps i ≡ Some p → slice_get ps j ≡ Some q → i ≤ j → is_upto p q ≡ true
ascends_at p q [] i j up here there le = absurd cc
ascends_at p q (r ∷ rs) zero zero up here there le = let same : p ≡ q = cc in let P : Point → Type 0 = λ x. is_upto p x ≡ true in subst P same (is_upto-refl p)
ascends_at p q (r ∷ rs) zero (suc j) up here there le = let same : r ≡ p = cc in let P : Point → Type 0 = λ x. is_upto x q ≡ true in subst P same (all_place (λ x. is_upto r x ≡ true) q rs j up.0 there)
ascends_at p q (r ∷ rs) (suc i) zero up here there le = absurd (omega arith)
ascends_at p q (r ∷ rs) (suc i) (suc j) up here there le = ascends_at p q rs i j up.1 here there (omega arith)

-- where a point stands up to m, so do those before it
upto_many-reach : (m p : Point) (ps : List Point) (i : ℕ) → Ascends ps → slice_get ps i ≡ Some p → is_upto p m ≡ true → i < upto_many m ps
upto_many-reach m p [] i up at le = absurd cc
upto_many-reach m p (q ∷ qs) zero up at le =
    let same : p ≡ q = cc in
    let P : Point → Type 0 = λ r. is_upto r m ≡ true in
    let here : is_upto q m ≡ true = subst P same le in
    rw here (omega arith)
upto_many-reach m p (q ∷ qs) (suc i) up at le =
    let here : is_upto q m ≡ true = is_upto-trans q p m (all_place (λ x. is_upto q x ≡ true) p qs i up.0 at) le in
    let rest = upto_many-reach m p qs i up.1 at le in
    rw here (omega arith)

-- in a list that ascends, those that stand up to m come first
pub count-partition : {X : Type 0} (p : X → Bool) (xs : List X) (i : ℕ) → i ≤ length xs → IsPartitionPoint (λ x. p x ≡ true) (λ x. p x ≡ false) xs i → count p xs ≡ i
count-partition p [] i le h = omega arith
count-partition p (x ∷ xs) zero le h =
    let none : p x ≡ false = h.1 0 x (omega arith) (omega arith) in
    let rest = count-partition p xs zero (omega arith) (λ k d low high. absurd (omega arith), λ k d low high. h.1 (suc k) d (omega arith) (omega arith)) in
    rw none (omega arith)
count-partition p (x ∷ xs) (suc i) le h =
    let one : p x ≡ true = h.0 0 x (omega arith) (omega arith) in
    let rest = count-partition p xs i (omega arith) (λ k d low high. h.0 (suc k) d (omega arith) (omega arith), λ k d low high. h.1 (suc k) d (omega arith) (omega arith)) in
    rw one (omega arith)

all_get : {X : Type 0} (f : X → Point) (P : Point → Type 0) (xs : List X) (i : ℕ) (d : X) → AllByRecursion P (map f xs) → i < length xs → P (f (get_or xs i d))
all_get f P [] i d all lt = absurd (omega arith)
all_get f P (x ∷ xs) zero d all lt = all.0
all_get f P (x ∷ xs) (suc i) d all lt = all_get f P xs i d all.1 (omega arith)

ascends_get : {X : Type 0} (f : X → Point) (xs : List X) (i j : ℕ) (d : X) → Ascends (map f xs) → i ≤ j → j < length xs → is_upto (f (get_or xs i d)) (f (get_or xs j d)) ≡ true
ascends_get f [] i j d up le lt = absurd (omega arith)
ascends_get f (x ∷ xs) zero zero d up le lt = is_upto-refl (f x)
ascends_get f (x ∷ xs) zero (suc j) d up le lt = all_get f (λ q. is_upto (f x) q ≡ true) xs j d up.0 (omega arith)
ascends_get f (x ∷ xs) (suc i) zero d up le lt = absurd (omega arith)
ascends_get f (x ∷ xs) (suc i) (suc j) d up le lt = ascends_get f xs i j d up.1 (omega arith) (omega arith)

pub partitioned : {X : Type 0} (f : X → Point) (m : Point) (xs : List X) → Ascends (map f xs) → IsPartitionedBy (λ x. is_upto (f x) m) xs
partitioned f m xs up i j d le lt later = is_upto-trans (f (get_or xs i d)) (f (get_or xs j d)) m (ascends_get f xs i j d up le lt) later

counted_place : {X : Type 0} (p : X → Bool) (xs : List X) → 1 ≤ count p xs → (i : ℕ) × (x : X) × (slice_get xs i ≡ Some x) × (p x ≡ true)
counted_place p [] le = absurd (omega arith)
counted_place p (x ∷ xs) le = go (p x) refl le (counted_place p xs)
  where
    go : (b : Bool) → p x ≡ b → 1 ≤ cond b 1 0 + count p xs → (1 ≤ count p xs → (i : ℕ) × (y : _) × (slice_get xs i ≡ Some y) × (p y ≡ true)) → (i : ℕ) × (y : _) × (slice_get (x ∷ xs) i ≡ Some y) × (p y ≡ true)
    go true e le more = (0, x, refl, e)
    go false e le more = let rest = more (omega arith) in (suc rest.0, rest.1, rest.2, rest.3)

-- ---- the next stop of a group

-- what stands past a number of a group and up to a point of it lies in the group
group_between : (g : List ℕ) (s : ℕ) (p q : Point) → is_upto p (point_at g s) ≡ false → is_upto p q ≡ true → q.group ≡ g → p.group ≡ g
group_between g s p q past upto same = go (key_cmp p.group g) refl
  where
    go : (o : Ordering) → key_cmp p.group g ≡ o → p.group ≡ g
    go Less e = absurd (let h : is_upto p (point_at g s) ≡ true = ap (λ o. not (is_gt (ordering_then o (number_cmp p.number (Some s))))) e in cc)
    go Equal e = key_eq p.group g (ap is_eq e)
    go Greater e = absurd (let h : is_upto p q ≡ false = ap (λ k. not (is_gt (ordering_then (key_cmp p.group k) (number_cmp p.number q.number)))) same ∙ ap (λ o. not (is_gt (ordering_then o (number_cmp p.number q.number)))) e in cc)

-- a stop of the group past a number
is_stop_past : List ℕ → ℕ → Point → Bool
is_stop_past g s p = is_eq (key_cmp p.group g) && not (is_upto p (point_at g s))

-- where a span of the group covers the number, it stops past it
stop_past : (g : List ℕ) (s : ℕ) (x : Extent) → (is_in g x && covers s x) ≡ true → is_stop_past g s (stop_of x) ≡ true
unfolding is_stop_past
stop_past g s x h =
    let both = and_parts _ _ h in
    let e : is_upto (stop_of x) (point_at g s) ≡ false = go x.end (key_eq x.group g both.0) both.1 in
    rw (both.0, e) refl
  where
    go : (end : Option ℕ) → x.group ≡ g → (nat_le x.begin s && is_before s end) ≡ true → not (is_gt (ordering_then (key_cmp x.group g) (number_cmp (option_map (max x.begin) end) (Some s)))) ≡ false
    go None same c = ap (λ o. not (is_gt (ordering_then o Greater))) (ap (λ k. key_cmp k g) same ∙ tied_itself nat_list_cmp_total g)
    go (Some n) same c =
        let lt : nat_lt s n ≡ true = (and_parts _ _ c).1 in
        let past : nat_cmp (max x.begin n) s ≡ Greater = grind (arith, nat_tests) in
        ap (λ o. not (is_gt (ordering_then (key_cmp x.group g) o))) past ∙ ap (λ o. not (is_gt (ordering_then o Greater))) (ap (λ k. key_cmp k g) same ∙ tied_itself nat_list_cmp_total g)

stops_enough : (g : List ℕ) (s : ℕ) (xs : List Extent) → count (λ x. is_in g x && covers s x) xs ≤ count (is_stop_past g s) (map stop_of xs)
stops_enough g s [] = omega arith
stops_enough g s (x ∷ xs) = step_le (is_stop_past g s (stop_of x)) (is_in g x && covers s x) _ _ (stop_past g s x) (stops_enough g s xs)

module _ (others : List Extent) (bs ss : List Point) (marks : AreMarksOf others bs ss) where
  upto_is : (m : Point) (ps : List Point) → upto_count m ps ≡ upto_many m ps
  upto_is m ps = count_by-is (λ p. is_upto p m) ps

  -- as many spans cover a number as have begun and not stopped there
  pub depth_is : (g : List ℕ) (s : ℕ) → upto_count (point_at g s) bs ≡ upto_count (point_at g s) ss + depth_at g s others
  depth_is g s =
      let e = at_point 0 others bs ss marks.0 marks.1 g s in
      let a = upto_is (point_at g s) bs in
      let b = upto_is (point_at g s) ss in
      omega arith

  -- where a number is covered, some stop of the group stands past it
  next_stop : (g : List ℕ) (s : ℕ) → IsCoveredAt bs ss (point_at g s) → (j : ℕ) × (q : Point) × (slice_get ss j ≡ Some q) × (q.group ≡ g) × (is_upto q (point_at g s) ≡ false)
  unfolding is_stop_past
  next_stop g s covered =
      let depth = depth_is g s in
      let deep : 1 ≤ depth_at g s others = omega arith in
      let counted = count_by-is (λ x. is_in g x && covers s x) others in
      let enough = stops_enough g s others in
      let permuted : count (is_stop_past g s) ss ≡ count (is_stop_past g s) (map stop_of others) =
      sym (count_by-is (is_stop_past g s) ss) ∙ sum_by-IsPermutation (λ p. cond (is_stop_past g s p) 1 0) (map stop_of others) ss marks.1.same ∙ count_by-is (is_stop_past g s) (map stop_of others) in
      let found = counted_place (is_stop_past g s) ss (omega arith) in
      let both = and_parts (is_eq (key_cmp found.1.group g)) (not (is_upto found.1 (point_at g s))) found.3 in
      (found.0, found.1, found.2, key_eq found.1.group g both.0, was_false (is_upto found.1 (point_at g s)) both.1)
    where
      was_false : (b : Bool) → not b ≡ true → b ≡ false
      was_false true h = absurd cc
      was_false false h = refl

  -- the stop at the place of the count is the group's next one
  next_is : (g : List ℕ) (s i : ℕ) (p : Point) → IsCoveredAt bs ss (point_at g s) → i ≡ upto_count (point_at g s) ss → slice_get ss i ≡ Some p → (p.group ≡ g) × (is_upto p (point_at g s) ≡ false)
  next_is g s i p covered e at =
      let m = point_at g s in
      let past = upto_many-next m p ss i marks.1.ascend (e ∙ upto_is m ss) at in
      let stop = next_stop g s covered in
      let bound = upto_many-bound m stop.1 ss stop.0 marks.1.ascend stop.2 stop.4 in
      let before : i ≤ stop.0 = let a = upto_is m ss in omega arith in
      (group_between g s p stop.1 past (ascends_at p stop.1 ss i stop.0 marks.1.ascend at stop.2 before) stop.3, past)

  -- up to there each number is covered
  lasts : (g : List ℕ) (s i k : ℕ) (p : Point) → IsCoveredAt bs ss (point_at g s) → i ≡ upto_count (point_at g s) ss → slice_get ss i ≡ Some p → s ≤ k → is_upto p (point_at g k) ≡ false → IsCoveredAt bs ss (point_at g k)
  lasts g s i k p covered e at le past =
      let bound = upto_many-bound (point_at g k) p ss i marks.1.ascend at past in
      let further = upto_many-further (point_at g s) (point_at g k) bs (point_le g s k le) in
      let a = upto_is (point_at g s) ss in
      let b = upto_is (point_at g k) ss in
      let c = upto_is (point_at g s) bs in
      let d = upto_is (point_at g k) bs in
      omega arith
    where
      point_le : (g : List ℕ) (m n : ℕ) → m ≤ n → is_upto (point_at g m) (point_at g n) ≡ true
      point_le g m n le = ap (λ o. not (is_gt (ordering_then o (nat_cmp m n)))) (tied_itself nat_list_cmp_total g) ∙ grind (arith, nat_tests)

  -- at a number that nothing covers there is a gap
  pub gap_here : (x : Extent) (n : ℕ) → covers n x ≡ true → upto_count (point_at x.group n) bs ≤ upto_count (point_at x.group n) ss → HasGap others x
  gap_here x n h le = (n, h, let depth = depth_is x.group n in omega arith)

  pub no_gap : (x : Extent) → ((s : ℕ) → covers s x ≡ true → IsCoveredAt bs ss (point_at x.group s)) → HasGap others x → ⊥
  no_gap x covered gap = let depth = depth_is x.group gap.0 in let c = covered gap.0 gap.1 in let none = gap.2 in omega arith

  -- there is a next stop
  pub next_within : (g : List ℕ) (s i : ℕ) → IsCoveredAt bs ss (point_at g s) → i ≡ upto_count (point_at g s) ss → i < length ss
  next_within g s i covered e =
      let stop = next_stop g s covered in
      let bound = upto_many-bound (point_at g s) stop.1 ss stop.0 marks.1.ascend stop.2 stop.4 in
      let within = place_within ss stop.0 stop.1 stop.2 in
      let a = upto_is (point_at g s) ss in
      omega arith
    where
      place_within : (ps : List Point) (j : ℕ) (q : Point) → slice_get ps j ≡ Some q → j < length ps
      place_within [] j q at = absurd cc
      place_within (p ∷ ps) zero q at = omega arith
      place_within (p ∷ ps) (suc j) q at = let rest = place_within ps j q at in omega arith

  module _ (g : List ℕ) (s i : ℕ) (p : Point) (covered : IsCoveredAt bs ss (point_at g s)) (e : i ≡ upto_count (point_at g s) ss) (at : slice_get ss i ≡ Some p) where
    pub stop_further : (n : ℕ) → p.number ≡ Some n → s < n
    stop_further n is =
        let next = next_is g s i p covered e at in
        let P : List ℕ → Type 0 = λ h. not (is_gt (ordering_then (key_cmp h g) (number_cmp p.number (Some s)))) ≡ false in
        let Q : Option ℕ → Type 0 = λ o. not (is_gt (ordering_then (key_cmp g g) (number_cmp o (Some s)))) ≡ false in
        let R : Ordering → Type 0 = λ o. not (is_gt (ordering_then o (nat_cmp n s))) ≡ false in
        let past : not (is_gt (nat_cmp n s)) ≡ false = subst R (tied_itself nat_list_cmp_total g) (subst Q is (subst P next.0 next.1)) in
        grind (arith, nat_tests)

    pub stop_reached : (n : ℕ) → p.number ≡ Some n → i < upto_count (point_at g n) ss
    stop_reached n is =
        let next = next_is g s i p covered e at in
        let same : p ≡ point_at g n = point_same p g n next.0 is in
        let P : Point → Type 0 = λ q. is_upto q (point_at g n) ≡ true in
        let reach = upto_many-reach (point_at g n) p ss i marks.1.ascend at (subst P (sym same) (is_upto-refl (point_at g n))) in
        let a = upto_is (point_at g n) ss in
        omega arith
      where
        point_same : (p : Point) (g : List ℕ) (n : ℕ) → p.group ≡ g → p.number ≡ Some n → p ≡ point_at g n
        point_same p g n e f = λ j. record { group = e j; number = f j }

    past_number : (k : ℕ) (o : Option ℕ) → p.number ≡ o → not (is_gt (number_cmp o (Some k))) ≡ false → is_upto p (point_at g k) ≡ false
    past_number k o is h =
        let next = next_is g s i p covered e at in
        ap₂ (λ a b. not (is_gt (ordering_then (key_cmp a g) (number_cmp b (Some k))))) next.0 is ∙ ap (λ a. not (is_gt (ordering_then a (number_cmp o (Some k))))) (tied_itself nat_list_cmp_total g) ∙ h

    pub lasts_to : (n k : ℕ) → p.number ≡ Some n → s ≤ k → k < n → IsCoveredAt bs ss (point_at g k)
    lasts_to n k is le lt = lasts g s i k p covered e at le (past_number k (Some n) is (grind (arith, nat_tests)))

    pub lasts_on : (k : ℕ) → p.number ≡ None → s ≤ k → IsCoveredAt bs ss (point_at g k)
    lasts_on k is le = lasts g s i k p covered e at le (past_number k None is refl)

-- ---- what the code reads

pub stopped_from : (bs ss : List Point) (m p : Point) (a b : ℕ) → m ≡ p → a ≡ upto_count m ss → b ≡ upto_count m bs → b ≤ a → upto_count p bs ≤ upto_count p ss
stopped_from bs ss m p a b same e f le = let P : Point → Type 0 = λ q. upto_count q bs ≤ upto_count q ss in subst P same (omega arith)

pub covered_from : (bs ss : List Point) (m p : Point) (a b : ℕ) → m ≡ p → a ≡ upto_count m ss → b ≡ upto_count m bs → a < b → IsCoveredAt bs ss p
covered_from bs ss m p a b same e f lt = let P : Point → Type 0 = λ q. upto_count q ss < upto_count q bs in subst P same (omega arith)

pub slice_get-map : {X : Type 0} (f : X → Point) (xs : List X) (i : ℕ) (d : X) → i < length xs → slice_get (map f xs) i ≡ Some (f (get_or xs i d))
slice_get-map f [] i d lt = absurd (omega arith)
slice_get-map f (x ∷ xs) zero d lt = refl
slice_get-map f (x ∷ xs) (suc i) d lt = slice_get-map f xs i d (omega arith)

-- a span covers each number between its begin and one that it covers
pub covers_before : (k n : ℕ) (x : Extent) → x.begin ≤ k → k ≤ n → covers n x ≡ true → covers k x ≡ true
covers_before k n x low le h = go x.end (and_parts _ _ h).1
  where
    go : (end : Option ℕ) → is_before n end ≡ true → (nat_le x.begin k && is_before k end) ≡ true
    go None before = grind (arith, nat_tests)
    go (Some m) before = grind (arith, nat_tests)

pub begins_upto : (k : ℕ) (x : Extent) → covers k x ≡ true → x.begin ≤ k
begins_upto k x h = let low : nat_le x.begin k ≡ true = (and_parts _ _ h).0 in grind (arith, nat_tests)
