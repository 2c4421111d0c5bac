-- How many begins and how many stops stand up to a point, and what that says of how deep spans lie there.
use Rattle.std.proofs.Common.{◌≡◌, ℕ, zero, suc, ◌+◌, ◌<◌, ◌≤◌, ◌⊎◌, inl, inr, Bool, true, false, cond, not, ◌&&◌, List, [], ◌∷◌, length, length-drop, get_or, map, drop, count_by, max, refl, sym, ap, subst, ◌∙◌, Option, Some, None, Ordering, Less, Equal, Greater, is_eq, arith, nat_le}
use Rattle.std.proofs.lemmas.Bool.{and_parts}
use Rattle.std.specs.Bool.{MatchBool}
use Rattle.std.specs.List.{AllByRecursion, All}
use Rattle.std.specs.Option.{option_map}
use Rattle.std.specs.Ordering.{is_gt, ordering_then, nat_cmp}
use Rattle.std.specs.List.Sorted.{IsPermutation}
use Rattle.std.proofs.lemmas.Bool.Decides.{nat_tests}
use Rattle.std.proofs.lemmas.List.{length-map}
use Rattle.std.proofs.lemmas.List.Elements.{All-map}
use Rattle.std.proofs.lemmas.List.Sorted.{sum_by-IsPermutation, All-permutation, length_permutation}
use Rattle.std.proofs.lemmas.List.Sums.{sum_by-cons}
use Rattle.cat_tables.specs.Table.{key_cmp}
use Rattle.cat_tables.specs.Validity.{is_before}
use Rattle.cat_spans.specs.Points.{Point, is_upto, Ascends, are_upto, number_cmp, begin_of, stop_of, IsInOrder}
use Rattle.cat_spans.specs.Spans.{Extent, covers, is_in, depth_at, IsWithin, IsExceeded}
use Rattle.cat_spans.proofs.PointLemmas.{is_upto-refl, is_upto-trans}

-- ---- counts by recursion

one : Bool → ℕ
one b = cond b 1 0

abbrev pub count : {X : Type 0} → (X → Bool) → List X → ℕ
count p [] = 0
count p (x ∷ xs) = cond (p x) 1 0 + count p xs

pub count_by-is : {X : Type 0} (p : X → Bool) (xs : List X) → count_by p xs ≡ count p xs
count_by-is p [] = refl
count_by-is p (x ∷ xs) = sum_by-cons (λ y. cond (p y) 1 0) x xs ∙ ap (λ n. cond (p x) 1 0 + n) (count_by-is p xs)

-- how many of some points stand up to m
abbrev pub upto_many : Point → List Point → ℕ
upto_many m = count (λ p. is_upto p m)

-- ---- points that stand up to one another, and points that ascend

pub step_le : (a b : Bool) (m n : ℕ) → (b ≡ true → a ≡ true) → m ≤ n → cond b 1 0 + m ≤ cond a 1 0 + n
step_le true true m n f le = omega arith
step_le true false m n f le = omega arith
step_le false false m n f le = omega arith
step_le false true m n f le = absurd (let e : false ≡ true = f refl in cc)

upto_many-le : (m : Point) (ps qs : List Point) → are_upto ps qs ≡ true → length qs ≤ length ps → upto_many m qs ≤ upto_many m ps
upto_many-le m ps [] up le = omega arith
upto_many-le m [] (q ∷ qs) up le = absurd (omega arith)
upto_many-le m (p ∷ ps) (q ∷ qs) up le =
    let both = and_parts (is_upto p q) (are_upto ps qs) up in
    step_le (is_upto p m) (is_upto q m) _ _ (λ h. is_upto-trans p q m both.0 h) (upto_many-le m ps qs both.1 (omega arith))

upto_many-drop : (m : Point) (n : ℕ) (qs : List Point) → upto_many m qs ≤ n + upto_many m (drop n qs)
upto_many-drop m zero qs = omega arith
upto_many-drop m (suc n) [] = omega arith
upto_many-drop m (suc n) (q ∷ qs) = at (is_upto q m) (upto_many-drop m n qs)
  where
    at : (b : Bool) → upto_many m qs ≤ n + upto_many m (drop n qs) → cond b 1 0 + upto_many m qs ≤ suc n + upto_many m (drop n qs)
    at true h = omega arith
    at false h = omega arith

-- none of the points stands up to one before all of them
pub upto_many-none : (m p : Point) (ps : List Point) → is_upto p m ≡ false → AllByRecursion (λ q. is_upto p q ≡ true) ps → upto_many m ps ≡ 0
upto_many-none m p [] past h = refl
upto_many-none m p (q ∷ qs) past h = at (is_upto q m) refl (upto_many-none m p qs past h.1)
  where
    at : (b : Bool) → is_upto q m ≡ b → upto_many m qs ≡ 0 → cond b 1 0 + upto_many m qs ≡ 0
    at true e more = absurd (let e : is_upto p m ≡ true = is_upto-trans p q m h.0 e in cc)
    at false e more = omega arith

abbrev Among : Point → List Point → Type 0
Among q [] = ⊥
Among q (p ∷ ps) = (p ≡ q) ⊎ Among q ps

among_all : (P : Point → Type 0) (q : Point) (ps : List Point) → AllByRecursion P ps → Among q ps → P q
among_all P q [] all at = absurd at
among_all P q (p ∷ ps) all (inl e) = subst P e all.0
among_all P q (p ∷ ps) all (inr more) = among_all P q ps all.1 more

more_past : (a b : Bool) (i j n : ℕ) → b ≡ true → i + n < j → cond a 1 0 + i + n < cond b 1 0 + j
more_past true true i j n e lt = omega arith
more_past false true i j n e lt = omega arith
more_past a false i j n e lt = absurd cc

one_past : (b : Bool) (i j n : ℕ) → b ≡ true → i + n < j → i + suc n < cond b 1 0 + j
one_past true i j n e lt = omega arith
one_past false i j n e lt = absurd cc

some_past : (b : Bool) (i j : ℕ) → b ≡ true → i ≡ 0 → i + 0 < cond b 1 0 + j
some_past true i j e none = omega arith
some_past false i j e none = absurd cc

-- where they don't all stand up to one another, some point has too many before it
abbrev Deeper : ℕ → List Point → List Point → Type 0
Deeper n ps qs = (q : Point) × Among q qs × (upto_many q ps + n < upto_many q qs)

deeper : (n : ℕ) (ps qs : List Point) → Ascends ps → Ascends qs → are_upto ps (drop n qs) ≡ false → Deeper n ps qs
deeper zero [] qs up above small = absurd cc
deeper zero (p ∷ ps) [] up above small = absurd cc
deeper zero (p ∷ ps) (q ∷ qs) up above small = at (λ later. deeper zero ps qs up.1 above.1 later) (is_upto p q) refl small
  where
    at : (are_upto ps qs ≡ false → Deeper 0 ps qs) → (b : Bool) → is_upto p q ≡ b → (b && are_upto ps qs) ≡ false → Deeper 0 (p ∷ ps) (q ∷ qs)
    at more true e later =
        let rest = more later in
        let m = rest.0 in
        (m, inr rest.1, more_past (is_upto p m) (is_upto q m) _ _ 0 (among_all (λ r. is_upto q r ≡ true) m qs above.0 rest.1) rest.2)
    at more false e later = (q, inl refl, some_past (is_upto q q) _ _ (is_upto-refl q) (upto_many-none q p (p ∷ ps) e (is_upto-refl p, up.0)))
deeper (suc n) [] [] up above small = absurd cc
deeper (suc n) (p ∷ ps) [] up above small = absurd cc
deeper (suc n) ps (q ∷ qs) up above small =
    let rest = deeper n ps qs up above.1 small in
    let m = rest.0 in
    (m, inr rest.1, one_past (is_upto q m) _ _ n (among_all (λ r. is_upto q r ≡ true) m qs above.0 rest.1) rest.2)

-- ---- how deep spans lie

-- a span that begins up to a number either stops up to it or covers it
point_depth : (g : List ℕ) (s : ℕ) (x : Extent) → let m : Point = record { group = g; number = Some s } in
    cond (is_upto (begin_of x) m) 1 0 ≡ cond (is_upto (stop_of x) m) 1 0 + cond (is_in g x && covers s x) 1 0
point_depth g s x = at (key_cmp x.group g) x.begin x.end
  where
    at : (o : Ordering) (b : ℕ) (e : Option ℕ) →
        cond (not (is_gt (ordering_then o (nat_cmp b s)))) 1 0
        ≡ cond (not (is_gt (ordering_then o (number_cmp (option_map (max b) e) (Some s))))) 1 0 + cond (is_eq o && (nat_le b s && is_before s e)) 1 0
    at Less b e = refl
    at Greater b e = refl
    at Equal b None = grind (arith, nat_tests)
    at Equal b (Some e) = grind (arith, nat_tests)

-- of the spans that begin up to a number, those that don't stop up to it cover it
pub upto_many-begins : (g : List ℕ) (s : ℕ) (xs : List Extent) → let m : Point = record { group = g; number = Some s } in
    upto_many m (map begin_of xs) ≡ upto_many m (map stop_of xs) + depth_at g s xs
upto_many-begins g s xs = rw (count_by-is (λ x. is_in g x && covers s x) xs) (go xs)
  where
    add : (a b c i j k : ℕ) → a ≡ b + c → i ≡ j + k → a + i ≡ b + j + (c + k)
    add a b c i j k p q = omega arith

    go : (xs : List Extent) → let m : Point = record { group = g; number = Some s } in
        upto_many m (map begin_of xs) ≡ upto_many m (map stop_of xs) + count (λ x. is_in g x && covers s x) xs
    go [] = refl
    go (x ∷ xs) = add _ _ _ _ _ _ (point_depth g s x) (go xs)

-- in another order there are as many
upto_many-permuted : (m : Point) (ps qs : List Point) → IsPermutation ps qs → upto_many m qs ≡ upto_many m ps
upto_many-permuted m ps qs h = sym (count_by-is (λ p. is_upto p m) qs) ∙ sum_by-IsPermutation (λ p. cond (is_upto p m) 1 0) ps qs h ∙ count_by-is (λ p. is_upto p m) ps

recursive_all : {X : Type 0} (P : X → Type 0) (xs : List X) → All P xs → AllByRecursion P xs
recursive_all P [] all = tt
recursive_all P (x ∷ xs) all = (all 0 x (omega arith), recursive_all P xs (λ k d lt. all (suc k) d (omega arith)))

HasNumber : Point → Type 0
HasNumber p = (s : ℕ) × (p.number ≡ Some s)

-- each begin is a number
begins_are : (xs : List Extent) (bs : List Point) → IsPermutation (map begin_of xs) bs → AllByRecursion HasNumber bs
unfolding HasNumber
begins_are xs bs h = recursive_all HasNumber bs (All-permutation HasNumber (map begin_of xs) bs h (All-map HasNumber begin_of xs (λ k d lt. ((get_or xs k d).begin, refl))))

-- ---- the begins and the stops of spans in order

module _ (limit : ℕ) (xs : List Extent) (bs ss : List Point) (begins : IsInOrder (map begin_of xs) bs) (stops : IsInOrder (map stop_of xs) ss) where
  pub at_point : (g : List ℕ) (s : ℕ) → let m : Point = record { group = g; number = Some s } in upto_many m bs ≡ upto_many m ss + depth_at g s xs
  at_point g s =
      let m : Point = record { group = g; number = Some s } in
      upto_many-permuted m _ bs begins.same ∙ upto_many-begins g s xs ∙ ap (λ n. n + depth_at g s xs) (sym (upto_many-permuted m _ ss stops.same))

  IsWithin-upto : are_upto ss (drop limit bs) ≡ true → IsWithin limit xs
  IsWithin-upto up g s =
      let m : Point = record { group = g; number = Some s } in
      let long : length bs ≡ length xs = length_permutation _ _ begins.same ∙ length-map xs begin_of in
      let as_long : length ss ≡ length xs = length_permutation _ _ stops.same ∙ length-map xs stop_of in
      let later = upto_many-drop m limit bs in
      let fewer = upto_many-le m ss (drop limit bs) up (omega (arith, length-drop limit bs)) in
      let here = at_point g s in
      omega arith

  IsExceeded-upto : are_upto ss (drop limit bs) ≡ false → IsExceeded limit xs
  unfolding HasNumber
  IsExceeded-upto up =
      let found = deeper limit ss bs stops.ascend begins.ascend up in
      let number = among_all HasNumber found.0 bs (begins_are xs bs begins.same) found.1 in
      let m : Point = record { group = found.0.group; number = Some number.0 } in
      let P : Option ℕ → Type 0 = λ n. let q : Point = record { group = found.0.group; number = n } in upto_many q ss + limit < upto_many q bs in
      let deep : upto_many m ss + limit < upto_many m bs = subst P number.1 found.2 in
      let here = at_point found.0.group number.0 in
      (found.0.group, number.0, omega arith)

  pub within_or_exceeded : (b : Bool) → b ≡ are_upto ss (drop limit bs) → MatchBool b (IsWithin limit xs) (IsExceeded limit xs)
  within_or_exceeded true e = IsWithin-upto (sym e)
  within_or_exceeded false e = IsExceeded-upto (sym e)
