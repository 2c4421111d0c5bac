-- Rows in the order of their ids, some of which are left out or cut short.
use Rattle.std.proofs.Common.{◌≡◌, ℕ, ◌≤◌, ◌<◌, Bool, true, false, cond, nat_lt, true≢false, suc, Bor, List, [], ◌∷◌, filter, length, drop, get_or, subst, refl, sym, ap, ap₂, ◌∙◌, arith}
use Rattle.std.specs.List.{AllByRecursion}
use Rattle.std.proofs.lemmas.Bool.{le-ltb, ltb-false, ltb-true}
use Rattle.std.specs.List.Sorted.{IsNonDecreasingBy, IsSortedByKey, IsStableByKey, ties}
use Rattle.std.specs.Fn.{Called, ComputesKey, Mut}
use Rattle.std.proofs.lemmas.Fn.{always_returns_same}
use Rattle.std.proofs.lemmas.List.Sorted.{IsNonDecreasingBy-from_sort_by_key}
use Rattle.std.specs.Ordering.{is_lt, nat_cmp}
use Rattle.std.specs.declared.cmp.Ordering.{Ordering}
use Rattle.std.specs.declared.cmp.Ordering.TheVariants.{Less, Equal, Greater}
use Rattle.std.specs.Cmp.{nat_cmp_is}
use Rattle.std.specs.Prelude.{◌&&◌, not}
use Rattle.cat_view.specs.Named.{ordered, put_by}

module _ {X : Type 0} (n : X → ℕ) where
  abbrev From : ℕ → List X → Type 0
  From least xs = AllByRecursion (λ x. least ≤ n x) xs

  abbrev Rises : List X → Type 0
  Rises [] = Unit {0}
  Rises (x ∷ xs) = From (n x) xs × Rises xs

  from_less : (a b : ℕ) (xs : List X) → a ≤ b → From b xs → From a xs
  from_less a b [] le all = tt
  from_less a b (x ∷ xs) le all = (omega (arith, le, all.0), from_less a b xs le all.1)

  from_put : (least : ℕ) (x : X) (ys : List X) → least ≤ n x → From least ys → From least (put_by n x ys)
  from_put least x [] le all = (le, tt)
  from_put least x (y ∷ ys) le all = go (nat_lt (n y) (n x)) (from_put least x ys le all.1)
    where
      go : (b : Bool) → From least (put_by n x ys) → From least (cond b (y ∷ put_by n x ys) (x ∷ y ∷ ys))
      go true more = (all.0, more)
      go false more = (le, all)

  rises_put : (x : X) (ys : List X) → Rises ys → Rises (put_by n x ys)
  rises_put x [] up = (tt, tt)
  rises_put x (y ∷ ys) up = go (nat_lt (n y) (n x)) refl (rises_put x ys up.1)
    where
      go : (b : Bool) → nat_lt (n y) (n x) ≡ b → Rises (put_by n x ys) → Rises (cond b (y ∷ put_by n x ys) (x ∷ y ∷ ys))
      go true e more =
          let lt : n y < n x = ltb-true (n y) (n x) e in
          (from_put (n y) x ys (omega (arith, lt)) up.0, more)
      go false e more =
          let le : n x ≤ n y = ltb-false (n y) (n x) e in
          ((le, from_less (n x) (n y) ys le up.0), up)

  pub rises_ordered : (xs : List X) → Rises (ordered n xs)
  rises_ordered [] = tt
  rises_ordered (x ∷ xs) = rises_put x (ordered n xs) (rises_ordered xs)

  -- before those that aren't lower
  in_front : (x : X) (zs : List X) → From (n x) zs → put_by n x zs ≡ x ∷ zs
  in_front x [] all = refl
  in_front x (z ∷ zs) all = rw (le-ltb (n z) (n x) all.0) refl

  -- rows that rise are in order
  pub ordered_rises : (xs : List X) → Rises xs → ordered n xs ≡ xs
  ordered_rises [] up = refl
  ordered_rises (x ∷ xs) up = ap (put_by n x) (ordered_rises xs up.1) ∙ in_front x xs up.0

  module _ (p : X → Bool) where
    from_filter : (least : ℕ) (xs : List X) → From least xs → From least (filter p xs)
    from_filter least [] all = tt
    from_filter least (x ∷ xs) all = go (p x) (from_filter least xs all.1)
      where
        go : (b : Bool) → From least (filter p xs) → From least (cond b (x ∷ filter p xs) (filter p xs))
        go true more = (all.0, more)
        go false more = more

    filter_put : (x : X) (ys : List X) → Rises ys → filter p (put_by n x ys) ≡ cond (p x) (put_by n x (filter p ys)) (filter p ys)
    filter_put x [] up = go (p x)
      where
        go : (b : Bool) → cond b (x ∷ []) [] ≡ cond b (x ∷ []) []
        go b = refl
    filter_put x (y ∷ ys) up = go (nat_lt (n y) (n x)) refl (p x) refl (p y) refl (filter_put x ys up.1)
      where
        go : (t : Bool) → nat_lt (n y) (n x) ≡ t → (b : Bool) → p x ≡ b → (c : Bool) → p y ≡ c
            → filter p (put_by n x ys) ≡ cond (p x) (put_by n x (filter p ys)) (filter p ys)
            → filter p (put_by n x (y ∷ ys)) ≡ cond (p x) (put_by n x (filter p (y ∷ ys))) (filter p (y ∷ ys))
        go true e true f true h more = rw (e, f, h, e) (ap (λ l. y ∷ l) (more ∙ ap (λ b. cond b (put_by n x (filter p ys)) (filter p ys)) f))
        go true e true f false h more = rw (e, f, h) (more ∙ ap (λ b. cond b (put_by n x (filter p ys)) (filter p ys)) f)
        go true e false f true h more = rw (e, f, h) (ap (λ l. y ∷ l) (more ∙ ap (λ b. cond b (put_by n x (filter p ys)) (filter p ys)) f))
        go true e false f false h more = rw (e, f, h) (more ∙ ap (λ b. cond b (put_by n x (filter p ys)) (filter p ys)) f)
        go false e true f c h more =
            let le : n x ≤ n y = ltb-false (n y) (n x) e in
            let all : From (n x) (y ∷ ys) = (le, from_less (n x) (n y) ys le up.0) in
            rw (e, f) (sym (in_front x (filter p (y ∷ ys)) (from_filter (n x) (y ∷ ys) all)))
        go false e false f c h more = rw (e, f) refl

    pub ordered_filter : (xs : List X) → ordered n (filter p xs) ≡ filter p (ordered n xs)
    ordered_filter [] = refl
    ordered_filter (x ∷ xs) = go (p x) refl (ordered_filter xs) (filter_put x (ordered n xs) (rises_ordered xs))
      where
        go : (b : Bool) → p x ≡ b → ordered n (filter p xs) ≡ filter p (ordered n xs)
            → filter p (put_by n x (ordered n xs)) ≡ cond (p x) (put_by n x (filter p (ordered n xs))) (filter p (ordered n xs))
            → ordered n (filter p (x ∷ xs)) ≡ filter p (put_by n x (ordered n xs))
        go true e more put = rw e (ap (put_by n x) more ∙ sym (put ∙ ap (λ b. cond b (put_by n x (filter p (ordered n xs))) (filter p (ordered n xs))) e))
        go false e more put = rw e (more ∙ sym (put ∙ ap (λ b. cond b (put_by n x (filter p (ordered n xs))) (filter p (ordered n xs))) e))

-- ---- one list that rises with the same rows of each number

module _ {X : Type 0} (n : X → ℕ) where
  abbrev pub tie : X → X → Bool
  tie x y = ties (λ a b. is_lt (nat_cmp (n a) (n b))) x y

  both : (x y : X) (o r : Ordering) → nat_cmp (n x) (n y) ≡ o → nat_cmp (n y) (n x) ≡ r → tie x y ≡ (not (is_lt o) && not (is_lt r))
  both x y o r e f = ap₂ (λ a b. not (is_lt a) && not (is_lt b)) e f

  tie_same : (x y : X) → n x ≡ n y → tie x y ≡ true
  tie_same x y e = both x y Equal Equal (sym (nat_cmp_is (n x) (n y) Equal e)) (sym (nat_cmp_is (n y) (n x) Equal (sym e)))

  tie_less : (x y : X) → n x < n y → tie x y ≡ false
  tie_less x y lt = both x y Less Greater (sym (nat_cmp_is (n x) (n y) Less lt)) (sym (nat_cmp_is (n y) (n x) Greater lt))

  tie_more : (x y : X) → n y < n x → tie x y ≡ false
  tie_more x y lt = both x y Greater Less (sym (nat_cmp_is (n x) (n y) Greater lt)) (sym (nat_cmp_is (n y) (n x) Less lt))

  no_ties : (z : X) (least : ℕ) (xs : List X) → n z < least → From n least xs → filter (tie z) xs ≡ []
  no_ties z least [] lt all = refl
  no_ties z least (x ∷ xs) lt all = rw (tie_less z x (omega (arith, lt, all.0))) (no_ties z least xs lt all.1)

  -- a list that begins with a row has one of its number
  begins : (x : X) (xs : List X) → filter (tie x) (x ∷ xs) ≡ x ∷ filter (tie x) xs
  begins x xs = ap (λ b. cond b (x ∷ filter (tie x) xs) (filter (tie x) xs)) (tie_same x x refl)

  lacks : (x : X) (xs ys : List X) → filter (tie x) (x ∷ xs) ≡ ys → ys ≡ [] → ⊥
  lacks x xs ys h none =
      let bad : length (x ∷ filter (tie x) xs) ≡ 0 = ap length (sym (begins x xs) ∙ h ∙ none) in
      omega (arith, bad)

  abbrev Alike : List X → List X → Type 0
  Alike xs ys = (z : X) → filter (tie z) xs ≡ filter (tie z) ys

  tails : (x : X) (xs ys : List X) → Alike (x ∷ xs) (x ∷ ys) → Alike xs ys
  tails x xs ys h z = go (tie z x) (h z)
    where
      go : (b : Bool) → cond b (x ∷ filter (tie z) xs) (filter (tie z) xs) ≡ cond b (x ∷ filter (tie z) ys) (filter (tie z) ys) → filter (tie z) xs ≡ filter (tie z) ys
      go true e = ap (drop 1) e
      go false e = e

  heads : (x y : X) (xs ys : List X) → n x ≡ n y → Alike (x ∷ xs) (y ∷ ys) → x ≡ y
  heads x y xs ys e h =
      let same : x ∷ filter (tie x) xs ≡ y ∷ filter (tie x) ys = sym (begins x xs) ∙ h x ∙ ap (λ b. cond b (y ∷ filter (tie x) ys) (filter (tie x) ys)) (tie_same x y e) in
      ap (λ l. get_or l 0 x) same

  pub unique : (xs ys : List X) → Rises n xs → Rises n ys → Alike xs ys → xs ≡ ys
  unique [] [] up vp h = refl
  unique [] (y ∷ ys) up vp h = absurd (lacks y ys [] (sym (h y)) refl)
  unique (x ∷ xs) [] up vp h = absurd (lacks x xs [] (h x) refl)
  unique (x ∷ xs) (y ∷ ys) up vp h = go (nat_lt (n x) (n y)) refl (nat_lt (n y) (n x)) refl (unique xs ys up.1 vp.1)
    where
      go : (b : Bool) → nat_lt (n x) (n y) ≡ b → (c : Bool) → nat_lt (n y) (n x) ≡ c → (Alike xs ys → xs ≡ ys) → x ∷ xs ≡ y ∷ ys
      go true e c f more =
          let lt : n x < n y = ltb-true (n x) (n y) e in
          absurd (lacks x xs (filter (tie x) (y ∷ ys)) (h x) (no_ties x (n y) (y ∷ ys) lt (omega arith, vp.0)))
      go false e true f more =
          let lt : n y < n x = ltb-true (n y) (n x) f in
          absurd (lacks y ys (filter (tie y) (x ∷ xs)) (sym (h y)) (no_ties y (n x) (x ∷ xs) lt (omega arith, up.0)))
      go false e false f more =
          let one : n y ≤ n x = ltb-false (n x) (n y) e in
          let two : n x ≤ n y = ltb-false (n y) (n x) f in
          let same : x ≡ y = heads x y xs ys (omega (arith, one, two)) h in
          ap₂ ◌∷◌ same (more (tails x xs ys (subst (λ w. Alike (x ∷ xs) (w ∷ ys)) (sym same) h)))

  -- ---- the rows of one number

  tied : (z x : X) → tie z x ≡ true → n x ≡ n z
  tied z x e = go (nat_lt (n z) (n x)) refl (nat_lt (n x) (n z)) refl
    where
      go : (b : Bool) → nat_lt (n z) (n x) ≡ b → (c : Bool) → nat_lt (n x) (n z) ≡ c → n x ≡ n z
      go true f c g = absurd (true≢false (sym e ∙ tie_less z x (ltb-true (n z) (n x) f)))
      go false f true g = absurd (true≢false (sym e ∙ tie_more z x (ltb-true (n x) (n z) g)))
      go false f false g = omega (arith, ltb-false (n z) (n x) f, ltb-false (n x) (n z) g)

  all_tied : (z : X) (xs : List X) → AllByRecursion (λ x. n x ≡ n z) (filter (tie z) xs)
  all_tied z [] = tt
  all_tied z (x ∷ xs) = go (tie z x) refl (all_tied z xs)
    where
      go : (b : Bool) → tie z x ≡ b → AllByRecursion (λ x. n x ≡ n z) (filter (tie z) xs) → AllByRecursion (λ x. n x ≡ n z) (cond b (x ∷ filter (tie z) xs) (filter (tie z) xs))
      go true e more = (tied z x e, more)
      go false e more = more

  from_tied : (least : ℕ) (z : X) (xs : List X) → least ≡ n z → AllByRecursion (λ x. n x ≡ n z) xs → From n least xs
  from_tied least z [] is all = tt
  from_tied least z (x ∷ xs) is all = (omega (arith, is, all.0), from_tied least z xs is all.1)

  rises_tied : (z : X) (xs : List X) → AllByRecursion (λ x. n x ≡ n z) xs → Rises n xs
  rises_tied z [] all = tt
  rises_tied z (x ∷ xs) all = (from_tied (n x) z xs all.0 all.1, rises_tied z xs all.1)

  -- ---- a stable sort puts a list in order

  from_each : (least : ℕ) (xs : List X) → ((j : ℕ) (d : X) → j < length xs → least ≤ n (get_or xs j d)) → From n least xs
  from_each least [] h = tt
  from_each least (x ∷ xs) h = (h 0 x (omega arith), from_each least xs (λ j d lt. h (suc j) d (omega (arith, lt))))

  rises_from : (xs : List X) → IsNonDecreasingBy n xs → Rises n xs
  rises_from [] h = tt
  rises_from (x ∷ xs) h = (
    from_each (n x) xs (λ j d lt. h 0 (suc j) d (omega arith) (omega (arith, lt))),
    rises_from xs (λ i j d le lt. h (suc i) (suc j) d (omega (arith, le)) (omega (arith, lt))),
  )

  pub sorted_is : {F : Type 0} {g : Mut F (Bor X × Unit {0}) ℕ} {f : F} (xs ys : List X)
      → ((key : X → ℕ) → ComputesKey g key f → IsSortedByKey key nat_cmp ys)
      → ((key : X → ℕ) → ComputesKey g key f → IsStableByKey key nat_cmp xs ys)
      → ((a : Bor X × Unit {0}) (r : ℕ) (f' : F) → Called g f a r f' → (r ≡ n a.0.now) × (f' ≡ f)) → ys ≡ ordered n xs
  sorted_is {g = g} {f = f} xs ys sorted stable h =
      unique ys (ordered n xs) (rises_from ys (IsNonDecreasingBy-from_sort_by_key n ys sorted h)) (rises_ordered n xs)
      (λ z. stable n (always_returns_same g (λ a r. r ≡ n a.0.now) f h) z
      ∙ sym (ordered_rises n (filter (tie z) xs) (rises_tied z (filter (tie z) xs) (all_tied z xs))) ∙ ordered_filter n (tie z) xs)
