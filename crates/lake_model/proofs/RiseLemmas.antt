-- Numbers that rise below a limit.
use Rattle.std.proofs.Common.{◌≡◌, ◌≢◌, ℕ, ◌+◌, ◌<◌, ◌≤◌, List, [], ◌∷◌, ◌++◌, map, filter, refl, sym, arith, Bool, true, false}
use Rattle.std.specs.Prelude.{not}
use Rattle.std.specs.List.{AllByRecursion}
use Rattle.lake_model.specs.Laws.{AreApart, RiseBelow}

module _ {X : Type 0} (key : X → ℕ) where
  past-filter : (n : ℕ) (p : X → Bool) (xs : List X) → AllByRecursion (λ y. n < y) (map key xs) → AllByRecursion (λ y. n < y) (map key (filter p xs))
  past-filter n p [] h = h
  past-filter n p (x ∷ xs) h = go (p x) refl (past-filter n p xs h.1)
    where
      go : (b : Bool) → p x ≡ b → AllByRecursion (λ y. n < y) (map key (filter p xs)) → AllByRecursion (λ y. n < y) (map key (filter p (x ∷ xs)))
      go true e rest = rw e (h.0, rest)
      go false e rest = rw e rest

  pub rise-filter : (limit : ℕ) (p : X → Bool) (xs : List X) → RiseBelow limit (map key xs) → RiseBelow limit (map key (filter p xs))
  rise-filter limit p [] h = h
  rise-filter limit p (x ∷ xs) h = go (p x) refl (past-filter (key x) p xs h.1) (rise-filter limit p xs h.2)
    where
      go : (b : Bool) → p x ≡ b → AllByRecursion (λ y. key x < y) (map key (filter p xs)) → RiseBelow limit (map key (filter p xs)) → RiseBelow limit (map key (filter p (x ∷ xs)))
      go true e past rest = rw e (h.0, past, rest)
      go false e past rest = rw e rest

  past-apart : (n : ℕ) (p : X → Bool) (xs : List X) → AllByRecursion (λ y. n < y) (map key xs) → AllByRecursion (λ y. n ≢ y) (map key (filter p xs))
  past-apart n p [] h = tt
  past-apart n p (x ∷ xs) h = go (p x) refl (past-apart n p xs h.1)
    where
      go : (b : Bool) → p x ≡ b → AllByRecursion (λ y. n ≢ y) (map key (filter p xs)) → AllByRecursion (λ y. n ≢ y) (map key (filter p (x ∷ xs)))
      go true e rest = rw e ((λ same. omega (arith, same, h.0)), rest)
      go false e rest = rw e rest

  -- what passes a test and what fails it have different numbers
  pub parts-apart : (limit : ℕ) (p : X → Bool) (xs : List X) → RiseBelow limit (map key xs)
      → AreApart (map key (filter p xs)) (map key (filter (λ x. not (p x)) xs))
  parts-apart limit p [] h = tt
  parts-apart limit p (x ∷ xs) h = go (p x) refl (parts-apart limit p xs h.2)
    where
      front : (ns : List ℕ) → AllByRecursion (λ a. key x < a) ns → AreApart ns (map key (filter (λ y. not (p y)) xs)) → AreApart ns (key x ∷ map key (filter (λ y. not (p y)) xs))
      front [] past rest = tt
      front (a ∷ ns) past rest = (((λ same. omega (arith, same, past.0)), rest.0), front ns past.1 rest.1)

      go : (b : Bool) → p x ≡ b → AreApart (map key (filter p xs)) (map key (filter (λ y. not (p y)) xs)) → AreApart (map key (filter p (x ∷ xs))) (map key (filter (λ y. not (p y)) (x ∷ xs)))
      go true e rest = rw e (past-apart (key x) (λ y. not (p y)) xs h.1, rest)
      go false e rest = rw e (front (map key (filter p xs)) (past-filter (key x) p xs h.1) rest)

-- ---- numbers alone

past-join : (x n : ℕ) (xs ys : List ℕ) → x < n → AllByRecursion (λ y. x < y) xs → AllByRecursion (λ y. n ≤ y) ys → AllByRecursion (λ y. x < y) (xs ++ ys)
past-join x n [] [] lt h k = tt
past-join x n [] (y ∷ ys) lt h k = (omega (arith, lt, k.0), past-join x n [] ys lt h k.1)
past-join x n (z ∷ xs) ys lt h k = (h.0, past-join x n xs ys lt h.1 k)

-- further numbers behind those below a limit
pub rise-join : (n limit : ℕ) (xs ys : List ℕ) → n ≤ limit → RiseBelow n xs → AllByRecursion (λ y. n ≤ y) ys → RiseBelow limit ys → RiseBelow limit (xs ++ ys)
rise-join n limit [] ys le h k up = up
rise-join n limit (x ∷ xs) ys le h k up = (omega (arith, h.0, le), past-join x n xs ys h.0 h.1 k, rise-join n limit xs ys le h.2 k up)

pub rise-more : (n limit : ℕ) (xs : List ℕ) → n ≤ limit → RiseBelow n xs → RiseBelow limit xs
rise-more n limit [] le h = h
rise-more n limit (x ∷ xs) le h = (omega (arith, h.0, le), h.1, rise-more n limit xs le h.2)

module _ {X : Type 0} (f g : X → ℕ) (k : ℕ) where
  past-shifted : (m n : ℕ) → n ≡ m + k → (xs : List X) → AllByRecursion (λ x. g x ≡ f x + k) xs → AllByRecursion (λ y. m < y) (map f xs) → AllByRecursion (λ y. n < y) (map g xs)
  past-shifted m n e [] is h = tt
  past-shifted m n e (x ∷ xs) is h = (omega (arith, e, is.0, h.0), past-shifted m n e xs is.1 h.1)

  -- numbers that are all greater by k
  pub rise-shifted : (limit : ℕ) (xs : List X) → AllByRecursion (λ x. g x ≡ f x + k) xs → RiseBelow limit (map f xs) → RiseBelow (limit + k) (map g xs)
  rise-shifted limit [] is h = tt
  rise-shifted limit (x ∷ xs) is h = (omega (arith, is.0, h.0), past-shifted (f x) (g x) is.0 xs is.1 h.1, rise-shifted limit xs is.1 h.2)

-- ---- numbers of two lists

pub all-below : (n : ℕ) (xs : List ℕ) → RiseBelow n xs → AllByRecursion (λ x. x < n) xs
all-below n [] h = tt
all-below n (x ∷ xs) h = (h.0, all-below n xs h.2)

pub apart-beyond : (n : ℕ) (xs ys : List ℕ) → AllByRecursion (λ x. x < n) xs → AllByRecursion (λ y. n ≤ y) ys → AreApart xs ys
apart-beyond n [] ys h k = tt
apart-beyond n (x ∷ xs) ys h k = (front ys k, apart-beyond n xs ys h.1 k)
  where
    front : (ys : List ℕ) → AllByRecursion (λ y. n ≤ y) ys → AllByRecursion (λ y. x ≢ y) ys
    front [] k = tt
    front (y ∷ ys) k = ((λ same. omega (arith, same, h.0, k.0)), front ys k.1)

pub apart-turned : (xs ys : List ℕ) → AreApart xs ys → AreApart ys xs
apart-turned xs [] h = tt
apart-turned xs (y ∷ ys) h = (first xs h, apart-turned xs ys (rest xs h))
  where
    first : (xs : List ℕ) → AreApart xs (y ∷ ys) → AllByRecursion (λ x. y ≢ x) xs
    first [] h = tt
    first (x ∷ xs) h = ((λ same. h.0.0 (sym same)), first xs h.1)

    rest : (xs : List ℕ) → AreApart xs (y ∷ ys) → AreApart xs ys
    rest [] h = tt
    rest (x ∷ xs) h = (h.0.1, rest xs h.1)

apart-front : (xs ys zs : List ℕ) → AreApart xs zs → AreApart ys zs → AreApart (xs ++ ys) zs
apart-front [] ys zs h k = k
apart-front (x ∷ xs) ys zs h k = (h.0, apart-front xs ys zs h.1 k)

pub apart-joined : (ws xs ys zs : List ℕ) → AreApart ws ys → AreApart ws zs → AreApart xs ys → AreApart xs zs → AreApart (ws ++ xs) (ys ++ zs)
apart-joined ws xs ys zs wy wz xy xz =
    apart-turned (ys ++ zs) (ws ++ xs)
    (apart-front ys zs (ws ++ xs) (apart-turned (ws ++ xs) ys (apart-front ws xs ys wy xy)) (apart-turned (ws ++ xs) zs (apart-front ws xs zs wz xz)))

apart-filter : {X : Type 0} (key : X → ℕ) (p : X → Bool) (xs : List X) (ys : List ℕ) → AreApart (map key xs) ys → AreApart (map key (filter p xs)) ys
apart-filter key p [] ys h = tt
apart-filter key p (x ∷ xs) ys h = go (p x) refl (apart-filter key p xs ys h.1)
  where
    go : (b : Bool) → p x ≡ b → AreApart (map key (filter p xs)) ys → AreApart (map key (filter p (x ∷ xs))) ys
    go true e rest = rw e (h.0, rest)
    go false e rest = rw e rest

pub apart-filters : {X Y : Type 0} (f : X → ℕ) (g : Y → ℕ) (p : X → Bool) (q : Y → Bool) (xs : List X) (ys : List Y) → AreApart (map f xs) (map g ys)
    → AreApart (map f (filter p xs)) (map g (filter q ys))
apart-filters f g p q xs ys h =
    apart-turned (map g (filter q ys)) (map f (filter p xs))
    (apart-filter g q ys (map f (filter p xs)) (apart-turned (map f (filter p xs)) (map g ys) (apart-filter f p xs (map g ys) h)))
