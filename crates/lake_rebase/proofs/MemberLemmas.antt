-- Members of lists.
use Rattle.std.proofs.Common.{◌≡◌, ◌<◌, ◌⊎◌, ◌==◌, ℕ, suc, zero, Bool, true, false, List, [], ◌∷◌, ◌++◌, length, map, filter, get_or, Contains, Some, None, Option, find, refl, sym, ap, subst, ◌∙◌, inl, inr, arith}
use Rattle.std.specs.List.{AllByRecursion}
use Rattle.std.proofs.lemmas.Bool.{eq-eqb, eqb-true}
use Rattle.std.proofs.lemmas.List.Elements.{Contains-append_right}
use Rattle.std.proofs.lemmas.Slice.Eq.{bytes_eq-Decides}
use Rattle.lake_types.specs.Kinds.{name_of}
use Rattle.lake_types.specs.declared.kind.SchemaName.{SchemaName}
use Rattle.lake_model.specs.Clashes.{same_name}
use Rattle.lake_model.specs.Laws.{RiseBelow}

abbrev pub In : {X : Type 0} → X → List X → Type 0
In x [] = ⊥
In x (y ∷ ys) = (y ≡ x) ⊎ In x ys

module _ {X : Type 0} where
  pub in_of : (x : X) (xs : List X) → Contains xs x → In x xs
  in_of x [] h = absurd (omega (arith, h.1))
  in_of x (y ∷ ys) h = go h.0 h.1 h.2 (λ k lt is. in_of x ys (k, lt, is))
    where
      go : (k : ℕ) → k < length (y ∷ ys) → get_or (y ∷ ys) k x ≡ x → ((k : ℕ) → k < length ys → get_or ys k x ≡ x → In x ys) → In x (y ∷ ys)
      go zero lt is more = inl is
      go (suc k) lt is more = inr (more k (omega (arith, lt)) is)

  pub of_in : (x : X) (xs : List X) → In x xs → Contains xs x
  of_in x [] h = absurd h
  of_in x (y ∷ ys) (inl is) = (0, omega arith, is)
  of_in x (y ∷ ys) (inr later) = Contains-append_right (y ∷ []) ys x (of_in x ys later)

  pub in_left : (x : X) (xs ys : List X) → In x xs → In x (xs ++ ys)
  in_left x [] ys h = absurd h
  in_left x (z ∷ xs) ys (inl is) = inl is
  in_left x (z ∷ xs) ys (inr later) = inr (in_left x xs ys later)

  pub in_right : (x : X) (xs ys : List X) → In x ys → In x (xs ++ ys)
  in_right x [] ys h = h
  in_right x (z ∷ xs) ys h = inr (in_right x xs ys h)

  pub in_cases : (x : X) (xs ys : List X) → In x (xs ++ ys) → In x xs ⊎ In x ys
  in_cases x [] ys h = inr h
  in_cases x (z ∷ xs) ys (inl is) = inl (inl is)
  in_cases x (z ∷ xs) ys (inr later) = go (in_cases x xs ys later)
    where
      go : In x xs ⊎ In x ys → In x (z ∷ xs) ⊎ In x ys
      go (inl h) = inl (inr h)
      go (inr h) = inr h

  pub all_in : (P : X → Type 0) (x : X) (xs : List X) → AllByRecursion P xs → In x xs → P x
  all_in P x [] all h = absurd h
  all_in P x (y ∷ ys) all (inl is) = subst P is all.0
  all_in P x (y ∷ ys) all (inr later) = all_in P x ys all.1 later

  pub all_by : (P : X → Type 0) (xs : List X) → ((x : X) → In x xs → P x) → AllByRecursion P xs
  all_by P [] f = tt
  all_by P (y ∷ ys) f = (f y (inl refl), all_by P ys (λ x later. f x (inr later)))

  module _ (p : X → Bool) where
    pub kept_in : (x : X) (xs : List X) → In x xs → p x ≡ true → In x (filter p xs)
    kept_in x [] h e = absurd h
    kept_in x (y ∷ ys) (inl is) e = let at : p y ≡ true = ap p is ∙ e in rw at (inl is)
    kept_in x (y ∷ ys) (inr later) e = go (p y) refl (kept_in x ys later e)
      where
        go : (b : Bool) → p y ≡ b → In x (filter p ys) → In x (filter p (y ∷ ys))
        go true is more = rw is (inr more)
        go false is more = rw is more

    pub in_kept : (x : X) (xs : List X) → In x (filter p xs) → In x xs × (p x ≡ true)
    in_kept x [] h = absurd h
    in_kept x (y ∷ ys) h = go (p y) refl (in_kept x ys)
      where
        go : (b : Bool) → p y ≡ b → (In x (filter p ys) → In x ys × (p x ≡ true)) → In x (y ∷ ys) × (p x ≡ true)
        go true is more = front is more (rw is at h)
          where
            front : p y ≡ true → (In x (filter p ys) → In x ys × (p x ≡ true)) → In x (y ∷ filter p ys) → In x (y ∷ ys) × (p x ≡ true)
            front is more (inl same) = (inl same, ap p (sym same) ∙ is)
            front is more (inr later) = let m = more later in (inr m.0, m.1)
        go false is more = let m = more (rw is at h) in (inr m.0, m.1)

    pub found_in : (x : X) (xs : List X) → find p xs ≡ Some x → In x xs × (p x ≡ true)
    found_in x [] e = absurd cc
    found_in x (y ∷ ys) e = go (p y) refl (found_in x ys)
      where
        go : (b : Bool) → p y ≡ b → (find p ys ≡ Some x → In x ys × (p x ≡ true)) → In x (y ∷ ys) × (p x ≡ true)
        go true is more =
            let some : Some y ≡ Some x = rw is at e in
            let same : y ≡ x = cc in
            (inl same, ap p (sym same) ∙ is)
        go false is more = let m = more (rw is at e) in (inr m.0, m.1)

    pub none_in : (x : X) (xs : List X) → find p xs ≡ None → In x xs → p x ≡ false
    none_in x [] e h = absurd h
    none_in x (y ∷ ys) e h = go (p y) refl (none_in x ys)
      where
        go : (b : Bool) → p y ≡ b → (find p ys ≡ None → In x ys → p x ≡ false) → p x ≡ false
        go true is more = let some : Some y ≡ None = rw is at e in absurd cc
        go false is more = tail is (rw is at e) more h
          where
            tail : p y ≡ false → find p ys ≡ None → (find p ys ≡ None → In x ys → p x ≡ false) → In x (y ∷ ys) → p x ≡ false
            tail is none more (inl same) = ap p (sym same) ∙ is
            tail is none more (inr later) = more none later

module _ {X Y : Type 0} (f : X → Y) where
  pub map_in : (x : X) (xs : List X) → In x xs → In (f x) (map f xs)
  map_in x [] h = absurd h
  map_in x (y ∷ ys) (inl is) = inl (ap f is)
  map_in x (y ∷ ys) (inr later) = inr (map_in x ys later)

  pub record IsImage (y : Y) (xs : List X) : Type 0 where
    pub of : X
    pub there : In of xs
    pub is : f of ≡ y

  pub in_map : (y : Y) (xs : List X) → In y (map f xs) → IsImage y xs
  in_map y [] h = absurd h
  in_map y (x ∷ xs) (inl is) = record { of = x; there = inl refl; is = is }
  in_map y (x ∷ xs) (inr later) = let m = in_map y xs later in record { of = m.of; there = inr m.there; is = m.is }

-- ---- names

pub same_is : (a b : List ℕ) → same_name a b ≡ true → a ≡ b
same_is a b e = (bytes_eq-Decides a b).0 e

pub is_same : (a b : List ℕ) → a ≡ b → same_name a b ≡ true
is_same a b e = (bytes_eq-Decides a b).1 e

-- ---- ids that rise

module _ {X : Type 0} (id : X → ℕ) where
  pub below : (limit : ℕ) (x : X) (xs : List X) → RiseBelow limit (map id xs) → In x xs → id x < limit
  below limit x [] rise h = absurd h
  below limit x (y ∷ ys) rise (inl is) = subst (λ n. n < limit) (ap id is) rise.0
  below limit x (y ∷ ys) rise (inr later) = below limit x ys rise.2 later

  past : (x y : X) (ys : List X) → AllByRecursion (λ n. id y < n) (map id ys) → In x ys → id y < id x
  past x y [] all h = absurd h
  past x y (z ∷ ys) all (inl is) = subst (λ (w : X). id y < id w) is all.0
  past x y (z ∷ ys) all (inr later) = past x y ys all.1 later

  pub one_of_id : (limit : ℕ) (x y : X) (xs : List X) → RiseBelow limit (map id xs) → In x xs → In y xs → id x ≡ id y → x ≡ y
  one_of_id limit x y [] rise a b e = absurd a
  one_of_id limit x y (z ∷ zs) rise (inl a) (inl b) e = sym a ∙ b
  one_of_id limit x y (z ∷ zs) rise (inl a) (inr b) e = absurd (let lt = past y z zs rise.1 b in omega (arith, lt, ap id a, e))
  one_of_id limit x y (z ∷ zs) rise (inr a) (inl b) e = absurd (let lt = past x z zs rise.1 a in omega (arith, lt, ap id b, e))
  one_of_id limit x y (z ∷ zs) rise (inr a) (inr b) e = one_of_id limit x y zs rise.2 a b e

-- the name of an id is that of its schema
pub name-is : (limit : ℕ) (x : SchemaName) (xs : List SchemaName) → RiseBelow limit (map (λ (s : SchemaName). s.id) xs) → In x xs → name_of xs x.id ≡ Some x.name
name-is limit x [] rise h = absurd h
name-is limit x (y ∷ ys) rise (inl is) = rw (eq-eqb y.id x.id (ap (λ (s : SchemaName). s.id) is)) (ap (λ (s : SchemaName). Some s.name) is)
name-is limit x (y ∷ ys) rise (inr later) =
    let lt = past (λ (s : SchemaName). s.id) x y ys rise.1 later in
    let apart : (y.id == x.id) ≡ false = grind (arith, lt) in
    rw apart (name-is limit x ys rise.2 later)

-- and an id that has a name is that of a schema
pub record IsNamedSchema (xs : List SchemaName) (id : ℕ) (name : List ℕ) : Type 0 where
  pub schema : SchemaName
  pub there : In schema xs
  pub id_is : schema.id ≡ id
  pub name_is : schema.name ≡ name

pub named-there : (xs : List SchemaName) (id : ℕ) (name : List ℕ) → name_of xs id ≡ Some name → IsNamedSchema xs id name
named-there xs id name e = go (find (λ (s : SchemaName). s.id == id) xs) refl
  where
    go : (o : Option SchemaName) → find (λ (s : SchemaName). s.id == id) xs ≡ o → IsNamedSchema xs id name
    go None none = let no : None ≡ Some name = rw none at e in absurd cc
    go (Some x) found =
        let some : Some x.name ≡ Some name = rw found at e in
        let there = found_in (λ (s : SchemaName). s.id == id) x xs found in
        record { schema = x; there = there.0; id_is = eqb-true x.id id there.1; name_is = cc }
