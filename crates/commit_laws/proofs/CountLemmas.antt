-- How many of a list pass a test.
use Rattle.std.proofs.Common.{◌≡◌, inl, inr, ℕ, ◌+◌, ◌<◌, ◌≤◌, Bool, true, false, cond, List, [], ◌∷◌, ◌++◌, filter, flat_map, length, refl, ap, ◌∙◌, subst, arith}
use Rattle.std.specs.List.{AllByRecursion}
use Rattle.lake_rebase.proofs.MemberLemmas.{In, all_in}
use Rattle.cat_tables.specs.Table.{IsAscending}
use Rattle.cat_spans.proofs.CountLemmas.{count}

module _ {X : Type 0} (p : X → Bool) where
  pub count_append : (xs ys : List X) → count p (xs ++ ys) ≡ count p xs + count p ys
  count_append [] ys = omega arith
  count_append (x ∷ xs) ys = let more = count_append xs ys in omega (arith, more)

  pub count_filter : (q : X → Bool) (xs : List X) → count p (filter q xs) ≤ count p xs
  count_filter q [] = omega arith
  count_filter q (x ∷ xs) = go (q x) (count_filter q xs)
    where
      go : (b : Bool) → count p (filter q xs) ≤ count p xs → count p (cond b (x ∷ filter q xs) (filter q xs)) ≤ count p (x ∷ xs)
      go true more = omega (arith, more)
      go false more = omega (arith, more)

  pub count_none : (xs : List X) → AllByRecursion (λ x. p x ≡ false) xs → count p xs ≡ 0
  count_none [] h = refl
  count_none (x ∷ xs) h = let none : ◌≡◌ {A = ℕ} (cond (p x) 1 0) 0 = ap (λ b. cond {A = ℕ} b 1 0) h.0 in let more = count_none xs h.1 in omega (arith, none, more)

  one_most : (b : Bool) → cond b 1 0 ≤ 1
  one_most true = omega arith
  one_most false = omega arith

  count_length : (xs : List X) → count p xs ≤ length xs
  count_length [] = omega arith
  count_length (x ∷ xs) = let one = one_most (p x) in let more = count_length xs in omega (arith, one, more)

  -- one that doesn't pass isn't counted
  pub count_less : (x : X) (xs : List X) → In x xs → p x ≡ false → count p xs < length xs
  count_less x [] h fails = absurd h
  count_less x (y ∷ xs) (inl e) fails =
      let none : ◌≡◌ {A = ℕ} (cond (p y) 1 0) 0 = ap (λ z. cond {A = ℕ} (p z) 1 0) e ∙ ap (λ b. cond {A = ℕ} b 1 0) fails in let more = count_length xs in omega (arith, none, more)
  count_less x (y ∷ xs) (inr h) fails = let one = one_most (p y) in let more = count_less x xs h fails in omega (arith, one, more)

  -- of joined lists with ids that rise, where only those of one id pass
  module _ {D : Type 0} (id : D → ℕ) (f : D → List X) (at : ℕ) (others : (e : D) → (id e ≡ at → ⊥) → count p (f e) ≡ 0) where
    count_past : (ds : List D) → AllByRecursion (λ e. at < id e) ds → count p (flat_map f ds) ≡ 0
    count_past [] h = refl
    count_past (e ∷ ds) h =
        let none = others e (λ same. omega (arith, same, h.0)) in let more = count_past ds h.1 in let both = count_append (f e) (flat_map f ds) in omega (arith, none, more, both)

    pub count_part : (d : D) (ds : List D) → id d ≡ at → IsAscending (λ a b. id a < id b) ds → In d ds → count p (flat_map f ds) ≡ count p (f d)
    count_part d [] is up there = absurd there
    count_part d (e ∷ ds) is up (inl same) =
        let low : id e ≡ at = ap id same ∙ is in
        let more = count_past ds (subst (λ n. AllByRecursion (λ x. n < id x) ds) low up.0) in
        let both = count_append (f e) (flat_map f ds) in
        let one : count p (f e) ≡ count p (f d) = ap (λ x. count p (f x)) same in
        omega (arith, more, both, one)
    count_part d (e ∷ ds) is up (inr there) =
        let lt = all_in (λ x. id e < id x) d ds up.0 there in
        let none = others e (λ same. omega (arith, same, lt, is)) in
        let more = count_part d ds is up.1 there in
        let both = count_append (f e) (flat_map f ds) in
        omega (arith, none, more, both)
