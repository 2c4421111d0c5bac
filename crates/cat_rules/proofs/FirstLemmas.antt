-- The first bad key of rules taken together, and of rows one by one.
use Rattle.std.proofs.Common.{◌≡◌, ◌⊎◌, inl, inr, ⊎_elim, Bool, true, false, cond, List, [], ◌∷◌, Option, Some, None, refl, sym, ap, ◌∙◌, subst, true≢false, is_lt, Ordering, Less, Equal, Greater, fold, Decides}
use Rattle.std.specs.List.{AllByRecursion}
use Rattle.std.specs.Option.{option_map}
use Rattle.std.specs.Ordering.{ordering_reverse}
use Rattle.std.specs.Prelude.{find}
use Rattle.std.proofs.lemmas.Cmp.{nat_list_cmp_total, tied_itself, alike_right}
use Rattle.cat_tables.specs.Table.{IsAscending, key_cmp}
use Rattle.cat_tables.proofs.PlaceLemmas.{less_is}
use Rattle.cat_rows.specs.declared.batch.Key.{Key}
use Rattle.cat_rules.specs.First.{FirstBad, sooner, told}
use Rattle.cat_rows.specs.Places.{place}
use Rattle.cat_rules.specs.Places.{is_sooner}
use Rattle.cat_rules.specs.Rows.{SomeOf, Names, NamesIf}

-- ---- the order of keys

pub sooner_then : (i j k : Key) → is_sooner i j ≡ true → is_sooner j k ≡ true → is_sooner i k ≡ true
sooner_then i j k p q = ap is_lt (nat_list_cmp_total.trans (place i) (place j) (place k) (less_is _ p) (less_is _ q))

pub not_sooner_itself : (k : Key) → is_sooner k k ≡ true → ⊥
not_sooner_itself k p = true≢false (sym p ∙ ap is_lt (tied_itself nat_list_cmp_total (place k)))

-- what stands before one stands before all that don't stand before that one
sooner_along : (i j k : Key) → is_sooner i j ≡ true → is_sooner k j ≡ false → is_sooner i k ≡ true
sooner_along i j k p q = go (key_cmp (place j) (place k)) refl
  where
    go : (o : Ordering) → key_cmp (place j) (place k) ≡ o → is_sooner i k ≡ true
    go Less e = sooner_then i j k p (ap is_lt e)
    go Equal e = sym (ap is_lt (alike_right nat_list_cmp_total (place j) (place k) (place i) e)) ∙ p
    go Greater e = absurd (true≢false (sym (ap is_lt (nat_list_cmp_total.antisymm (place k) (place j) ∙ ap ordering_reverse e)) ∙ q))

-- ---- one of some

pub none_of : {X : Type 0} (P : X → Type 0) (xs : List X) → AllByRecursion (λ x. P x → ⊥) xs → SomeOf P xs → ⊥
none_of P [] none h = h
none_of P (x ∷ xs) none h = ⊎_elim (λ p. none.0 p) (λ p. none_of P xs none.1 p) h

pub SomeOf_like : {X : Type 0} (P Q : X → Type 0) → ((x : X) → P x → Q x) → (xs : List X) → SomeOf P xs → SomeOf Q xs
SomeOf_like P Q f [] h = h
SomeOf_like P Q f (x ∷ xs) h = ⊎_elim (λ p. inl (f x p)) (λ p. inr (SomeOf_like P Q f xs p)) h

pub SomeOf_along : {X : Type 0} (P Q : X → Type 0) → (xs : List X) → AllByRecursion (λ x. P x → Q x) xs → SomeOf P xs → SomeOf Q xs
SomeOf_along P Q [] f h = h
SomeOf_along P Q (x ∷ xs) f h = ⊎_elim (λ p. inl (f.0 p)) (λ p. inr (SomeOf_along P Q xs f.1 p)) h

-- one of rows of which all are so
pub some_in : {X : Type 0} (D P Q : X → Type 0) (xs : List X) → AllByRecursion D xs → ((x : X) → D x → P x → Q x) → SomeOf P xs → SomeOf Q xs
some_in D P Q [] all f h = h
some_in D P Q (x ∷ xs) all f (inl p) = inl (f x all.0 p)
some_in D P Q (x ∷ xs) all f (inr more) = inr (some_in D P Q xs all.1 f more)

-- ---- rows that rise

pub all_like : {X : Type 0} (P Q : X → Type 0) → ((x : X) → P x → Q x) → (xs : List X) → AllByRecursion P xs → AllByRecursion Q xs
all_like P Q f [] h = tt
all_like P Q f (x ∷ xs) h = (f x h.0, all_like P Q f xs h.1)

pub ascends_like : {X : Type 0} (P Q : X → X → Type 0) → ((x y : X) → P x y → Q x y) → (xs : List X) → IsAscending P xs → IsAscending Q xs
ascends_like P Q f [] h = tt
ascends_like P Q f (x ∷ xs) h = (all_like (P x) (Q x) (f x) xs h.0, ascends_like P Q f xs h.1)

-- ---- the first of rules together

module _ (P Q : Key → Type 0) where
  -- two rules that find the same keys bad have the same answer
  pub first_like : ((k : Key) → P k → Q k) → ((k : Key) → Q k → P k) → (o : Option Key) → FirstBad P o → FirstBad Q o
  first_like f g None h = λ k q. h k (g k q)
  first_like f g (Some k) h = (f k h.0, λ j q s. h.1 j (g j q) s)

  -- what is bad by one rule or by the other
  pub first_either : (a b : Option Key) → FirstBad P a → FirstBad Q b → FirstBad (λ k. P k ⊎ Q k) (sooner a b)
  first_either None None p q = λ k h. ⊎_elim (p k) (q k) h
  first_either None (Some b) p q = (inr q.0, λ j h s. ⊎_elim (λ x. p j x) (λ x. q.1 j x s) h)
  first_either (Some a) None p q = (inl p.0, λ j h s. ⊎_elim (λ x. p.1 j x s) (λ x. q j x) h)
  first_either (Some a) (Some b) p q = go (is_sooner b a) refl
    where
      go : (t : Bool) → is_sooner b a ≡ t → FirstBad (λ k. P k ⊎ Q k) (cond t (Some b) (Some a))
      go true e = (inr q.0, λ j h s. ⊎_elim (λ x. p.1 j x (sooner_then j b a s e)) (λ x. q.1 j x s) h)
      go false e = (inl p.0, λ j h s. ⊎_elim (λ x. p.1 j x s) (λ x. q.1 j x (sooner_along j a b s e)) h)

  -- the same of an answer that is told by an equation
  pub first_or : (a b o : Option Key) → o ≡ sooner a b → FirstBad P a → FirstBad Q b → FirstBad (λ k. P k ⊎ Q k) o
  first_or a b o e p q = subst (FirstBad (λ k. P k ⊎ Q k)) (sym e) (first_either a b p q)

-- ---- rows that stand in the order of the keys that they name

module _ {R : Type 0} (name : R → Key) (Bad : R → Type 0) (r : R) (rs : List R) where
  abbrev StandsFirst : List R → Type 0
  StandsFirst = AllByRecursion (λ q. is_sooner (name r) (name q) ≡ true)

  later : (qs : List R) → StandsFirst qs → (j : Key) → Names name Bad qs j → is_sooner j (name r) ≡ true → ⊥
  later [] up j h s = h
  later (q ∷ qs) up j h s =
      ⊎_elim (λ x. let T : Key → Type 0 = λ i. is_sooner i (name r) ≡ true in not_sooner_itself (name r) (sooner_then (name r) (name q) (name r) up.0 (subst T (sym x.1) s)))
      (λ x. later qs up.1 j x s) h

  -- the first of these is bad
  pub first_here : StandsFirst rs → Bad r → FirstBad (Names name Bad (r ∷ rs)) (Some (name r))
  first_here up bad = (inl (bad, refl), λ j h s. ⊎_elim (λ x. let T : Key → Type 0 = λ i. is_sooner i (name r) ≡ true in not_sooner_itself (name r) (subst T (sym x.1) s)) (λ x. later rs up j x s) h)

  -- the first of these isn't bad
  pub first_behind : (Bad r → ⊥) → (o : Option Key) → FirstBad (Names name Bad rs) o → FirstBad (Names name Bad (r ∷ rs)) o
  first_behind fine o h = first_like (Names name Bad rs) (Names name Bad (r ∷ rs)) (λ k p. inr p) (λ k p. ⊎_elim (λ x. absurd (fine x.0)) (λ x. x) p) o h

-- the answer for rows that a call handed out
pub first_in : {R : Type 0} (name : R → Key) (is_bad : R → Bool) (rows given : List R) (o : Option Key) → given ≡ rows → FirstBad (NamesIf name is_bad given) o → FirstBad (NamesIf name is_bad rows) o
first_in name is_bad rows given o e h = subst (λ l. FirstBad (NamesIf name is_bad l) o) e h

-- a key that is bad or not, by itself
pub first_alone : (P : Type 0) (k : Key) (b : Bool) → Decides b P → FirstBad (λ j. P × (k ≡ j)) (cond b (Some k) None)
first_alone P k true d = ((d.0 refl, refl), λ j h s. not_sooner_itself k (let T : Key → Type 0 = λ x. is_sooner x k ≡ true in subst T (sym h.1) s))
first_alone P k false d = λ j h. true≢false (sym (d.1 h.0))

module _ {R : Type 0} (name : R → Key) (is_bad : R → Bool) where
  -- the first of one found before and of those that the rows name
  abbrev pub first_from : Option Key → List R → Option Key
  first_from o rows = fold (λ first r. sooner first (told name is_bad r)) o rows

  first_told : (r : R) → FirstBad (λ k. (is_bad r ≡ true) × (name r ≡ k)) (told name is_bad r)
  first_told r = first_alone (is_bad r ≡ true) (name r) (is_bad r) (λ e. e, λ e. e)

  first_onward : (P : Key → Type 0) (o : Option Key) (rows : List R) → FirstBad P o
      → FirstBad (λ k. P k ⊎ NamesIf name is_bad rows k) (first_from o rows)
  first_onward P o [] h = first_like P (λ k. P k ⊎ ⊥) (λ k p. inl p) (λ k p. ⊎_elim (λ x. x) (λ x. absurd x) p) o h
  first_onward P o (r ∷ rs) h =
      let One : Key → Type 0 = λ k. (is_bad r ≡ true) × (name r ≡ k) in
      let Rest : Key → Type 0 = NamesIf name is_bad rs in
      first_like (λ k. (P k ⊎ One k) ⊎ Rest k) (λ k. P k ⊎ (One k ⊎ Rest k))
      (λ k p. ⊎_elim (λ x. ⊎_elim (λ y. inl y) (λ y. inr (inl y)) x) (λ x. inr (inr x)) p)
      (λ k p. ⊎_elim (λ x. inl (inl x)) (λ x. ⊎_elim (λ y. inl (inr y)) (λ y. inr y) x) p)
      _ (first_onward (λ k. P k ⊎ One k) (sooner o (told name is_bad r)) rs (first_either P One o (told name is_bad r) h (first_told r)))

  -- of all rows, one by one
  pub first_of_all : (rows : List R) → FirstBad (NamesIf name is_bad rows) (first_from None rows)
  first_of_all rows = first_like (λ k. ⊥ ⊎ NamesIf name is_bad rows k) (NamesIf name is_bad rows) (λ k p. ⊎_elim (λ x. absurd x) (λ x. x) p) (λ k p. inr p) _ (first_onward (λ k. ⊥) None rows (λ k h. h))

  -- a test that decides a fact of each of the rows
  pub names_from : (Bad : R → Type 0) (rows : List R) → AllByRecursion (λ r. Decides (is_bad r) (Bad r)) rows → (k : Key) → NamesIf name is_bad rows k → Names name Bad rows k
  names_from Bad rows d k p = SomeOf_along _ _ rows (all_like _ _ (λ r e x. (e.0 x.0, x.1)) rows d) p

  pub names_to : (Bad : R → Type 0) (rows : List R) → AllByRecursion (λ r. Decides (is_bad r) (Bad r)) rows → (k : Key) → Names name Bad rows k → NamesIf name is_bad rows k
  names_to Bad rows d k p = SomeOf_along _ _ rows (all_like _ _ (λ r e x. (e.1 x.0, x.1)) rows d) p

  pub first_names : (Bad : R → Type 0) (rows : List R) (o : Option Key) → AllByRecursion (λ r. Decides (is_bad r) (Bad r)) rows → FirstBad (NamesIf name is_bad rows) o → FirstBad (Names name Bad rows) o
  first_names Bad rows o d h = first_like (NamesIf name is_bad rows) (Names name Bad rows) (names_from Bad rows d) (names_to Bad rows d) o h

  -- of rows that stand in the order of the keys that they name, the first bad one
  pub first_found : (rows : List R) → IsAscending (λ a b. is_sooner (name a) (name b) ≡ true) rows → FirstBad (NamesIf name is_bad rows) (option_map name (find is_bad rows))
  first_found [] up = λ k h. h
  first_found (r ∷ rs) up = go (is_bad r) refl (first_found rs up.1)
    where
      go : (b : Bool) → is_bad r ≡ b → FirstBad (NamesIf name is_bad rs) (option_map name (find is_bad rs)) → FirstBad (NamesIf name is_bad (r ∷ rs)) (option_map name (cond b (Some r) (find is_bad rs)))
      go true e more = first_here name (λ q. is_bad q ≡ true) r rs up.0 e
      go false e more = first_behind name (λ q. is_bad q ≡ true) r rs (λ bad. true≢false (sym bad ∙ e)) _ more
