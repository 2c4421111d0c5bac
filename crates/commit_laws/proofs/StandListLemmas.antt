-- Lists: filters and joins.
use Rattle.std.proofs.Common.{◌≡◌, inl, inr, ℕ, ◌<◌, ◌≤◌, ◌==◌, Bool, true, false, cond, not, List, [], ◌∷◌, ◌++◌, filter, find, map, Some, refl, sym, ap, ap₂, ◌∙◌, arith, true≢false, append-nil}
use Rattle.std.specs.List.{AllByRecursion, AllZip, flat_map}
use Rattle.std.proofs.lemmas.Bool.{eq-eqb, eqb-true, ne_eqb}
use Rattle.std.proofs.lemmas.List.Elements.{filter-append}
use Rattle.cat_rules.proofs.FirstLemmas.{all_like}
use Rattle.lake_model.proofs.TableLemmas.{all-joined, all-left}
use Rattle.lake_rebase.proofs.MemberLemmas.{In}
use Rattle.lake_model.specs.Laws.{RiseBelow}

-- none passes
pub filter-none : {X : Type 0} (p : X → Bool) (xs : List X) → AllByRecursion (λ x. p x ≡ false) xs → filter p xs ≡ []
filter-none p [] h = refl
filter-none p (x ∷ xs) h = ap (λ b. cond b (x ∷ filter p xs) (filter p xs)) h.0 ∙ filter-none p xs h.1

-- all pass
pub filter-all : {X : Type 0} (p : X → Bool) (xs : List X) → AllByRecursion (λ x. p x ≡ true) xs → filter p xs ≡ xs
filter-all p [] h = refl
filter-all p (x ∷ xs) h = ap (λ b. cond b (x ∷ filter p xs) (filter p xs)) h.0 ∙ ap (λ l. x ∷ l) (filter-all p xs h.1)

-- what passes p is none of those that pass q, so taking these away changes nothing
pub filter-kept : {X : Type 0} (p q : X → Bool) (xs : List X) → ((x : X) → p x ≡ true → q x ≡ false) → filter p (filter (λ x. not (q x)) xs) ≡ filter p xs
filter-kept p q [] apart = refl
filter-kept p q (x ∷ xs) apart = go (p x) (q x) refl refl (filter-kept p q xs apart)
  where
    go : (a b : Bool) → p x ≡ a → q x ≡ b → filter p (filter (λ y. not (q y)) xs) ≡ filter p xs
        → filter p (cond (not b) (x ∷ filter (λ y. not (q y)) xs) (filter (λ y. not (q y)) xs)) ≡ cond a (x ∷ filter p xs) (filter p xs)
    go true true is also more = absurd (let f : true ≡ false = sym also ∙ apart x is in cc)
    go false true is also more = more
    go a false is also more = ap (λ t. cond t (x ∷ filter p (filter (λ y. not (q y)) xs)) (filter p (filter (λ y. not (q y)) xs))) is ∙ ap (λ l. cond a (x ∷ l) l) more

-- the rows of one table, of which none is lost, among the left and the new rows of all
pub its_own : {R : Type 0} (id : R → ℕ) (lost : ℕ → Bool) (table : ℕ) (xs ys : List R) → lost table ≡ false
    → filter (λ r. id r == table) (filter (λ r. not (lost (id r))) xs ++ ys) ≡ filter (λ r. id r == table) xs ++ filter (λ r. id r == table) ys
its_own id lost table xs ys stays =
    filter-append (λ r. id r == table) (filter (λ r. not (lost (id r))) xs) ys
    ∙ ap (λ l. l ++ filter (λ r. id r == table) ys) (filter-kept (λ r. id r == table) (λ r. lost (id r)) xs (λ r is. ap lost (eqb-true (id r) table is) ∙ stays))

-- the first that passes p, where those that are taken away don't
pub find-kept : {X : Type 0} (p q : X → Bool) (xs : List X) → AllByRecursion (λ x. p x ≡ true → q x ≡ false) xs → find p (filter (λ x. not (q x)) xs) ≡ find p xs
find-kept p q [] h = refl
find-kept p q (x ∷ xs) h = go (q x) (p x) refl refl (find-kept p q xs h.1)
  where
    go : (a b : Bool) → q x ≡ a → p x ≡ b → find p (filter (λ y. not (q y)) xs) ≡ find p xs
        → find p (cond (not a) (x ∷ filter (λ y. not (q y)) xs) (filter (λ y. not (q y)) xs)) ≡ cond b (Some x) (find p xs)
    go true true also is more = absurd (true≢false (sym also ∙ h.0 is))
    go true false also is more = more
    go false b also is more = ap (λ t. cond t (Some x) (find p (filter (λ y. not (q y)) xs))) is ∙ ap (λ o. cond b (Some x) o) more

pub zip-append : {X Y : Type 0} (P : X → Y → Type 0) (xs ws : List X) (ys zs : List Y) → AllZip P xs ys → AllZip P ws zs → AllZip P (xs ++ ws) (ys ++ zs)
zip-append P [] ws [] zs h k = k
zip-append P [] ws (y ∷ ys) zs h k = absurd h
zip-append P (x ∷ xs) ws [] zs h k = absurd h
zip-append P (x ∷ xs) ws (y ∷ ys) zs h k = (h.0, zip-append P xs ws ys zs h.1 k)

pub all_unmapped : {X Y : Type 0} (P : Y → Type 0) (f : X → Y) (xs : List X) → AllByRecursion P (map f xs) → AllByRecursion (λ x. P (f x)) xs
all_unmapped P f [] h = tt
all_unmapped P f (x ∷ xs) h = (h.0, all_unmapped P f xs h.1)

pub all_both : {X : Type 0} (P Q : X → Type 0) (xs : List X) → AllByRecursion P xs → AllByRecursion Q xs → AllByRecursion (λ x. P x × Q x) xs
all_both P Q [] h k = tt
all_both P Q (x ∷ xs) h k = ((h.0, k.0), all_both P Q xs h.1 k.1)

pub all_flat : {X Y : Type 0} (P : Y → Type 0) (f : X → List Y) (xs : List X) → AllByRecursion (λ x. AllByRecursion P (f x)) xs → AllByRecursion P (flat_map f xs)
all_flat P f [] h = tt
all_flat P f (x ∷ xs) h = all-joined P (f x) (flat_map f xs) h.0 (all_flat P f xs h.1)

-- each thing's own part of a joined list
pub its_part : {R D : Type 0} (id : R → ℕ) (of : D → ℕ) (f : D → List R) → ((d : D) → AllByRecursion (λ r. id r ≡ of d) (f d)) → (limit : ℕ) (ds : List D) → RiseBelow limit (map of ds)
    → AllByRecursion (λ d. filter (λ r. id r == of d) (flat_map f ds) ≡ f d) ds
its_part id of f own limit [] up = tt
its_part {R} {D} id of f own limit (d ∷ ds) up = (head, tail ds past (its_part id of f own limit ds up.2))
  where
    past : AllByRecursion (λ e. of d < of e) ds
    past = all_unmapped (λ n. of d < n) of ds up.1

    head : filter (λ r. id r == of d) (f d ++ flat_map f ds) ≡ f d
    head =
        filter-append (λ r. id r == of d) (f d) (flat_map f ds)
        ∙ ap₂ ◌++◌ (filter-all (λ r. id r == of d) (f d) (all_like (λ r. id r ≡ of d) (λ r. (id r == of d) ≡ true) (λ r e. eq-eqb (id r) (of d) e) (f d) (own d)))
        (filter-none (λ r. id r == of d) (flat_map f ds) (all_flat (λ r. (id r == of d) ≡ false) f ds
        (all_like (λ e. of d < of e) (λ e. AllByRecursion (λ r. (id r == of d) ≡ false) (f e)) (λ e past. all_like (λ r. id r ≡ of e) (λ r. (id r == of d) ≡ false) (λ r q. ne_eqb (id r) (of d) (λ same. absurd (omega (arith, same, q, past)))) (f e) (own e)) ds past)))
        ∙ append-nil (f d)

    tail : (es : List D) → AllByRecursion (λ e. of d < of e) es → AllByRecursion (λ e. filter (λ r. id r == of e) (flat_map f ds) ≡ f e) es → AllByRecursion (λ e. filter (λ r. id r == of e) (f d ++ flat_map f ds) ≡ f e) es
    tail [] past h = tt
    tail (e ∷ es) past h = (
      filter-append (λ r. id r == of e) (f d) (flat_map f ds)
          ∙ ap (λ l. l ++ filter (λ r. id r == of e) (flat_map f ds)) (filter-none (λ r. id r == of e) (f d) (all_like (λ r. id r ≡ of d) (λ r. (id r == of e) ≡ false) (λ r q. ne_eqb (id r) (of e) (λ same. absurd (omega (arith, same, q, past.0)))) (f d) (own d)))
          ∙ h.0,
      tail es past.1 h.1,
    )

-- maps that are the same on members
pub map-same : {X Y : Type 0} (f g : X → Y) (xs : List X) → ((x : X) → In x xs → f x ≡ g x) → map f xs ≡ map g xs
map-same f g [] h = refl
map-same f g (x ∷ xs) h = ap₂ (λ y l. y ∷ l) (h x (inl refl)) (map-same f g xs (λ y there. h y (inr there)))

pub zip-mapped : {D X Y : Type 0} (P : X → Y → Type 0) (f : D → X) (g : D → Y) (ds : List D) → ((d : D) → In d ds → P (f d) (g d)) → AllZip P (map f ds) (map g ds)
zip-mapped P f g [] h = tt
zip-mapped P f g (d ∷ ds) h = (h d (inl refl), zip-mapped P f g ds (λ e there. h e (inr there)))

-- where old things have ids below a limit and new ones from it on
module _ {R : Type 0} (id : R → ℕ) (limit table : ℕ) where
  apart : (n : ℕ) → (n ≡ table → ⊥) → (n == table) ≡ false
  apart n f = ne_eqb n table f

  pub old_own : (lost : ℕ → Bool) (xs ys : List R) → lost table ≡ false → table < limit → AllByRecursion (λ r. limit ≤ id r) ys
      → filter (λ r. id r == table) (filter (λ r. not (lost (id r))) xs ++ ys) ≡ filter (λ r. id r == table) xs
  old_own lost xs ys stays low high =
      its_own id lost table xs ys stays
      ∙ ap (λ l. filter (λ r. id r == table) xs ++ l) (filter-none (λ r. id r == table) ys (all_like (λ r. limit ≤ id r) (λ r. (id r == table) ≡ false) (λ r h. apart (id r) (λ same. absurd (omega (arith, h, low, same)))) ys high))
      ∙ append-nil (filter (λ r. id r == table) xs)

  pub new_own : (keep : R → Bool) (xs ys : List R) → limit ≤ table → AllByRecursion (λ r. id r < limit) xs
      → filter (λ r. id r == table) (filter keep xs ++ ys) ≡ filter (λ r. id r == table) ys
  new_own keep xs ys high low =
      filter-append (λ r. id r == table) (filter keep xs) ys
      ∙ ap (λ l. l ++ filter (λ r. id r == table) ys) (filter-none (λ r. id r == table) (filter keep xs)
      (all-left (λ r. (id r == table) ≡ false) keep xs (all_like (λ r. id r < limit) (λ r. (id r == table) ≡ false) (λ r h. apart (id r) (λ same. absurd (omega (arith, h, high, same)))) xs low)))
