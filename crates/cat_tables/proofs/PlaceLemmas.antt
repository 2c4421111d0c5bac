-- Where the row of a key stands, and what an edit there makes of the rows.
use Rattle.std.proofs.Common.{◌≡◌, ℕ, zero, suc, ◌+◌, ◌<◌, ◌≤◌, Bool, true, false, cond, not, List, [], ◌∷◌, length, get_or, set, refl, sym, ap, ap₂, subst, ◌∙◌, Option, Some, None, Ordering, Less, Equal, Greater, is_lt, is_eq, true≢false, Result, Ok, Err, ⊎_elim, arith}
use Rattle.std.specs.List.{AllByRecursion, HoldsAt, prefix_len, remove}
use Rattle.std.specs.List.Sorted.{IsPartitionedBy, IsPartitionPoint, IsNonDecreasingBy, IsBinarySearchResult}
use Rattle.std.specs.Prelude.{IfSome, IfNone}
use Rattle.std.specs.Result.{result_ok}
use Rattle.std.specs.Ordering.{ordering_index, ordering_reverse}
use Rattle.std.proofs.lemmas.Bool.{cases_lt}
use Rattle.std.proofs.lemmas.Cmp.{nat_list_cmp_total}
use Rattle.cat_tables.specs.Table.{key_cmp, IsBelow, RisesByKey, LacksKey, has_key, row_of, without, edited}

all_at : {X : Type 0} (P : X → Type 0) (xs : List X) (i : ℕ) (d : X) → AllByRecursion P xs → i < length xs → P (get_or xs i d)
all_at P [] i d h lt = absurd (omega arith)
all_at P (x ∷ xs) zero d h lt = h.0
all_at P (x ∷ xs) (suc i) d h lt = all_at P xs i d h.1 (omega arith)

all_from_places : {X : Type 0} (P : X → Type 0) (xs : List X) → ((i : ℕ) (d : X) → i < length xs → P (get_or xs i d)) → AllByRecursion P xs
all_from_places P [] h = tt
all_from_places P (x ∷ xs) h = (h 0 x (omega arith), all_from_places P xs (λ i d lt. h (suc i) d (omega arith)))

-- the place between what passes and what doesn't is the number of those that pass
pub prefix_len-partition : {X : Type 0} (p : X → Bool) (xs : List X) (i : ℕ) → i ≤ length xs → IsPartitionPoint (λ y. p y ≡ true) (λ y. p y ≡ false) xs i → i ≡ prefix_len p xs
prefix_len-partition p [] i within h = omega arith
prefix_len-partition p (x ∷ xs) zero within h = sym (ap (λ b. cond b (1 + prefix_len p xs) 0) (h.1 0 x (omega arith) (omega arith)))
prefix_len-partition p (x ∷ xs) (suc i) within h =
    let more : i ≡ prefix_len p xs = prefix_len-partition p xs i (omega arith) (λ k d low high. h.0 (suc k) d (omega arith) (omega arith), λ k d low high. h.1 (suc k) d (omega arith) (omega arith)) in
    let counts : suc i ≡ 1 + prefix_len p xs = omega arith in
    counts ∙ sym (ap (λ b. cond b (1 + prefix_len p xs) 0) (h.0 0 x (omega arith) (omega arith)))

pub equal_is : (o : Ordering) → is_eq o ≡ true → o ≡ Equal
equal_is Less p = absurd (true≢false (sym p))
equal_is Equal p = refl
equal_is Greater p = absurd (true≢false (sym p))

pub less_is : (o : Ordering) → is_lt o ≡ true → o ≡ Less
less_is Less p = refl
less_is Equal p = absurd (true≢false (sym p))
less_is Greater p = absurd (true≢false (sym p))

-- what is below something at most k is below k
less_then : (a b k : List ℕ) → key_cmp a b ≡ Less → is_eq (key_cmp b k) ≡ true → key_cmp a k ≡ Less
less_then a b k below same =
    nat_list_cmp_total.antisymm a k ∙ ap ordering_reverse (sym (nat_list_cmp_total.congr b k a (equal_is _ same)) ∙ nat_list_cmp_total.antisymm b a ∙ ap ordering_reverse below)

index_along : (a b k : List ℕ) → key_cmp a b ≡ Less → ordering_index (key_cmp a k) ≤ ordering_index (key_cmp b k)
index_along a b k below = go (key_cmp b k) refl
  where
    index_bound : (o : Ordering) → ordering_index o ≤ 2
    index_bound Less = omega arith
    index_bound Equal = omega arith
    index_bound Greater = omega arith

    go : (o : Ordering) → key_cmp b k ≡ o → ordering_index (key_cmp a k) ≤ ordering_index o
    go Less e = let low : ordering_index (key_cmp a k) ≡ 0 = ap ordering_index (nat_list_cmp_total.trans a b k below e) in omega arith
    go Equal e = let low : ordering_index (key_cmp a k) ≡ 0 = ap ordering_index (less_then a b k below (ap is_eq e)) in omega arith
    go Greater e = index_bound (key_cmp a k)

module _ {R : Type 0} (key : R → List ℕ) where
  below_at : (rs : List R) (i j : ℕ) (d : R) → RisesByKey key rs → i < j → j < length rs → IsBelow key (get_or rs i d) (get_or rs j d)
  below_at [] i j d up lt within = absurd (omega arith)
  below_at (r ∷ rs) zero zero d up lt within = absurd (omega arith)
  below_at (r ∷ rs) zero (suc j) d up lt within = all_at (IsBelow key r) rs j d up.0 (omega arith)
  below_at (r ∷ rs) (suc i) zero d up lt within = absurd (omega arith)
  below_at (r ∷ rs) (suc i) (suc j) d up lt within = below_at rs i j d up.1 (omega arith) (omega arith)

  -- along the rows their keys stand ever further to a key
  pub IsNonDecreasingBy-rises : (k : List ℕ) (rs : List R) → RisesByKey key rs → IsNonDecreasingBy (λ r. ordering_index (key_cmp (key r) k)) rs
  IsNonDecreasingBy-rises k rs up i j d le within =
      ⊎_elim
      (λ lt. index_along (key (get_or rs i d)) (key (get_or rs j d)) k (below_at rs i j d up lt within))
      (λ ge. let same : i ≡ j = omega arith in let at : ordering_index (key_cmp (key (get_or rs i d)) k) ≡ ordering_index (key_cmp (key (get_or rs j d)) k) = ap (λ n. ordering_index (key_cmp (key (get_or rs n d)) k)) same in omega arith)
      (cases_lt i j)

  -- those below a key stand first
  pub IsPartitionedBy-rises : (k : List ℕ) (rs : List R) → RisesByKey key rs → IsPartitionedBy (λ r. is_lt (key_cmp (key r) k)) rs
  IsPartitionedBy-rises k rs up i j d le within later =
      let along = IsNonDecreasingBy-rises k rs up i j d le within in
      lowest (key_cmp (key (get_or rs i d)) k) (key_cmp (key (get_or rs j d)) k) along later
    where
      lowest : (a b : Ordering) → ordering_index a ≤ ordering_index b → is_lt b ≡ true → is_lt a ≡ true
      lowest Less b le h = refl
      lowest Equal Less le h = absurd (omega arith)
      lowest Equal Equal le h = h
      lowest Equal Greater le h = h
      lowest Greater Less le h = absurd (omega arith)
      lowest Greater Equal le h = h
      lowest Greater Greater le h = h

  -- a search that ends between the rows below a key and those above it: none has the key
  pub LacksKey-between : (k : List ℕ) (rs : List R) (at : ℕ) → IsPartitionPoint (λ r. key_cmp (key r) k ≡ Less) (λ r. key_cmp (key r) k ≡ Greater) rs at → LacksKey key k rs
  LacksKey-between k rs at point = all_from_places (λ r. has_key key k r ≡ false) rs (λ i d within. ⊎_elim (λ lt. ap is_eq (point.0 i d (omega arith) lt)) (λ le. ap is_eq (point.1 i d le within)) (cases_lt i at))

  -- what a binary search for a key answers
  pub place_found : (k : List ℕ) (rs : List R) (r : Result ℕ ℕ) (o : Option ℕ) → o ≡ result_ok r → RisesByKey key rs → IsBinarySearchResult (λ q. key_cmp (key q) k) rs r → IfSome o (λ at. HoldsAt (λ q. has_key key k q ≡ true) rs at)
  place_found k rs (Ok at) o e up h = let P : Option ℕ → Type 0 = λ x. IfSome x (λ at. HoldsAt (λ q. has_key key k q ≡ true) rs at) in subst P (sym e) (λ d. ap is_eq (h d))
  place_found k rs (Err at) o e up h = let P : Option ℕ → Type 0 = λ x. IfSome x (λ at. HoldsAt (λ q. has_key key k q ≡ true) rs at) in subst P (sym e) tt

  pub place_lacking : (k : List ℕ) (rs : List R) (r : Result ℕ ℕ) (o : Option ℕ) → o ≡ result_ok r → RisesByKey key rs → IsBinarySearchResult (λ q. key_cmp (key q) k) rs r → IfNone o (LacksKey key k rs)
  place_lacking k rs (Ok at) o e up h = let P : Option ℕ → Type 0 = λ x. IfNone x (LacksKey key k rs) in subst P (sym e) tt
  place_lacking k rs (Err at) o e up h = let P : Option ℕ → Type 0 = λ x. IfNone x (LacksKey key k rs) in subst P (sym e) (LacksKey-between k rs at (h (IsNonDecreasingBy-rises k rs up)))

  lacks_above : (k : List ℕ) (r : R) (rs : List R) → has_key key k r ≡ true → AllByRecursion (IsBelow key r) rs → LacksKey key k rs
  lacks_above k r [] here up = tt
  lacks_above k r (q ∷ rs) here up =
      let past : key_cmp k (key q) ≡ Less = sym (nat_list_cmp_total.congr (key r) k (key q) (equal_is _ here)) ∙ up.0 in
      (ap is_eq (nat_list_cmp_total.antisymm (key q) k ∙ ap ordering_reverse past), lacks_above k r rs here up.1)

  pub row_of-lacking : (k : List ℕ) (rs : List R) → LacksKey key k rs → row_of key k rs ≡ None
  row_of-lacking k [] h = refl
  row_of-lacking k (r ∷ rs) h = ap (λ b. cond b (Some r) (row_of key k rs)) h.0 ∙ row_of-lacking k rs h.1

  pub without-lacking : (k : List ℕ) (rs : List R) → LacksKey key k rs → without key k rs ≡ rs
  without-lacking k [] h = refl
  without-lacking k (r ∷ rs) h = ap (λ b. cond (not b) (r ∷ without key k rs) (without key k rs)) h.0 ∙ ap (λ l. r ∷ l) (without-lacking k rs h.1)

  pub edited-lacking : (f : R → R) (k : List ℕ) (rs : List R) → LacksKey key k rs → edited key f k rs ≡ rs
  edited-lacking f k [] h = refl
  edited-lacking f k (r ∷ rs) h = ap₂ ◌∷◌ (ap (λ b. cond b (f r) r) h.0) (edited-lacking f k rs h.1)

  -- a row below the one of the key has another key
  below_lacks : (k : List ℕ) (r q : R) → IsBelow key r q → has_key key k q ≡ true → has_key key k r ≡ false
  below_lacks k r q below here = ap is_eq (less_then (key r) (key q) k below here)

  pub row_of-place : (k : List ℕ) (rs : List R) (at : ℕ) (d : R) → RisesByKey key rs → at < length rs → has_key key k (get_or rs at d) ≡ true → row_of key k rs ≡ Some (get_or rs at d)
  row_of-place k [] at d up within here = absurd (omega arith)
  row_of-place k (r ∷ rs) zero d up within here = ap (λ b. cond b (Some r) (row_of key k rs)) here
  row_of-place k (r ∷ rs) (suc at) d up within here =
      ap (λ b. cond b (Some r) (row_of key k rs)) (below_lacks k r (get_or rs at d) (all_at (IsBelow key r) rs at d up.0 (omega arith)) here)
      ∙ row_of-place k rs at d up.1 (omega arith) here

  pub without-place : (k : List ℕ) (rs : List R) (at : ℕ) (d : R) → RisesByKey key rs → at < length rs → has_key key k (get_or rs at d) ≡ true → without key k rs ≡ remove rs at
  without-place k [] at d up within here = absurd (omega arith)
  without-place k (r ∷ rs) zero d up within here =
      ap (λ b. cond (not b) (r ∷ without key k rs) (without key k rs)) here ∙ without-lacking k rs (lacks_above k r rs here up.0)
  without-place k (r ∷ rs) (suc at) d up within here =
      ap (λ b. cond (not b) (r ∷ without key k rs) (without key k rs)) (below_lacks k r (get_or rs at d) (all_at (IsBelow key r) rs at d up.0 (omega arith)) here)
      ∙ ap (λ l. r ∷ l) (without-place k rs at d up.1 (omega arith) here)

  pub edited-place : (f : R → R) (k : List ℕ) (rs : List R) (at : ℕ) (d : R) → RisesByKey key rs → at < length rs → has_key key k (get_or rs at d) ≡ true → edited key f k rs ≡ set rs at (f (get_or rs at d))
  edited-place f k [] at d up within here = absurd (omega arith)
  edited-place f k (r ∷ rs) zero d up within here =
      ap₂ ◌∷◌ (ap (λ b. cond b (f r) r) here) (edited-lacking f k rs (lacks_above k r rs here up.0))
  edited-place f k (r ∷ rs) (suc at) d up within here =
      ap₂ ◌∷◌ (ap (λ b. cond b (f r) r) (below_lacks k r (get_or rs at d) (all_at (IsBelow key r) rs at d up.0 (omega arith)) here))
      (edited-place f k rs at d up.1 (omega arith) here)
