-- What is so of all of a list, and lists that rise.
use Rattle.std.proofs.Common.{◌≡◌, ◌⊎◌, inl, inr, ⊎_elim, not, ℕ, ◌<◌, Bool, true, false, List, [], ◌∷◌, ◌++◌, map, filter, flat_map, refl, sym, ap, ◌∙◌, subst, arith, is_lt, Option, Some, None, true≢false}
use Rattle.std.specs.Prelude.{option_map}
use Rattle.std.proofs.lemmas.Option.{same_Some}
use Rattle.std.specs.List.{AllByRecursion, AllZip, cons_option, filter_map}
use Rattle.std.proofs.lemmas.Bool.{eq-eqb, le-ltb, lt-ltb, not-true}
use Rattle.lake_model.specs.Laws.{RiseBelow}
use Rattle.lake_rebase.proofs.MemberLemmas.{In, all_in, in_cases, in_kept, in_left, in_right, kept_in}
use Rattle.cat_rules.specs.Rows.{SomeOf}
use Rattle.cat_tables.specs.Table.{ArePast, IsAscending, has_key, key_cmp, put_all, row_of}
use Rattle.cat_tables.proofs.KeyLemmas.{key_eq}
use Rattle.cat_tables.proofs.SightLemmas.{same_key}
use Rattle.commit_rules.proofs.TableLemmas.{FindsNew, FindsOld, row_of-put_all}
use Rattle.cat_rules.proofs.FirstLemmas.{all_like}

-- ---- all of a list

pub all_mapped : {X Y : Type 0} (P : Y → Type 0) (f : X → Y) (xs : List X) → AllByRecursion (λ x. P (f x)) xs → AllByRecursion P (map f xs)
all_mapped P f [] h = tt
all_mapped P f (x ∷ xs) h = (h.0, all_mapped P f xs h.1)

pub all_unmapped : {X Y : Type 0} (P : Y → Type 0) (f : X → Y) (xs : List X) → AllByRecursion P (map f xs) → AllByRecursion (λ x. P (f x)) xs
all_unmapped P f [] h = tt
all_unmapped P f (x ∷ xs) h = (h.0, all_unmapped P f xs h.1)

pub all_append : {X : Type 0} (P : X → Type 0) (xs ys : List X) → AllByRecursion P xs → AllByRecursion P ys → AllByRecursion P (xs ++ ys)
all_append P [] ys a b = b
all_append P (x ∷ xs) ys a b = (a.0, all_append P xs ys a.1 b)

pub all_flat : {X Y : Type 0} (P : Y → Type 0) (f : X → List Y) (xs : List X) → AllByRecursion (λ x. AllByRecursion P (f x)) xs → AllByRecursion P (flat_map f xs)
all_flat P f [] h = tt
all_flat P f (x ∷ xs) h = all_append P (f x) (flat_map f xs) h.0 (all_flat P f xs h.1)

pub all_of : {X : Type 0} (P : X → Type 0) → ((x : X) → P x) → (xs : List X) → AllByRecursion P xs
all_of P f [] = tt
all_of P f (x ∷ xs) = (f x, all_of P f xs)

pub all_both : {X : Type 0} (P Q : X → Type 0) (xs : List X) → AllByRecursion P xs → AllByRecursion Q xs → AllByRecursion (λ x. P x × Q x) xs
all_both P Q [] a b = tt
all_both P Q (x ∷ xs) a b = ((a.0, b.0), all_both P Q xs a.1 b.1)

-- ---- lists that rise

pub asc_mapped : {X Y : Type 0} (R : Y → Y → Type 0) (f : X → Y) (xs : List X) → IsAscending (λ a b. R (f a) (f b)) xs → IsAscending R (map f xs)
asc_mapped R f [] h = tt
asc_mapped R f (x ∷ xs) h = (all_mapped (R (f x)) f xs h.0, asc_mapped R f xs h.1)

pub asc_append : {X : Type 0} (R : X → X → Type 0) (xs ys : List X) → IsAscending R xs → IsAscending R ys → AllByRecursion (λ x. AllByRecursion (R x) ys) xs → IsAscending R (xs ++ ys)
asc_append R [] ys a b h = b
asc_append R (x ∷ xs) ys a b h = (all_append (R x) xs ys a.0 h.0, asc_append R xs ys a.1 b h.1)

pub asc_flat : {X Y : Type 0} (R : Y → Y → Type 0) (f : X → List Y) (xs : List X) → AllByRecursion (λ x. IsAscending R (f x)) xs
    → IsAscending (λ x z. AllByRecursion (λ y. AllByRecursion (R y) (f z)) (f x)) xs → IsAscending R (flat_map f xs)
asc_flat R f [] a h = tt
asc_flat {X} {Y} R f (x ∷ xs) a h = asc_append R (f x) (flat_map f xs) a.0 (asc_flat R f xs a.1 h.1) (turn (f x) xs h.0)
  where
    turn : (ys : List Y) (zs : List X) → AllByRecursion (λ z. AllByRecursion (λ y. AllByRecursion (R y) (f z)) ys) zs → AllByRecursion (λ y. AllByRecursion (R y) (flat_map f zs)) ys
    turn ys [] k = all_of (λ y. AllByRecursion (R y) []) (λ y. tt) ys
    turn ys (z ∷ zs) k =
        all_like (λ y. AllByRecursion (R y) (f z) × AllByRecursion (R y) (flat_map f zs)) (λ y. AllByRecursion (R y) (flat_map f (z ∷ zs))) (λ y both. all_append (R y) (f z) (flat_map f zs) both.0 both.1) ys
        (all_both (λ y. AllByRecursion (R y) (f z)) (λ y. AllByRecursion (R y) (flat_map f zs)) ys k.0 (turn ys zs k.1))

-- numbers that rise below a limit
pub numbers_rise : {X : Type 0} (f : X → ℕ) (limit : ℕ) (xs : List X) → RiseBelow limit (map f xs) → IsAscending (λ a b. f a < f b) xs
numbers_rise f limit [] h = tt
numbers_rise f limit (x ∷ xs) h = (all_unmapped (λ n. f x < n) f xs h.1, numbers_rise f limit xs h.2)

-- ---- keys

pub lt_first : (a b : ℕ) (xs ys : List ℕ) → a < b → is_lt (key_cmp (a ∷ xs) (b ∷ ys)) ≡ true
lt_first a b xs ys h = rw (lt-ltb a b h) refl

pub lt_second : (a x y : ℕ) (xs ys : List ℕ) → x < y → is_lt (key_cmp (a ∷ x ∷ xs) (a ∷ y ∷ ys)) ≡ true
lt_second a x y xs ys h = rw (le-ltb a a (omega arith), eq-eqb a a refl, lt-ltb x y h) refl

-- new rows that rise, each past all that are there
pub past_from : {R : Type 0} (key : R → List ℕ) (news rows : List R) → AllByRecursion (λ new. AllByRecursion (λ r. is_lt (key_cmp (key r) (key new)) ≡ true) rows) news
    → IsAscending (λ a b. is_lt (key_cmp (key a) (key b)) ≡ true) news → ArePast key news rows
past_from key [] rows all up = tt
past_from key (new ∷ news) rows all up = (all.0, up.0, past_from key news rows all.1 up.1)

-- ---- members

pub some_in : {X : Type 0} (P : X → Type 0) (x : X) (xs : List X) → In x xs → P x → SomeOf P xs
some_in P x [] h p = absurd h
some_in P x (y ∷ xs) (inl e) p = inl (subst P (sym e) p)
some_in P x (y ∷ xs) (inr h) p = inr (some_in P x xs h p)

pub in_of_some : {X : Type 0} (x : X) (xs : List X) → SomeOf (λ y. y ≡ x) xs → In x xs
in_of_some x [] h = h
in_of_some x (y ∷ xs) (inl e) = inl e
in_of_some x (y ∷ xs) (inr h) = inr (in_of_some x xs h)

-- one of some, as a member
pub record Found {X : Type 0} (P : X → Type 0) (xs : List X) : Type 0 where
  pub item : X
  pub there : In item xs
  pub is : P item

pub found : {X : Type 0} (P : X → Type 0) (xs : List X) → SomeOf P xs → Found P xs
found P [] h = absurd h
found P (x ∷ xs) (inl p) = record { item = x; there = inl refl; is = p }
found P (x ∷ xs) (inr h) = let m = found P xs h in record { item = m.item; there = inr m.there; is = m.is }

pub in_flat : {X Y : Type 0} (f : X → List Y) (y : Y) (xs : List X) → In y (flat_map f xs) → Found (λ x. In y (f x)) xs
in_flat f y [] h = absurd h
in_flat f y (x ∷ xs) h = go (in_cases y (f x) (flat_map f xs) h) (in_flat f y xs)
  where
    go : In y (f x) ⊎ In y (flat_map f xs) → (In y (flat_map f xs) → Found (λ z. In y (f z)) xs) → Found (λ z. In y (f z)) (x ∷ xs)
    go (inl here) more = record { item = x; there = inl refl; is = here }
    go (inr later) more = let m = more later in record { item = m.item; there = inr m.there; is = m.is }

pub flat_in : {X Y : Type 0} (f : X → List Y) (y : Y) (x : X) (xs : List X) → In x xs → In y (f x) → In y (flat_map f xs)
flat_in f y x [] h there = absurd h
flat_in f y x (z ∷ xs) (inl e) there = in_left y (f z) (flat_map f xs) (subst (λ w. In y (f w)) (sym e) there)
flat_in f y x (z ∷ xs) (inr h) there = in_right y (f z) (flat_map f xs) (flat_in f y x xs h there)

-- two members of a list that rises are one, or one stands before the other
pub asc_two : {X : Type 0} (R : X → X → Type 0) (a b : X) (xs : List X) → IsAscending R xs → In a xs → In b xs → (a ≡ b) ⊎ (R a b ⊎ R b a)
asc_two R a b [] up h k = absurd h
asc_two R a b (x ∷ xs) up (inl e) (inl f) = inl (sym e ∙ f)
asc_two R a b (x ∷ xs) up (inl e) (inr k) = inr (inl (subst (λ y. R y b) e (all_in (R x) b xs up.0 k)))
asc_two R a b (x ∷ xs) up (inr h) (inl f) = inr (inr (subst (λ y. R y a) f (all_in (R x) a xs up.0 h)))
asc_two R a b (x ∷ xs) up (inr h) (inr k) = asc_two R a b xs up.1 h k

-- ---- pairs

pub zip_last : {R X : Type 0} (P : R → X → Type 0) (rs : List R) (r : R) (xs : List X) (x : X) → AllZip P (rs ++ r ∷ []) (xs ++ x ∷ []) → P r x
zip_last P [] r [] x h = h.0
zip_last P [] r (y ∷ []) x h = absurd h.1
zip_last P [] r (y ∷ z ∷ xs) x h = absurd h.1
zip_last P (q ∷ []) r [] x h = absurd h.1
zip_last P (q ∷ p ∷ rs) r [] x h = absurd h.1
zip_last P (q ∷ rs) r (y ∷ xs) x h = zip_last P rs r xs x h.1

pub record Beside {X Y : Type 0} (P : X → Y → Type 0) (x : X) (ys : List Y) : Type 0 where
  pub item : Y
  pub there : In item ys
  pub is : P x item

pub zip_in : {X Y : Type 0} (P : X → Y → Type 0) (x : X) (xs : List X) (ys : List Y) → AllZip P xs ys → In x xs → Beside P x ys
zip_in P x [] ys h there = absurd there
zip_in P x (z ∷ xs) [] h there = absurd h
zip_in P x (z ∷ xs) (y ∷ ys) h (inl e) = record { item = y; there = inl refl; is = subst (λ w. P w y) e h.0 }
zip_in P x (z ∷ xs) (y ∷ ys) h (inr later) = let m = zip_in P x xs ys h.1 later in record { item = m.item; there = inr m.there; is = m.is }

pub in_zip : {X Y : Type 0} (P : X → Y → Type 0) (y : Y) (xs : List X) (ys : List Y) → AllZip P xs ys → In y ys → Beside (λ z x. P x z) y xs
in_zip P y xs [] h there = absurd there
in_zip P y [] (z ∷ ys) h there = absurd h
in_zip P y (x ∷ xs) (z ∷ ys) h (inl e) = record { item = x; there = inl refl; is = subst (P x) e h.0 }
in_zip P y (x ∷ xs) (z ∷ ys) h (inr later) = let m = in_zip P y xs ys h.1 later in record { item = m.item; there = inr m.there; is = m.is }

-- ---- what is left of a list, and new ones behind it

module _ {X : Type 0} (q : X → Bool) (xs news : List X) where
  pub next_cases : (x : X) → In x (filter (λ r. not (q r)) xs ++ news) → (In x xs × (q x ≡ false)) ⊎ In x news
  next_cases x there = ⊎_elim (λ old. let h = in_kept (λ r. not (q r)) x xs old in inl (h.0, not-true (q x) h.1)) (λ new. inr new) (in_cases x (filter (λ r. not (q r)) xs) news there)

  pub next_kept : (x : X) → In x xs → q x ≡ false → In x (filter (λ r. not (q r)) xs ++ news)
  next_kept x there stays = in_left x (filter (λ r. not (q r)) xs) news (kept_in (λ r. not (q r)) x xs there (ap not stays))

  pub next_new : (x : X) → In x news → In x (filter (λ r. not (q r)) xs ++ news)
  next_new x there = in_right x (filter (λ r. not (q r)) xs) news there

-- ---- picked ones

pub mapped_some : {X Y : Type 0} (f : X → Y) (o : Option X) (y : Y) → option_map f o ≡ Some y → (x : X) × (o ≡ Some x) × (f x ≡ y)
mapped_some f None y e = absurd cc
mapped_some f (Some x) y e = (x, refl, same_Some (f x) y e)

pub in_picked : {X Y : Type 0} (f : X → Option Y) (y : Y) (xs : List X) → In y (filter_map f xs) → Found (λ x. f x ≡ Some y) xs
in_picked f y [] h = absurd h
in_picked {X} {Y} f y (x ∷ xs) h = go (f x) refl h (in_picked f y xs)
  where
    go : (o : Option Y) → f x ≡ o → In y (cons_option o (filter_map f xs)) → (In y (filter_map f xs) → Found (λ z. f z ≡ Some y) xs) → Found (λ z. f z ≡ Some y) (x ∷ xs)
    go None e there more = let m = more there in record { item = m.item; there = inr m.there; is = m.is }
    go (Some z) e (inl same) more = record { item = x; there = inl refl; is = e ∙ ap Some same }
    go (Some z) e (inr there) more = let m = more there in record { item = m.item; there = inr m.there; is = m.is }

pub picked_in : {X Y : Type 0} (f : X → Option Y) (x : X) (y : Y) (xs : List X) → In x xs → f x ≡ Some y → In y (filter_map f xs)
picked_in f x y [] h e = absurd h
picked_in f x y (z ∷ xs) (inl same) e = let is : f z ≡ Some y = ap f same ∙ e in rw is (inl refl)
picked_in {X} {Y} f x y (z ∷ xs) (inr later) e = go (f z) (picked_in f x y xs later e)
  where
    go : (o : Option Y) → In y (filter_map f xs) → In y (cons_option o (filter_map f xs))
    go None more = more
    go (Some w) more = inr more

-- ---- a new row by its key

pub finds_new : {R : Type 0} (key : R → List ℕ) (k : List ℕ) (new : R) (news rs : List R) → In new news → key new ≡ k → ((r : R) → In r news → key r ≡ k → r ≡ new)
    → row_of key k (put_all key news rs) ≡ Some new
finds_new key k new news rs there is one =
    ⊎_elim (λ (m : FindsNew key k news (row_of key k (put_all key news rs))). m.is ∙ ap Some (one m.row (in_of_some m.row news m.there) (key_eq (key m.row) k m.has)))
    (λ (m : FindsOld key k news rs (row_of key k (put_all key news rs))).
    absurd (true≢false (sym (subst (λ l. has_key key l new ≡ true) is (same_key key new)) ∙ all_in (λ r. has_key key k r ≡ false) new news m.none there)))
    (row_of-put_all key k news rs)
