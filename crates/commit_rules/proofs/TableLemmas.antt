-- One table after a commit: the rows that were there, some of them with an end now, and the new ones.
use Rattle.std.proofs.Common.{◌≡◌, ℕ, ◌⊎◌, inl, inr, ⊎_elim, Bool, true, false, cond, not, List, [], ◌∷◌, filter, refl, sym, ap, ◌∙◌, subst, Option, Some, None, Ordering, Less, Equal, Greater, is_lt, is_eq}
use Rattle.std.specs.Prelude.{is_none}
use Rattle.std.specs.Option.{option_map}
use Rattle.std.specs.List.{AllByRecursion}
use Rattle.cat_tables.specs.Table.{all_removed, edited, has_key, key_cmp, put, put_all, row_of, without}
use Rattle.cat_tables.specs.Validity.{IsValidity, Validity, all_ended, ended_at, ends_at}
use Rattle.cat_tables.proofs.FrameLemmas.{key-ended_at}
use Rattle.cat_tables.proofs.KeyLemmas.{key_eq}
use Rattle.cat_tables.proofs.PutLemmas.{all-put}
use Rattle.cat_tables.proofs.RowLemmas.{row_of-put, row_of-without_other}
use Rattle.cat_rules.specs.Rows.{SomeOf}

-- ---- members

abbrev pub In : {X : Type 0} → X → List X → Type 0
In x xs = SomeOf (λ y. y ≡ x) xs

pub in_some : {X : Type 0} (P : X → Type 0) (x : X) (xs : List X) → In x xs → P x → SomeOf P xs
in_some P x [] h p = absurd h
in_some P x (y ∷ xs) (inl e) p = inl (subst P (sym e) p)
in_some P x (y ∷ xs) (inr h) p = inr (in_some P x xs h p)

pub all_in : {X : Type 0} (P : X → Type 0) (x : X) (xs : List X) → AllByRecursion P xs → In x xs → P x
all_in P x [] all h = absurd h
all_in P x (y ∷ xs) all (inl e) = subst P e all.0
all_in P x (y ∷ xs) all (inr h) = all_in P x xs all.1 h

-- what is so of each member
pub all_by : {X : Type 0} (P : X → Type 0) (xs : List X) → ((x : X) → In x xs → P x) → AllByRecursion P xs
all_by P [] f = tt
all_by P (x ∷ xs) f = (f x (inl refl), all_by P xs (λ y h. f y (inr h)))

-- one of some, as a member
pub record Found {X : Type 0} (P : X → Type 0) (xs : List X) : Type 0 where
  pub item : X
  pub there : In item xs
  pub is : P item

pub found : {X : Type 0} (P : X → Type 0) (xs : List X) → SomeOf P xs → Found P xs
found P [] h = absurd h
found P (x ∷ xs) (inl p) = record { item = x; there = inl refl; is = p }
found P (x ∷ xs) (inr h) = let m = found P xs h in record { item = m.item; there = inr m.there; is = m.is }

-- ---- rows put at their places

module _ {R : Type 0} (key : R → List ℕ) where
  pub all-put_all : (P : R → Type 0) (news rs : List R) → AllByRecursion P news → AllByRecursion P rs → AllByRecursion P (put_all key news rs)
  all-put_all P [] rs a b = b
  all-put_all P (new ∷ news) rs a b = all-put_all P news (put key new rs) a.1 (all-put key P new rs a.0 b)

  pub some-put : (P : R → Type 0) (new : R) (rs : List R) → SomeOf P (put key new rs) → P new ⊎ SomeOf P rs
  some-put P new [] h = h
  some-put P new (r ∷ rs) h = go (is_lt (key_cmp (key r) (key new))) (some-put P new rs) h
    where
      go : (b : Bool) → (SomeOf P (put key new rs) → P new ⊎ SomeOf P rs) → SomeOf P (cond b (r ∷ put key new rs) (new ∷ r ∷ rs)) → P new ⊎ (P r ⊎ SomeOf P rs)
      go true more (inl q) = inr (inl q)
      go true more (inr q) = ⊎_elim (λ x. inl x) (λ x. inr (inr x)) (more q)
      go false more q = q

  pub some-put_all : (P : R → Type 0) (news rs : List R) → SomeOf P (put_all key news rs) → SomeOf P news ⊎ SomeOf P rs
  some-put_all P [] rs h = inr h
  some-put_all P (new ∷ news) rs h =
      ⊎_elim (λ x. inl (inr x)) (λ x. ⊎_elim (λ y. inl (inl y)) (λ y. inr y) (some-put P new rs x)) (some-put_all P news (put key new rs) h)

  -- rows that don't pass a test
  pub filter-put_all : (q : R → Bool) (news rs : List R) → AllByRecursion (λ r. q r ≡ false) news → filter q (put_all key news rs) ≡ filter q rs
  filter-put_all q [] rs h = refl
  filter-put_all q (new ∷ news) rs h = filter-put_all q news (put key new rs) h.1 ∙ one rs
    where
      one : (xs : List R) → filter q (put key new xs) ≡ filter q xs
      one [] = ap (λ b. cond b (new ∷ []) []) h.0
      one (x ∷ xs) =
          elim (is_lt (key_cmp (key x) (key new))) as (λ b. filter q (cond b (x ∷ put key new xs) (new ∷ x ∷ xs)) ≡ filter q (x ∷ xs))
          [ true ↦ ap (λ l. cond (q x) (x ∷ l) l) (one xs) | false ↦ ap (λ b. cond b (new ∷ filter q (x ∷ xs)) (filter q (x ∷ xs))) h.0 ]

  -- ---- the row of a key

  apart_below : (k : List ℕ) (r new : R) → key new ≡ k → is_lt (key_cmp (key r) (key new)) ≡ true → has_key key k r ≡ false
  apart_below k r new same below = go (key_cmp (key r) k) (ap (λ x. is_lt (key_cmp (key r) x)) (sym same) ∙ below)
    where
      go : (o : Ordering) → is_lt o ≡ true → is_eq o ≡ false
      go Less e = refl
      go Equal e = cc
      go Greater e = cc

  row_of-put_same : (k : List ℕ) (new : R) (rs : List R) → has_key key k new ≡ true → row_of key k (put key new rs) ≡ Some new
  row_of-put_same k new [] h = ap (λ b. cond b (Some new) None) h
  row_of-put_same k new (r ∷ rs) h = go (is_lt (key_cmp (key r) (key new))) refl (row_of-put_same k new rs h)
    where
      go : (b : Bool) → is_lt (key_cmp (key r) (key new)) ≡ b → row_of key k (put key new rs) ≡ Some new → row_of key k (cond b (r ∷ put key new rs) (new ∷ r ∷ rs)) ≡ Some new
      go true e more = ap (λ b. cond b (Some r) (row_of key k (put key new rs))) (apart_below k r new (key_eq (key new) k h) e) ∙ more
      go false e more = ap (λ b. cond b (Some new) (row_of key k (r ∷ rs))) h

  -- a new row is found, or there is none of the key and the old one is found
  pub record FindsNew (k : List ℕ) (news : List R) (o : Option R) : Type 0 where
    pub row : R
    pub there : In row news
    pub is : o ≡ Some row
    pub has : has_key key k row ≡ true

  pub record FindsOld (k : List ℕ) (news rs : List R) (o : Option R) : Type 0 where
    pub none : AllByRecursion (λ r. has_key key k r ≡ false) news
    pub is : o ≡ row_of key k rs

  pub row_of-put_all : (k : List ℕ) (news rs : List R) → FindsNew k news (row_of key k (put_all key news rs)) ⊎ FindsOld k news rs (row_of key k (put_all key news rs))
  row_of-put_all k [] rs = inr (record { none = tt; is = refl })
  row_of-put_all k (new ∷ news) rs = go (has_key key k new) refl (row_of-put_all k news (put key new rs))
    where
      go : (b : Bool) → has_key key k new ≡ b → FindsNew k news (row_of key k (put_all key news (put key new rs))) ⊎ FindsOld k news (put key new rs) (row_of key k (put_all key news (put key new rs)))
          → FindsNew k (new ∷ news) (row_of key k (put_all key news (put key new rs))) ⊎ FindsOld k (new ∷ news) rs (row_of key k (put_all key news (put key new rs)))
      go b e (inl m) = inl (record { row = m.row; there = inr m.there; is = m.is; has = m.has })
      go true e (inr m) = inl (record { row = new; there = inl refl; is = m.is ∙ row_of-put_same k new rs e; has = e })
      go false e (inr m) = inr (record { none = (e, m.none); is = m.is ∙ row_of-put key new k rs e })

  -- the row of a key that isn't taken away
  pub row_of-all_removed : (k : List ℕ) (ks : List (List ℕ)) (rs : List R) → (row_of key k (all_removed key ks rs) ≡ row_of key k rs) ⊎ SomeOf (λ l. l ≡ k) ks
  row_of-all_removed k [] rs = inl refl
  row_of-all_removed k (l ∷ ks) rs = go (is_eq (key_cmp l k)) refl (row_of-all_removed k ks (without key l rs))
    where
      go : (b : Bool) → is_eq (key_cmp l k) ≡ b → (row_of key k (all_removed key ks (without key l rs)) ≡ row_of key k (without key l rs)) ⊎ SomeOf (λ j. j ≡ k) ks
          → (row_of key k (all_removed key ks (without key l rs)) ≡ row_of key k rs) ⊎ SomeOf (λ j. j ≡ k) (l ∷ ks)
      go true e more = inr (inl (key_eq l k e))
      go false e (inl same) = inl (same ∙ row_of-without_other key l k rs e)
      go false e (inr some) = inr (inr some)

  pub all-all_removed : (P : R → Type 0) (ks : List (List ℕ)) (rs : List R) → AllByRecursion P rs → AllByRecursion P (all_removed key ks rs)
  all-all_removed P [] rs h = h
  all-all_removed P (k ∷ ks) rs h = all-all_removed P ks (without key k rs) (go rs h)
    where
      go : (qs : List R) → AllByRecursion P qs → AllByRecursion P (without key k qs)
      go [] a = tt
      go (q ∷ qs) a = elim (has_key key k q) as (λ b. AllByRecursion P (cond (not b) (q ∷ without key k qs) (without key k qs))) [ true ↦ go qs a.1 | false ↦ (a.0, go qs a.1) ]

  pub some-all_removed : (P : R → Type 0) (ks : List (List ℕ)) (rs : List R) → SomeOf P (all_removed key ks rs) → SomeOf P rs
  some-all_removed P [] rs h = h
  some-all_removed P (k ∷ ks) rs h = go rs (some-all_removed P ks (without key k rs) h)
    where
      go : (qs : List R) → SomeOf P (without key k qs) → SomeOf P qs
      go [] a = a
      go (q ∷ qs) a = one (has_key key k q) (go qs) a
        where
          one : (b : Bool) → (SomeOf P (without key k qs) → SomeOf P qs) → SomeOf P (cond (not b) (q ∷ without key k qs) (without key k qs)) → P q ⊎ SomeOf P qs
          one true more x = inr (more x)
          one false more (inl x) = inl x
          one false more (inr x) = inr (more x)

-- ---- ends

module _ {R : Type 0} (key : R → List ℕ) (v : Validity R) where
  -- what an end leaves, of all rows
  pub all-ended : (P : R → Type 0) (m : ℕ) → ((r : R) → P r → P (ended_at v m r)) → (ends rs : List R) → AllByRecursion P rs → AllByRecursion P (all_ended v key (ends_at key m ends) rs)
  all-ended P m keeps [] rs h = h
  all-ended P m keeps (e ∷ ends) rs h = all-ended P m keeps ends (edited key (ended_at v m) (key e) rs) (go rs h)
    where
      go : (qs : List R) → AllByRecursion P qs → AllByRecursion P (edited key (ended_at v m) (key e) qs)
      go [] k = tt
      go (q ∷ qs) k = (elim (has_key key (key e) q) as (λ b. P (cond b (ended_at v m q) q)) [ true ↦ keeps q k.0 | false ↦ k.0 ], go qs k.1)

  -- and of one of them
  pub some-ended : (P : R → Type 0) (m : ℕ) → ((r : R) → P (ended_at v m r) → P r) → (ends rs : List R) → SomeOf P (all_ended v key (ends_at key m ends) rs) → SomeOf P rs
  some-ended P m keeps [] rs h = h
  some-ended P m keeps (e ∷ ends) rs h = go rs (some-ended P m keeps ends (edited key (ended_at v m) (key e) rs) h)
    where
      go : (qs : List R) → SomeOf P (edited key (ended_at v m) (key e) qs) → SomeOf P qs
      go [] k = k
      go (q ∷ qs) (inl k) = inl (one (has_key key (key e) q) k)
        where
          one : (b : Bool) → P (cond b (ended_at v m q) q) → P q
          one true x = keeps q x
          one false x = x
      go (q ∷ qs) (inr k) = inr (go qs k)

  -- what doesn't speak of ends
  pub over_end : (P : R → Type 0) (m : ℕ) → ((e : Option ℕ) (r : R) → P r → P (v.with_end e r)) → (r : R) → P r → P (ended_at v m r)
  over_end P m stays r h = elim (is_none (v.end r)) as (λ b. P (cond b (v.with_end (Some m) r) r)) [ true ↦ stays (Some m) r h | false ↦ h ]

  pub under_end : (P : R → Type 0) (m : ℕ) → ((e : Option ℕ) (r : R) → P (v.with_end e r) → P r) → (r : R) → P (ended_at v m r) → P r
  under_end P m stays r h = go (is_none (v.end r)) h
    where
      go : (b : Bool) → P (cond b (v.with_end (Some m) r) r) → P r
      go true x = stays (Some m) r x
      go false x = x

  module _ (laws : IsValidity v key) where
    -- a row up to its end
    open_ended : (m : ℕ) (r : R) → v.with_end None (ended_at v m r) ≡ v.with_end None r
    open_ended m r = elim (is_none (v.end r)) as (λ b. v.with_end None (cond b (v.with_end (Some m) r) r) ≡ v.with_end None r) [ true ↦ laws.last_end None (Some m) r | false ↦ refl ]

    edited_open : (m : ℕ) (l k : List ℕ) (rs : List R) → option_map (v.with_end None) (row_of key k (edited key (ended_at v m) l rs)) ≡ option_map (v.with_end None) (row_of key k rs)
    edited_open m l k [] = refl
    edited_open m l k (r ∷ rs) =
        elim (has_key key l r) as (λ b. option_map (v.with_end None) (row_of key k (cond b (ended_at v m r) r ∷ edited key (ended_at v m) l rs)) ≡ option_map (v.with_end None) (row_of key k (r ∷ rs)))
        [ true ↦ ap (λ a. option_map (v.with_end None) (cond (is_eq (key_cmp a k)) (Some (ended_at v m r)) (row_of key k (edited key (ended_at v m) l rs)))) (key-ended_at key v laws m r) ∙ both (edited_open m l k rs) (has_key key k r) (ended_at v m r) (open_ended m r) | false ↦ both (edited_open m l k rs) (has_key key k r) r refl ]
      where
        both : option_map (v.with_end None) (row_of key k (edited key (ended_at v m) l rs)) ≡ option_map (v.with_end None) (row_of key k rs) → (b : Bool) (q : R) → v.with_end None q ≡ v.with_end None r → option_map (v.with_end None) (cond b (Some q) (row_of key k (edited key (ended_at v m) l rs))) ≡ option_map (v.with_end None) (cond b (Some r) (row_of key k rs))
        both more true q e = ap Some e
        both more false q e = more

    -- the row of a key is the one that was there, up to its end
    pub row_of-ended : (k : List ℕ) (m : ℕ) (ends rs : List R) → option_map (v.with_end None) (row_of key k (all_ended v key (ends_at key m ends) rs)) ≡ option_map (v.with_end None) (row_of key k rs)
    row_of-ended k m [] rs = refl
    row_of-ended k m (e ∷ ends) rs = row_of-ended k m ends (edited key (ended_at v m) (key e) rs) ∙ edited_open m (key e) k rs
