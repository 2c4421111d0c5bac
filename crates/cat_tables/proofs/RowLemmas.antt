-- The row of a key after an edit of another, and after its own.
use Rattle.std.proofs.Common.{◌≡◌, ℕ, Bool, true, false, cond, not, List, [], ◌∷◌, refl, sym, ap, ◌∙◌, Option, Some, None, is_some, is_lt, is_eq, true≢false}
use Rattle.std.proofs.lemmas.Cmp.{nat_list_cmp_total}
use Rattle.cat_tables.specs.Table.{key_cmp, LacksKey, has_key, row_of, put, without, edited}
use Rattle.cat_tables.proofs.KeyLemmas.{key_eq}
use Rattle.cat_tables.proofs.PlaceLemmas.{equal_is}

is_some_not : {X : Type 0} (b : Bool) (x : X) (o : Option X) → is_some (cond b (Some x) o) ≡ false → (b ≡ false) × (is_some o ≡ false)
is_some_not true x o h = absurd (true≢false h)
is_some_not false x o h = (refl, h)

module _ {R : Type 0} (key : R → List ℕ) where
  -- no row has a key of which there is no row
  pub LacksKey-row_of : (k : List ℕ) (rs : List R) → is_some (row_of key k rs) ≡ false → LacksKey key k rs
  LacksKey-row_of k [] h = tt
  LacksKey-row_of k (r ∷ rs) h = let both = is_some_not (has_key key k r) r (row_of key k rs) h in (both.0, LacksKey-row_of k rs both.1)

  pub LacksKey-none : (k : List ℕ) (rs : List R) → row_of key k rs ≡ None → LacksKey key k rs
  LacksKey-none k rs e = LacksKey-row_of k rs (ap is_some e)

  -- the row that is found has the key
  pub has_key-row_of : (k : List ℕ) (rs : List R) (r : R) → row_of key k rs ≡ Some r → has_key key k r ≡ true
  has_key-row_of k [] r e = absurd (cc e)
  has_key-row_of k (x ∷ rs) r e = go (has_key key k x) refl e (has_key-row_of k rs r)
    where
      found : (x : R) → Some x ≡ Some r → x ≡ r
      found x e = cc e

      go : (b : Bool) → has_key key k x ≡ b → cond b (Some x) (row_of key k rs) ≡ Some r → (row_of key k rs ≡ Some r → has_key key k r ≡ true) → has_key key k r ≡ true
      go true is e more = ap (has_key key k) (sym (found x e)) ∙ is
      go false is e more = more e

  pub key-row_of : (k : List ℕ) (rs : List R) (r : R) → row_of key k rs ≡ Some r → key r ≡ k
  key-row_of k rs r e = key_eq (key r) k (has_key-row_of k rs r e)

  -- a row with another key, put among them
  pub row_of-put : (new : R) (k : List ℕ) (rs : List R) → has_key key k new ≡ false → row_of key k (put key new rs) ≡ row_of key k rs
  row_of-put new k [] h = rw h refl
  row_of-put new k (r ∷ rs) h =
      elim (is_lt (key_cmp (key r) (key new))) as (λ b. row_of key k (cond b (r ∷ put key new rs) (new ∷ r ∷ rs)) ≡ row_of key k (r ∷ rs))
      [ true ↦ ap (λ o. cond (has_key key k r) (Some r) o) (row_of-put new k rs h) | false ↦ ap (λ b. cond b (Some new) (row_of key k (r ∷ rs))) h ]

  -- an edit that keeps the keys takes no row away
  pub is_some-row_of-edited : (f : R → R) (l k : List ℕ) → ((r : R) → key (f r) ≡ key r) → (rs : List R) → is_some (row_of key k (edited key f l rs)) ≡ is_some (row_of key k rs)
  is_some-row_of-edited f l k same [] = refl
  is_some-row_of-edited f l k same (r ∷ rs) = go (cond (has_key key l r) (f r) r) (elim (has_key key l r) as (λ b. key (cond b (f r) r) ≡ key r) [ true ↦ same r | false ↦ refl ]) (is_some-row_of-edited f l k same rs)
    where
      either : (b : Bool) (x y : R) (o p : Option R) → is_some o ≡ is_some p → is_some (cond b (Some x) o) ≡ is_some (cond b (Some y) p)
      either true x y o p e = refl
      either false x y o p e = e

      go : (q : R) → key q ≡ key r → is_some (row_of key k (edited key f l rs)) ≡ is_some (row_of key k rs) → is_some (cond (has_key key k q) (Some q) (row_of key k (edited key f l rs))) ≡ is_some (cond (has_key key k r) (Some r) (row_of key k rs))
      go q e more = ap (λ a. is_some (cond (is_eq (key_cmp a k)) (Some q) (row_of key k (edited key f l rs)))) e ∙ either (has_key key k r) q r (row_of key k (edited key f l rs)) (row_of key k rs) more

  -- its own row is gone
  pub row_of-without : (k : List ℕ) (rs : List R) → row_of key k (without key k rs) ≡ None
  row_of-without k [] = refl
  row_of-without k (r ∷ rs) = go (has_key key k r) refl (row_of-without k rs)
    where
      go : (b : Bool) → has_key key k r ≡ b → row_of key k (without key k rs) ≡ None → row_of key k (cond (not b) (r ∷ without key k rs) (without key k rs)) ≡ None
      go true e more = more
      go false e more = ap (λ b. cond b (Some r) (row_of key k (without key k rs))) e ∙ more

  -- and another one stays
  pub row_of-without_other : (l k : List ℕ) (rs : List R) → is_eq (key_cmp l k) ≡ false → row_of key k (without key l rs) ≡ row_of key k rs
  row_of-without_other l k [] apart = refl
  row_of-without_other l k (r ∷ rs) apart = go (has_key key l r) refl (row_of-without_other l k rs apart)
    where
      differs : has_key key l r ≡ true → has_key key k r ≡ false
      differs e = ap is_eq (nat_list_cmp_total.congr (key r) l k (equal_is _ e)) ∙ apart

      go : (b : Bool) → has_key key l r ≡ b → row_of key k (without key l rs) ≡ row_of key k rs → row_of key k (cond (not b) (r ∷ without key l rs) (without key l rs)) ≡ row_of key k (r ∷ rs)
      go true e more = more ∙ sym (ap (λ b. cond b (Some r) (row_of key k rs)) (differs e))
      go false e more = ap (λ o. cond (has_key key k r) (Some r) o) more
