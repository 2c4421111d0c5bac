-- What the new snapshot sees after a batch: rows that end there are gone, and a new row stands at its place.
use Rattle.std.proofs.Common.{◌≡◌, ℕ, ◌+◌, ◌≤◌, Bool, true, false, cond, not, List, [], ◌∷◌, map, filter, refl, sym, ap, ap₂, ◌∙◌, arith, Option, Some, None, is_lt, is_eq, true≢false}
use Rattle.std.specs.Prelude.{is_none}
use Rattle.std.specs.List.{AllByRecursion}
use Rattle.std.proofs.lemmas.Bool.{and_right, le-ltb}
use Rattle.std.proofs.lemmas.Cmp.{nat_list_cmp_total}
use Rattle.cat_tables.specs.Table.{key_cmp, put, edited, without, has_key, IsBelow, RisesByKey}
use Rattle.cat_tables.specs.Validity.{Validity, IsValidity, EndsBy, is_visible, visible_at, ended_at, is_before}
use Rattle.cat_tables.proofs.PlaceLemmas.{less_is}

module _ {R : Type 0} (key : R → List ℕ) (v : Validity R) (laws : IsValidity v key) where
  ended_unseen : (n : ℕ) (r : R) → EndsBy n (v.end r) → is_visible v n (ended_at v n r) ≡ false
  ended_unseen n r h = go (v.end r) refl h
    where
      go : (e : Option ℕ) → v.end r ≡ e → EndsBy n e → is_visible v n (cond (is_none e) (v.with_end (Some n) r) r) ≡ false
      go None q h = and_right _ _ (ap (is_before n) (laws.end_is (Some n) r) ∙ le-ltb n n (omega arith))
      go (Some m) q h = and_right _ _ (ap (is_before n) q ∙ le-ltb n m (omega arith))

  same_key : (k : List ℕ) (r : R) → has_key key k (v.with_end None r) ≡ has_key key k r
  same_key k r = ap (λ a. is_eq (key_cmp a k)) (laws.key_stays None r)

  -- a row that ends at n is gone there, where no row ends past n
  pub visible_at-edited_now : (n : ℕ) (k : List ℕ) (rs : List R) → AllByRecursion (λ r. EndsBy n (v.end r)) rs → visible_at v n (edited key (ended_at v n) k rs) ≡ without key k (visible_at v n rs)
  visible_at-edited_now n k [] h = refl
  visible_at-edited_now n k (r ∷ rs) h = go (has_key key k r) refl (visible_at-edited_now n k rs h.1)
    where
      gone : (b : Bool) (xs : List R) → has_key key k r ≡ true → without key k (map (v.with_end None) xs) ≡ without key k (map (v.with_end None) (cond b (r ∷ xs) xs))
      gone true xs e = ap (λ t. cond (not t) (v.with_end None r ∷ without key k (map (v.with_end None) xs)) (without key k (map (v.with_end None) xs))) (sym (same_key k r ∙ e))
      gone false xs e = refl

      kept : (b : Bool) (xs ys : List R) → has_key key k r ≡ false → map (v.with_end None) ys ≡ without key k (map (v.with_end None) xs) → map (v.with_end None) (cond b (r ∷ ys) ys) ≡ without key k (map (v.with_end None) (cond b (r ∷ xs) xs))
      kept true xs ys e m = ap (λ l. v.with_end None r ∷ l) m ∙ ap (λ t. cond (not t) (v.with_end None r ∷ without key k (map (v.with_end None) xs)) (without key k (map (v.with_end None) xs))) (sym (same_key k r ∙ e))
      kept false xs ys e m = m

      go : (b : Bool) → has_key key k r ≡ b → visible_at v n (edited key (ended_at v n) k rs) ≡ without key k (visible_at v n rs)
          → visible_at v n (cond b (ended_at v n r) r ∷ edited key (ended_at v n) k rs) ≡ without key k (visible_at v n (r ∷ rs))
      go true e more =
          ap (λ t. map (v.with_end None) (cond t (ended_at v n r ∷ filter (is_visible v n) (edited key (ended_at v n) k rs)) (filter (is_visible v n) (edited key (ended_at v n) k rs)))) (ended_unseen n r h.0)
          ∙ more ∙ gone (is_visible v n r) (filter (is_visible v n) rs) e
      go false e more = kept (is_visible v n r) (filter (is_visible v n) rs) (filter (is_visible v n) (edited key (ended_at v n) k rs)) e more

  -- no row is below the new one
  abbrev NoneBelow : R → List R → Type 0
  NoneBelow new rs = AllByRecursion (λ r. is_lt (key_cmp (key r) (key new)) ≡ false) rs

  put_front : (new : R) (rs : List R) → NoneBelow new rs → put key new rs ≡ new ∷ rs
  put_front new [] h = refl
  put_front new (r ∷ rs) h = ap (λ b. cond b (r ∷ put key new rs) (new ∷ r ∷ rs)) h.0

  open_keys : (a b : R) → is_lt (key_cmp (key (v.with_end None a)) (key (v.with_end None b))) ≡ is_lt (key_cmp (key a) (key b))
  open_keys a b = ap₂ (λ x y. is_lt (key_cmp x y)) (laws.key_stays None a) (laws.key_stays None b)

  none_below_seen : (s : ℕ) (new : R) (rs : List R) → NoneBelow new rs → NoneBelow (v.with_end None new) (visible_at v s rs)
  none_below_seen s new [] h = tt
  none_below_seen s new (r ∷ rs) h =
      elim (is_visible v s r) as (λ b. NoneBelow (v.with_end None new) (map (v.with_end None) (cond b (r ∷ filter (is_visible v s) rs) (filter (is_visible v s) rs))))
      [ true ↦ (open_keys r new ∙ h.0, none_below_seen s new rs h.1) | false ↦ none_below_seen s new rs h.1 ]

  none_above : (new r : R) (rs : List R) → is_lt (key_cmp (key r) (key new)) ≡ false → AllByRecursion (IsBelow key r) rs → NoneBelow new rs
  none_above new r [] e h = tt
  none_above new r (q ∷ rs) e h = (go (is_lt (key_cmp (key q) (key new))) refl, none_above new r rs e h.1)
    where
      go : (b : Bool) → is_lt (key_cmp (key q) (key new)) ≡ b → b ≡ false
      go false t = refl
      go true t = absurd (true≢false (sym (ap is_lt (nat_list_cmp_total.trans (key r) (key q) (key new) h.0 (less_is _ t))) ∙ e))

  -- The new row stands at its place among those that are seen.
  pub visible_at-put_here : (s : ℕ) (new : R) (rs : List R) → is_visible v s new ≡ true → RisesByKey key rs → visible_at v s (put key new rs) ≡ put key (v.with_end None new) (visible_at v s rs)
  visible_at-put_here s new [] h up = rw h refl
  visible_at-put_here s new (r ∷ rs) h up = go (is_lt (key_cmp (key r) (key new))) refl (visible_at-put_here s new rs h up.1)
    where
      seen : (b : Bool) → is_lt (key_cmp (key r) (key new)) ≡ true → visible_at v s (put key new rs) ≡ put key (v.with_end None new) (visible_at v s rs)
          → map (v.with_end None) (cond b (r ∷ filter (is_visible v s) (put key new rs)) (filter (is_visible v s) (put key new rs))) ≡ put key (v.with_end None new) (map (v.with_end None) (cond b (r ∷ filter (is_visible v s) rs) (filter (is_visible v s) rs)))
      seen true e more = ap (λ l. v.with_end None r ∷ l) more ∙ ap (λ b. cond b (v.with_end None r ∷ put key (v.with_end None new) (visible_at v s rs)) (v.with_end None new ∷ v.with_end None r ∷ visible_at v s rs)) (sym (open_keys r new ∙ e))
      seen false e more = more

      go : (b : Bool) → is_lt (key_cmp (key r) (key new)) ≡ b → visible_at v s (put key new rs) ≡ put key (v.with_end None new) (visible_at v s rs)
          → visible_at v s (cond b (r ∷ put key new rs) (new ∷ r ∷ rs)) ≡ put key (v.with_end None new) (visible_at v s (r ∷ rs))
      go true e more = seen (is_visible v s r) e more
      go false e more =
          ap (λ b. map (v.with_end None) (cond b (new ∷ filter (is_visible v s) (r ∷ rs)) (filter (is_visible v s) (r ∷ rs)))) h
          ∙ sym (put_front (v.with_end None new) (visible_at v s (r ∷ rs)) (none_below_seen s new (r ∷ rs) (e, none_above new r rs e up.0)))
