-- What a batch of later changes leaves of what an earlier snapshot sees, and what the new snapshot sees.
use Rattle.std.proofs.Common.{◌≡◌, ℕ, ◌+◌, ◌<◌, ◌≢◌, Bool, true, false, cond, not, ◌&&◌, List, [], ◌∷◌, ◌++◌, map, filter, refl, sym, ap, ap₂, ◌∙◌, Option, Some, None, is_lt, arith}
use Rattle.std.specs.Prelude.{nat_le, is_none}
use Rattle.std.specs.List.{AllByRecursion}
use Rattle.std.proofs.lemmas.Bool.{and_left, lt-ltb, lt-leb}
use Rattle.std.proofs.lemmas.Bool.Decides.{nat_tests}
use Rattle.cat_tables.specs.Table.{key_cmp, put, put_all, edited, has_key, without, all_removed}
use Rattle.cat_tables.specs.Validity.{Validity, IsValidity, is_visible, visible_at, ended_at, all_ended, is_before, IsUnseen, Rests}

module _ {R : Type 0} (key : R → List ℕ) (v : Validity R) where
  -- a row that s doesn't see changes nothing at s
  pub visible_at-put_unseen : (s : ℕ) (new : R) (rs : List R) → is_visible v s new ≡ false → visible_at v s (put key new rs) ≡ visible_at v s rs
  visible_at-put_unseen s new [] h = rw h
  visible_at-put_unseen s new (r ∷ rs) h = go (is_lt (key_cmp (key r) (key new))) (visible_at-put_unseen s new rs h)
    where
      seen_or_not : (b : Bool) → visible_at v s (put key new rs) ≡ visible_at v s rs → map (v.with_end None) (cond b (r ∷ filter (is_visible v s) (put key new rs)) (filter (is_visible v s) (put key new rs))) ≡ map (v.with_end None) (cond b (r ∷ filter (is_visible v s) rs) (filter (is_visible v s) rs))
      seen_or_not true more = ap (λ l. v.with_end None r ∷ l) more
      seen_or_not false more = more

      go : (b : Bool) → visible_at v s (put key new rs) ≡ visible_at v s rs → visible_at v s (cond b (r ∷ put key new rs) (new ∷ r ∷ rs)) ≡ visible_at v s (r ∷ rs)
      go true more = seen_or_not (is_visible v s r) more
      go false more = ap (λ b. map (v.with_end None) (cond b (new ∷ filter (is_visible v s) (r ∷ rs)) (filter (is_visible v s) (r ∷ rs)))) h

  pub visible_at-put_all_unseen : (s : ℕ) (news rs : List R) → AllByRecursion (λ r. is_visible v s r ≡ false) news → visible_at v s (put_all key news rs) ≡ visible_at v s rs
  visible_at-put_all_unseen s [] rs h = refl
  visible_at-put_all_unseen s (new ∷ news) rs h = visible_at-put_all_unseen s news (put key new rs) h.1 ∙ visible_at-put_unseen s new rs h.0

  pub unseen_later : (s : ℕ) (r : R) → s < v.begin r → is_visible v s r ≡ false
  unseen_later s r h = and_left _ _ (lt-leb (v.begin r) s h)

  module _ (laws : IsValidity v key) where
    is_visible-ended_at : (s n : ℕ) (r : R) → s < n → is_visible v s (ended_at v n r) ≡ is_visible v s r
    is_visible-ended_at s n r h = go (v.end r) refl
      where
        go : (e : Option ℕ) → v.end r ≡ e → is_visible v s (cond (is_none e) (v.with_end (Some n) r) r) ≡ is_visible v s r
        go None q = rw (laws.begin_stays (Some n) r, laws.end_is (Some n) r, q, lt-ltb s n h) refl
        go (Some m) q = refl

    pub key-ended_at : (n : ℕ) (r : R) → key (ended_at v n r) ≡ key r
    key-ended_at n r = elim (is_none (v.end r)) as (λ b. key (cond b (v.with_end (Some n) r) r) ≡ key r) [ true ↦ laws.key_stays (Some n) r | false ↦ refl ]

    with_end-ended_at : (n : ℕ) (r : R) → v.with_end None (ended_at v n r) ≡ v.with_end None r
    with_end-ended_at n r = elim (is_none (v.end r)) as (λ b. v.with_end None (cond b (v.with_end (Some n) r) r) ≡ v.with_end None r) [ true ↦ laws.last_end None (Some n) r | false ↦ refl ]

    -- an end past s changes nothing at s
    pub visible_at-edited_later : (s n : ℕ) (k : List ℕ) (rs : List R) → s < n → visible_at v s (edited key (ended_at v n) k rs) ≡ visible_at v s rs
    visible_at-edited_later s n k [] h = refl
    visible_at-edited_later s n k (r ∷ rs) h = go (has_key key k r) (visible_at-edited_later s n k rs h)
      where
        one : (q : R) (b : Bool) → v.with_end None q ≡ v.with_end None r → visible_at v s (edited key (ended_at v n) k rs) ≡ visible_at v s rs
            → map (v.with_end None) (cond b (q ∷ filter (is_visible v s) (edited key (ended_at v n) k rs)) (filter (is_visible v s) (edited key (ended_at v n) k rs))) ≡ map (v.with_end None) (cond b (r ∷ filter (is_visible v s) rs) (filter (is_visible v s) rs))
        one q true e more = ap₂ ◌∷◌ e more
        one q false e more = more

        go : (b : Bool) → visible_at v s (edited key (ended_at v n) k rs) ≡ visible_at v s rs → visible_at v s (cond b (ended_at v n r) r ∷ edited key (ended_at v n) k rs) ≡ visible_at v s (r ∷ rs)
        go true more = rw (is_visible-ended_at s n r h) (one (ended_at v n r) (is_visible v s r) (with_end-ended_at n r) more)
        go false more = one r (is_visible v s r) refl more

    pub visible_at-all_ended_later : (s : ℕ) (ends : List (List ℕ × ℕ)) (rs : List R) → AllByRecursion (λ e. s < e.1) ends → visible_at v s (all_ended v key ends rs) ≡ visible_at v s rs
    visible_at-all_ended_later s [] rs h = refl
    visible_at-all_ended_later s (e ∷ ends) rs h = visible_at-all_ended_later s ends (edited key (ended_at v e.1) e.0 rs) h.1 ∙ visible_at-edited_later s e.1 e.0 rs h.0

    -- The frame: rows that begin past s, and ends past s, change nothing at s.
    pub visible_at-frame : (s : ℕ) (ends : List (List ℕ × ℕ)) (news rs : List R) → AllByRecursion (λ e. s < e.1) ends → AllByRecursion (λ r. s < v.begin r) news → visible_at v s (put_all key news (all_ended v key ends rs)) ≡ visible_at v s rs
    visible_at-frame s ends news rs late begins = visible_at-put_all_unseen s news _ (all_unseen news begins) ∙ visible_at-all_ended_later s ends rs late
      where
        all_unseen : (ns : List R) → AllByRecursion (λ r. s < v.begin r) ns → AllByRecursion (λ r. is_visible v s r ≡ false) ns
        all_unseen [] q = tt
        all_unseen (r ∷ ns) q = (unseen_later s r q.0, all_unseen ns q.1)

    -- rows that are gone and that s doesn't see
    pub visible_at-without_unseen : (s : ℕ) (k : List ℕ) (rs : List R) → AllByRecursion (λ r. has_key key k r ≡ true → is_visible v s r ≡ false) rs → visible_at v s (without key k rs) ≡ visible_at v s rs
    visible_at-without_unseen s k [] h = refl
    visible_at-without_unseen s k (r ∷ rs) h = go (has_key key k r) refl (visible_at-without_unseen s k rs h.1)
      where
        go : (b : Bool) → has_key key k r ≡ b → visible_at v s (without key k rs) ≡ visible_at v s rs → visible_at v s (cond (not b) (r ∷ without key k rs) (without key k rs)) ≡ visible_at v s (r ∷ rs)
        go true e more = more ∙ ap (λ b. map (v.with_end None) (cond b (r ∷ filter (is_visible v s) rs) (filter (is_visible v s) rs))) (sym (h.0 e))
        go false e more = ap (λ l. map (v.with_end None) l) (refl) ∙ keep (is_visible v s r) more
          where
            keep : (b : Bool) → visible_at v s (without key k rs) ≡ visible_at v s rs → map (v.with_end None) (cond b (r ∷ filter (is_visible v s) (without key k rs)) (filter (is_visible v s) (without key k rs))) ≡ map (v.with_end None) (cond b (r ∷ filter (is_visible v s) rs) (filter (is_visible v s) rs))
            keep true m = ap (λ l. v.with_end None r ∷ l) m
            keep false m = m

    is_visible-next : (n : ℕ) (r : R) → (v.begin r ≢ n + 1) → (v.end r ≢ Some (n + 1)) → is_visible v (n + 1) r ≡ is_visible v n r
    is_visible-next n r a b = ap₂ ◌&&◌ begins (go (v.end r) b)
      where
        begins : nat_le (v.begin r) (n + 1) ≡ nat_le (v.begin r) n
        begins = grind (arith, nat_tests)

        go : (e : Option ℕ) → (e ≢ Some (n + 1)) → is_before (n + 1) e ≡ is_before n e
        go None b = refl
        go (Some m) b = let other : m ≢ n + 1 = λ q. b (ap Some q) in grind (arith, nat_tests)

    -- So the next snapshot sees of them what this one sees.
    pub visible_at-rests : (p : R → Bool) (n : ℕ) (rs : List R) → ((r : R) → p (v.with_end None r) ≡ p r) → AllByRecursion (Rests v p n) rs → filter p (visible_at v (n + 1) rs) ≡ filter p (visible_at v n rs)
    visible_at-rests p n [] plain h = refl
    visible_at-rests p n (r ∷ rs) plain h = go (p r) refl (visible_at-rests p n rs plain h.1)
      where
        left_out : (b : Bool) (xs : List R) → p r ≡ false → filter p (map (v.with_end None) (cond b (r ∷ xs) xs)) ≡ filter p (map (v.with_end None) xs)
        left_out true xs e = rw (plain r, e) refl
        left_out false xs e = refl

        both : (b : Bool) (xs ys : List R) → filter p (map (v.with_end None) xs) ≡ filter p (map (v.with_end None) ys) → filter p (map (v.with_end None) (cond b (r ∷ xs) xs)) ≡ filter p (map (v.with_end None) (cond b (r ∷ ys) ys))
        both true xs ys more = ap (λ l. cond (p (v.with_end None r)) (v.with_end None r ∷ l) l) more
        both false xs ys more = more

        go : (b : Bool) → p r ≡ b → filter p (visible_at v (n + 1) rs) ≡ filter p (visible_at v n rs) → filter p (visible_at v (n + 1) (r ∷ rs)) ≡ filter p (visible_at v n (r ∷ rs))
        go false e more = left_out (is_visible v (n + 1) r) (filter (is_visible v (n + 1)) rs) e ∙ more ∙ sym (left_out (is_visible v n r) (filter (is_visible v n) rs) e)
        go true e more =
            let moves = h.0 e in
            ap (λ b. filter p (map (v.with_end None) (cond b (r ∷ filter (is_visible v (n + 1)) rs) (filter (is_visible v (n + 1)) rs)))) (is_visible-next n r moves.0 moves.1)
            ∙ both (is_visible v n r) (filter (is_visible v (n + 1)) rs) (filter (is_visible v n) rs) more

    -- The new snapshot sees a new row at its place.
    pub visible_at-put_seen : (s : ℕ) (new : R) (rs : List R) → is_visible v s new ≡ true → AllByRecursion (λ r. is_lt (key_cmp (key r) (key new)) ≡ true) rs → visible_at v s (put key new rs) ≡ visible_at v s rs ++ v.with_end None new ∷ []
    visible_at-put_seen s new [] h last = rw h refl
    visible_at-put_seen s new (r ∷ rs) h last =
        ap (λ b. visible_at v s (cond b (r ∷ put key new rs) (new ∷ r ∷ rs))) last.0 ∙ go (is_visible v s r) (visible_at-put_seen s new rs h last.1)
      where
        go : (b : Bool) → visible_at v s (put key new rs) ≡ visible_at v s rs ++ v.with_end None new ∷ []
            → map (v.with_end None) (cond b (r ∷ filter (is_visible v s) (put key new rs)) (filter (is_visible v s) (put key new rs))) ≡ map (v.with_end None) (cond b (r ∷ filter (is_visible v s) rs) (filter (is_visible v s) rs)) ++ v.with_end None new ∷ []
        go true more = ap (λ l. v.with_end None r ∷ l) more
        go false more = more

    unseen_without : (s : ℕ) (l k : List ℕ) (rs : List R) → IsUnseen v key s k rs → IsUnseen v key s k (without key l rs)
    unseen_without s l k [] h = tt
    unseen_without s l k (r ∷ rs) h = elim (has_key key l r) as (λ b. IsUnseen v key s k (cond (not b) (r ∷ without key l rs) (without key l rs))) [ true ↦ unseen_without s l k rs h.1 | false ↦ (h.0, unseen_without s l k rs h.1) ]

    all_unseen_without : (s : ℕ) (l : List ℕ) (ks : List (List ℕ)) (rs : List R) → AllByRecursion (λ k. IsUnseen v key s k rs) ks → AllByRecursion (λ k. IsUnseen v key s k (without key l rs)) ks
    all_unseen_without s l [] rs h = tt
    all_unseen_without s l (k ∷ ks) rs h = (unseen_without s l k rs h.0, all_unseen_without s l ks rs h.1)

    -- rows that s doesn't see are taken away
    pub visible_at-all_removed : (s : ℕ) (ks : List (List ℕ)) (rs : List R) → AllByRecursion (λ k. IsUnseen v key s k rs) ks → visible_at v s (all_removed key ks rs) ≡ visible_at v s rs
    visible_at-all_removed s [] rs h = refl
    visible_at-all_removed s (k ∷ ks) rs h = visible_at-all_removed s ks (without key k rs) (all_unseen_without s k ks rs h.1) ∙ visible_at-without_unseen s k rs h.0

    -- A batch that takes away what s doesn't see, and ends and begins rows past s, changes nothing that s sees.
    pub visible_at-batch : (s : ℕ) (ks : List (List ℕ)) (ends : List (List ℕ × ℕ)) (news rs : List R) → AllByRecursion (λ k. IsUnseen v key s k rs) ks → AllByRecursion (λ e. s < e.1) ends → AllByRecursion (λ r. s < v.begin r) news → visible_at v s (put_all key news (all_ended v key ends (all_removed key ks rs))) ≡ visible_at v s rs
    visible_at-batch s ks ends news rs gone late begins = visible_at-frame s ends news (all_removed key ks rs) late begins ∙ visible_at-all_removed s ks rs gone
