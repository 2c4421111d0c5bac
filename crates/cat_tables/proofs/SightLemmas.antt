-- What the next snapshot sees of one table after a batch: the rows that end there are gone, and the new ones stand last.
use Rattle.std.proofs.Common.{◌≡◌, ℕ, ◌+◌, Bool, true, false, cond, not, ◌&&◌, List, [], ◌∷◌, ◌++◌, map, filter, refl, sym, ap, ap₂, subst, ◌∙◌, arith, Option, Some, None, Ordering, Less, Equal, Greater, is_lt, is_eq, append-nil, append_assoc}
use Rattle.std.specs.Prelude.{is_none}
use Rattle.std.specs.List.{AllByRecursion}
use Rattle.std.specs.Ordering.{ordering_reverse}
use Rattle.std.proofs.lemmas.Bool.{and_from, le-leb}
use Rattle.std.proofs.lemmas.Bool.Decides.{nat_tests}
use Rattle.std.proofs.lemmas.Cmp.{nat_list_cmp_total}
use Rattle.cat_tables.specs.Laws.{PutsLast, SeesNow}
use Rattle.cat_tables.specs.Table.{ArePast, key_cmp, put, put_all, edited, without, all_removed, has_key, IsBelow, RisesByKey}
use Rattle.cat_tables.specs.Validity.{Validity, IsValidity, EndsBy, IsBy, IsNew, is_visible, visible_at, ended_at, all_ended, is_before}
use Rattle.cat_tables.proofs.FrameLemmas.{key-ended_at}
use Rattle.cat_tables.proofs.NowLemmas.{visible_at-edited_now}
use Rattle.cat_tables.proofs.PutLemmas.{all_weaker}

module _ {R : Type 0} (v : Validity R) where
  pub is_visible-by : (n : ℕ) (r : R) → IsBy v n r → is_visible v (n + 1) r ≡ is_visible v n r
  is_visible-by n r h = ap₂ ◌&&◌ (le-leb (v.begin r) (n + 1) (omega (arith, h.0)) ∙ sym (le-leb (v.begin r) n h.0)) (go (v.end r) h.1)
    where
      go : (e : Option ℕ) → EndsBy n e → is_before (n + 1) e ≡ is_before n e
      go None b = refl
      go (Some m) b = grind (arith, nat_tests)

  -- a snapshot past all begins and ends sees what the newest does
  pub visible_at-by : (n : ℕ) (rs : List R) → AllByRecursion (IsBy v n) rs → visible_at v (n + 1) rs ≡ visible_at v n rs
  visible_at-by n rs h = ap (map (v.with_end None)) (go rs h)
    where
      go : (qs : List R) → AllByRecursion (IsBy v n) qs → filter (is_visible v (n + 1)) qs ≡ filter (is_visible v n) qs
      go [] h = refl
      go (q ∷ qs) h = ap₂ (λ b l. cond b (q ∷ l) l) (is_visible-by n q h.0) (go qs h.1)

  pub visible_at-append : (s : ℕ) (xs ys : List R) → visible_at v s (xs ++ ys) ≡ visible_at v s xs ++ visible_at v s ys
  visible_at-append s [] ys = refl
  visible_at-append s (x ∷ xs) ys = elim (is_visible v s x) as (λ b. map (v.with_end None) (cond b (x ∷ filter (is_visible v s) (xs ++ ys)) (filter (is_visible v s) (xs ++ ys))) ≡ map (v.with_end None) (cond b (x ∷ filter (is_visible v s) xs) (filter (is_visible v s) xs)) ++ visible_at v s ys)
      [ true ↦ ap (λ l. v.with_end None x ∷ l) (visible_at-append s xs ys) | false ↦ visible_at-append s xs ys ]

module _ {R : Type 0} (key : R → List ℕ) where
  pub put-last : (new : R) (rs : List R) → AllByRecursion (λ r. is_lt (key_cmp (key r) (key new)) ≡ true) rs → put key new rs ≡ rs ++ new ∷ []
  put-last new [] h = refl
  put-last new (r ∷ rs) h = ap (λ b. cond b (r ∷ put key new rs) (new ∷ r ∷ rs)) h.0 ∙ ap (λ l. r ∷ l) (put-last new rs h.1)

  past_more : (new : R) (news rs : List R) → AllByRecursion (λ r. is_lt (key_cmp (key new) (key r)) ≡ true) news → ArePast key news rs → ArePast key news (rs ++ new ∷ [])
  past_more new [] rs h past = tt
  past_more new (q ∷ news) rs h past = (push rs past.0, past.1, past_more new news rs h.1 past.2)
    where
      push : (xs : List R) → AllByRecursion (λ r. is_lt (key_cmp (key r) (key q)) ≡ true) xs → AllByRecursion (λ r. is_lt (key_cmp (key r) (key q)) ≡ true) (xs ++ new ∷ [])
      push [] a = (h.0, tt)
      push (x ∷ xs) a = (a.0, push xs a.1)

  -- new keys are past all, so they are appended
  pub put_all-last : PutsLast key
  put_all-last [] rs past = sym (append-nil rs)
  put_all-last (new ∷ news) rs past =
      ap (put_all key news) (put-last new rs past.0) ∙ put_all-last news (rs ++ new ∷ []) (past_more new news rs past.1 past.2) ∙ append_assoc rs (new ∷ []) news

  past_edited : (f : R → R) (k : List ℕ) (same : (r : R) → key (f r) ≡ key r) (news rs : List R) → ArePast key news rs → ArePast key news (edited key f k rs)
  past_edited f k same [] rs past = tt
  past_edited f k same (new ∷ news) rs past = (go rs past.0, past.1, past_edited f k same news rs past.2)
    where
      go : (xs : List R) → AllByRecursion (λ r. is_lt (key_cmp (key r) (key new)) ≡ true) xs → AllByRecursion (λ r. is_lt (key_cmp (key r) (key new)) ≡ true) (edited key f k xs)
      go [] a = tt
      go (x ∷ xs) a = (ap (λ l. is_lt (key_cmp l (key new))) (elim (has_key key k x) as (λ b. key (cond b (f x) x) ≡ key x) [ true ↦ same x | false ↦ refl ]) ∙ a.0, go xs a.1)

  -- ---- rows taken away by their keys

  pub apart_above : (k : List ℕ) (r : R) → key_cmp k (key r) ≡ Less → has_key key k r ≡ false
  apart_above k r below = ap is_eq (nat_list_cmp_total.antisymm (key r) k ∙ ap ordering_reverse below)

  without-above : (k : List ℕ) (rs : List R) → AllByRecursion (λ r. key_cmp k (key r) ≡ Less) rs → without key k rs ≡ rs
  without-above k [] h = refl
  without-above k (r ∷ rs) h = ap (λ b. cond (not b) (r ∷ without key k rs) (without key k rs)) (apart_above k r h.0) ∙ ap (λ l. r ∷ l) (without-above k rs h.1)

  pub same_key : (r : R) → has_key key (key r) r ≡ true
  same_key r = go (key_cmp (key r) (key r)) (nat_list_cmp_total.antisymm (key r) (key r))
    where
      go : (o : Ordering) → o ≡ ordering_reverse o → is_eq o ≡ true
      go Less e = cc
      go Equal e = refl
      go Greater e = cc

  -- keys that all stand above a row leave it
  all_removed-above : (ks : List (List ℕ)) (r : R) (rs : List R) → AllByRecursion (λ k. key_cmp (key r) k ≡ Less) ks → all_removed key ks (r ∷ rs) ≡ r ∷ all_removed key ks rs
  all_removed-above [] r rs h = refl
  all_removed-above (k ∷ ks) r rs h =
      ap (λ b. all_removed key ks (cond (not b) (r ∷ without key k rs) (without key k rs))) (ap is_eq h.0) ∙ all_removed-above ks r (without key k rs) h.1

  keys_above : (r : R) (p : R → Bool) (rs : List R) → AllByRecursion (IsBelow key r) rs → AllByRecursion (λ k. key_cmp (key r) k ≡ Less) (map key (filter p rs))
  keys_above r p [] h = tt
  keys_above r p (q ∷ rs) h = elim (p q) as (λ b. AllByRecursion (λ k. key_cmp (key r) k ≡ Less) (map key (cond b (q ∷ filter p rs) (filter p rs)))) [ true ↦ (h.0, keys_above r p rs h.1) | false ↦ keys_above r p rs h.1 ]

  -- Where keys rise, taking away the keys of those that pass a test leaves the others.
  pub all_removed-those : (p : R → Bool) (rs : List R) → RisesByKey key rs → all_removed key (map key (filter p rs)) rs ≡ filter (λ r. not (p r)) rs
  all_removed-those p [] up = refl
  all_removed-those p (r ∷ rs) up = go (p r) (all_removed-those p rs up.1)
    where
      go : (b : Bool) → all_removed key (map key (filter p rs)) rs ≡ filter (λ q. not (p q)) rs
          → all_removed key (map key (cond b (r ∷ filter p rs) (filter p rs))) (r ∷ rs) ≡ cond (not b) (r ∷ filter (λ q. not (p q)) rs) (filter (λ q. not (p q)) rs)
      go true more =
          ap (λ b. all_removed key (map key (filter p rs)) (cond (not b) (r ∷ without key (key r) rs) (without key (key r) rs))) (same_key r)
          ∙ ap (all_removed key (map key (filter p rs))) (without-above (key r) rs up.0) ∙ more
      go false more = all_removed-above (map key (filter p rs)) r rs (keys_above r p rs up.0) ∙ ap (λ l. r ∷ l) more

module _ {R : Type 0} (key : R → List ℕ) (v : Validity R) (laws : IsValidity v key) where
  ended_by : (m : ℕ) (r : R) → EndsBy m (v.end r) → EndsBy m (v.end (ended_at v m r))
  ended_by m r h = go (v.end r) refl h
    where
      go : (e : Option ℕ) → v.end r ≡ e → EndsBy m e → EndsBy m (v.end (cond (is_none e) (v.with_end (Some m) r) r))
      go None q h = subst (EndsBy m) (sym (laws.end_is (Some m) r)) (omega arith)
      go (Some e) q h = subst (EndsBy m) (sym q) h

  edited_by : (m : ℕ) (k : List ℕ) (rs : List R) → AllByRecursion (λ r. EndsBy m (v.end r)) rs → AllByRecursion (λ r. EndsBy m (v.end r)) (edited key (ended_at v m) k rs)
  edited_by m k [] h = tt
  edited_by m k (r ∷ rs) h = (elim (has_key key k r) as (λ b. EndsBy m (v.end (cond b (ended_at v m r) r))) [ true ↦ ended_by m r h.0 | false ↦ h.0 ], edited_by m k rs h.1)

  abbrev at_m : ℕ → List (List ℕ) → List (List ℕ × ℕ)
  at_m m ks = map (λ k. (k, m)) ks

  -- several keys
  pub visible_at-all_ended_here : (m : ℕ) (ks : List (List ℕ)) (rs : List R) → AllByRecursion (λ r. EndsBy m (v.end r)) rs → visible_at v m (all_ended v key (at_m m ks) rs) ≡ all_removed key ks (visible_at v m rs)
  visible_at-all_ended_here m [] rs h = refl
  visible_at-all_ended_here m (k ∷ ks) rs h =
      visible_at-all_ended_here m ks (edited key (ended_at v m) k rs) (edited_by m k rs h) ∙ ap (all_removed key ks) (visible_at-edited_now key v laws m k rs h)

  pub past_all_ended : (m : ℕ) (ks : List (List ℕ)) (news rs : List R) → ArePast key news rs → ArePast key news (all_ended v key (at_m m ks) rs)
  past_all_ended m [] news rs past = past
  past_all_ended m (k ∷ ks) news rs past = past_all_ended m ks news (edited key (ended_at v m) k rs) (past_edited key (ended_at v m) k (key-ended_at key v laws m) news rs past)

  open_rises : (s : ℕ) (rs : List R) → RisesByKey key rs → RisesByKey key (visible_at v s rs)
  open_rises s [] up = tt
  open_rises s (r ∷ rs) up =
      elim (is_visible v s r) as (λ b. RisesByKey key (map (v.with_end None) (cond b (r ∷ filter (is_visible v s) rs) (filter (is_visible v s) rs))))
      [ true ↦ (above r rs up.0, open_rises s rs up.1) | false ↦ open_rises s rs up.1 ]
    where
      above : (q : R) (xs : List R) → AllByRecursion (IsBelow key q) xs → AllByRecursion (IsBelow key (v.with_end None q)) (visible_at v s xs)
      above q [] h = tt
      above q (x ∷ xs) h = elim (is_visible v s x) as (λ b. AllByRecursion (IsBelow key (v.with_end None q)) (map (v.with_end None) (cond b (x ∷ filter (is_visible v s) xs) (filter (is_visible v s) xs))))
          [ true ↦ (ap₂ key_cmp (laws.key_stays None q) (laws.key_stays None x) ∙ h.0, above q xs h.1) | false ↦ above q xs h.1 ]

  new_seen : (m : ℕ) (news : List R) → AllByRecursion (IsNew v m) news → visible_at v m news ≡ news
  new_seen m [] h = refl
  new_seen m (r ∷ news) h =
      let here : is_visible v m r ≡ true = and_from _ _ (le-leb (v.begin r) m (omega (arith, h.0.0))) (ap (is_before m) h.0.1) in
      ap (λ b. map (v.with_end None) (cond b (r ∷ filter (is_visible v m) news) (filter (is_visible v m) news))) here ∙ ap₂ ◌∷◌ (laws.opens r h.0.1) (new_seen m news h.1)

  -- What the next snapshot sees after a table's part of a batch that ends rows there and begins others.
  pub sees-now : SeesNow key v
  sees-now n p news rows up by begins past =
      let m = n + 1 in
      let ks = map key (filter p (visible_at v n rows)) in
      let ends_at_m : AllByRecursion (λ r. EndsBy m (v.end r)) rows = all_weaker key (IsBy v n) (λ r. EndsBy m (v.end r)) (λ r h. later (v.end r) h.1) rows by in
      ap (λ es. visible_at v m (put_all key news (all_ended v key es rows))) (pairs m (filter p (visible_at v n rows)))
      ∙ ap (visible_at v m) (put_all-last key news (all_ended v key (at_m m ks) rows) (past_all_ended m ks news rows past))
      ∙ visible_at-append v m (all_ended v key (at_m m ks) rows) news
      ∙ ap₂ ◌++◌
      (visible_at-all_ended_here m ks rows ends_at_m ∙ ap (all_removed key ks) (visible_at-by v n rows by) ∙ all_removed-those key p (visible_at v n rows) (open_rises n rows up))
      (new_seen m news begins)
    where
      later : (e : Option ℕ) → EndsBy n e → EndsBy (n + 1) e
      later None q = tt
      later (Some e) q = omega arith

      pairs : (m : ℕ) (xs : List R) → map (λ r. (key r, m)) xs ≡ at_m m (map key xs)
      pairs m [] = refl
      pairs m (x ∷ xs) = ap (λ l. (key x, m) ∷ l) (pairs m xs)
