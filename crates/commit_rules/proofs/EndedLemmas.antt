-- Which rows of a table end at a snapshot, after a commit.
use Rattle.std.proofs.Common.{◌≡◌, ℕ, ◌+◌, Bool, true, false, cond, List, [], ◌∷◌, map, filter, refl, sym, ap, ap₂, ◌∙◌, arith, Option, Some, None, Less, is_eq}
use Rattle.std.specs.Prelude.{is_none, ◌==◌}
use Rattle.std.specs.List.{AllByRecursion}
use Rattle.std.proofs.lemmas.Bool.{and_parts, ltb-true}
use Rattle.cat_tables.specs.Table.{IsBelow, RisesByKey, edited, has_key, key_cmp}
use Rattle.cat_tables.specs.Validity.{EndsBy, IsBy, IsValidity, Validity, all_ended, ended_at, ends_at, is_before, is_visible, visible_at}
use Rattle.cat_tables.proofs.FrameLemmas.{key-ended_at}
use Rattle.cat_tables.proofs.SightLemmas.{apart_above, same_key}
use Rattle.cat_rules.specs.HistoryRule.{is_end}

same_number : (n : ℕ) → (n == n) ≡ true
same_number n = grind arith

pub other_number : (m n : ℕ) → (m ≡ n → ⊥) → (m == n) ≡ false
other_number m n apart = go (m == n) refl
  where
    go : (b : Bool) → (m == n) ≡ b → b ≡ false
    go true e = absurd (apart (grind (arith, e)))
    go false e = refl

module _ {R Y : Type 0} (key : R → List ℕ) (v : Validity R) (laws : IsValidity v key) (f : R → Y) (same : (e : Option ℕ) (r : R) → f (v.with_end e r) ≡ f r) where
  abbrev ends_there : ℕ → R → Bool
  ends_there s r = is_end s (v.end r)

  same_ended : (m : ℕ) (r : R) → f (ended_at v m r) ≡ f r
  same_ended m r = elim (is_none (v.end r)) as (λ b. f (cond b (v.with_end (Some m) r) r) ≡ f r) [ true ↦ same (Some m) r | false ↦ refl ]

  -- ends at another snapshot
  other_end : (s m : ℕ) → (m == s) ≡ false → (r : R) → ends_there s (ended_at v m r) ≡ ends_there s r
  other_end s m apart r = go (v.end r) refl
    where
      go : (e : Option ℕ) → v.end r ≡ e → is_end s (v.end (cond (is_none e) (v.with_end (Some m) r) r)) ≡ is_end s (v.end r)
      go None q = ap (is_end s) (laws.end_is (Some m) r) ∙ apart ∙ sym (ap (is_end s) q)
      go (Some x) q = refl

  -- a test that ends at m make no difference to
  module _ (q : R → Bool) (m : ℕ) (alike : (r : R) → q (ended_at v m r) ≡ q r) where
    edited_alike : (k : List ℕ) (rs : List R) → map f (filter q (edited key (ended_at v m) k rs)) ≡ map f (filter q rs)
    edited_alike k [] = refl
    edited_alike k (r ∷ rs) =
        elim (has_key key k r) as (λ b. map f (filter q (cond b (ended_at v m r) r ∷ edited key (ended_at v m) k rs)) ≡ map f (filter q (r ∷ rs)))
        [ true ↦ both (edited_alike k rs) (q r) (ended_at v m r) (alike r) (same_ended m r) | false ↦ both (edited_alike k rs) (q r) r refl refl ]
      where
        both : map f (filter q (edited key (ended_at v m) k rs)) ≡ map f (filter q rs) → (b : Bool) (x : R) → q x ≡ b → f x ≡ f r
            → map f (cond (q x) (x ∷ filter q (edited key (ended_at v m) k rs)) (filter q (edited key (ended_at v m) k rs))) ≡ map f (cond b (r ∷ filter q rs) (filter q rs))
        both more true x e g = rw e (ap₂ ◌∷◌ g more)
        both more false x e g = rw e more

    pub ended_alike : (ends rs : List R) → map f (filter q (all_ended v key (ends_at key m ends) rs)) ≡ map f (filter q rs)
    ended_alike [] rs = refl
    ended_alike (e ∷ ends) rs = ended_alike ends (edited key (ended_at v m) (key e) rs) ∙ edited_alike (key e) rs

  pub ended_other : (s m : ℕ) → (m == s) ≡ false → (ends rs : List R) → map f (filter (ends_there s) (all_ended v key (ends_at key m ends) rs)) ≡ map f (filter (ends_there s) rs)
  ended_other s m apart ends rs = ended_alike (ends_there s) m (other_end s m apart) ends rs

  -- ---- ends at this snapshot

  edited-above : (g : R → R) (k : List ℕ) (rs : List R) → AllByRecursion (λ r. key_cmp k (key r) ≡ Less) rs → edited key g k rs ≡ rs
  edited-above g k [] h = refl
  edited-above g k (r ∷ rs) h = ap₂ ◌∷◌ (ap (λ b. cond b (g r) r) (apart_above key k r h.0)) (edited-above g k rs h.1)

  ended-above : (m : ℕ) (ends : List R) (r : R) (rs : List R) → AllByRecursion (IsBelow key r) ends → all_ended v key (ends_at key m ends) (r ∷ rs) ≡ r ∷ all_ended v key (ends_at key m ends) rs
  ended-above m [] r rs h = refl
  ended-above m (e ∷ ends) r rs h =
      ap (λ b. all_ended v key (ends_at key m ends) (cond b (ended_at v m r) r ∷ edited key (ended_at v m) (key e) rs)) (ap is_eq h.0) ∙ ended-above m ends r (edited key (ended_at v m) (key e) rs) h.1

  -- those of the seen rows that pass a test stand above what all rows stand above
  picked_above : (q : R) (n : ℕ) (p : R → Bool) (rs : List R) → AllByRecursion (IsBelow key q) rs → AllByRecursion (IsBelow key q) (filter p (visible_at v n rs))
  picked_above q n p [] h = tt
  picked_above q n p (r ∷ rs) h =
      elim (is_visible v n r) as (λ b. AllByRecursion (IsBelow key q) (filter p (map (v.with_end None) (cond b (r ∷ filter (is_visible v n) rs) (filter (is_visible v n) rs)))))
      [ true ↦ one (p (v.with_end None r)) (picked_above q n p rs h.1) | false ↦ picked_above q n p rs h.1 ]
    where
      one : (b : Bool) → AllByRecursion (IsBelow key q) (filter p (visible_at v n rs)) → AllByRecursion (IsBelow key q) (cond b (v.with_end None r ∷ filter p (visible_at v n rs)) (filter p (visible_at v n rs)))
      one true more = (ap (key_cmp (key q)) (laws.key_stays None r) ∙ h.0, more)
      one false more = more

  below_ended : (m : ℕ) (r : R) (ends : List R) → AllByRecursion (IsBelow key r) ends → AllByRecursion (IsBelow key (ended_at v m r)) ends
  below_ended m r [] h = tt
  below_ended m r (e ∷ ends) h = (ap (λ k. key_cmp k (key e)) (key-ended_at key v laws m r) ∙ h.0, below_ended m r ends h.1)

  pub open_yet : (n : ℕ) (r : R) → IsBy v n r → is_visible v n r ≡ true → v.end r ≡ None
  open_yet n r by sees = go (v.end r) by.1 (and_parts _ _ sees).1
    where
      go : (e : Option ℕ) → EndsBy n e → is_before n e ≡ true → e ≡ None
      go None a b = refl
      go (Some e) a b = let lt = ltb-true n e b in absurd (omega arith)

  not_ended : (n : ℕ) (r : R) → IsBy v n r → ends_there (n + 1) r ≡ false
  not_ended n r by = go (v.end r) by.1
    where
      go : (e : Option ℕ) → EndsBy n e → is_end (n + 1) e ≡ false
      go None a = refl
      go (Some e) a = other_number e (n + 1) (λ same. absurd (omega arith))

  ends_now : (m : ℕ) (r : R) → v.end r ≡ None → ends_there m (ended_at v m r) ≡ true
  ends_now m r e = ap (λ o. is_end m (v.end (cond (is_none o) (v.with_end (Some m) r) r))) e ∙ ap (is_end m) (laws.end_is (Some m) r) ∙ same_number m

  -- those that end are those that were picked
  pub ended_those : (n : ℕ) (p : R → Bool) (rs : List R) → RisesByKey key rs → AllByRecursion (IsBy v n) rs
      → map f (filter (ends_there (n + 1)) (all_ended v key (ends_at key (n + 1) (filter p (visible_at v n rs))) rs)) ≡ map f (filter p (visible_at v n rs))
  ended_those n p [] up by = refl
  ended_those n p (r ∷ rs) up by = go (is_visible v n r) refl (ended_those n p rs up.1 by.1)
    where
      picked : List R
      picked = filter p (visible_at v n rs)

      stays : map f (filter (ends_there (n + 1)) (all_ended v key (ends_at key (n + 1) picked) rs)) ≡ map f picked
          → map f (filter (ends_there (n + 1)) (all_ended v key (ends_at key (n + 1) picked) (r ∷ rs))) ≡ map f picked
      stays more =
          ap (λ l. map f (filter (ends_there (n + 1)) l)) (ended-above (n + 1) picked r rs (picked_above r n p rs up.0))
          ∙ ap (λ b. map f (cond b (r ∷ filter (ends_there (n + 1)) (all_ended v key (ends_at key (n + 1) picked) rs)) (filter (ends_there (n + 1)) (all_ended v key (ends_at key (n + 1) picked) rs)))) (not_ended n r by.0) ∙ more

      ends : is_visible v n r ≡ true → map f (filter (ends_there (n + 1)) (all_ended v key (ends_at key (n + 1) picked) rs)) ≡ map f picked
          → map f (filter (ends_there (n + 1)) (all_ended v key (ends_at key (n + 1) (v.with_end None r ∷ picked)) (r ∷ rs))) ≡ f (v.with_end None r) ∷ map f picked
      ends sees more =
          let m = n + 1 in
          let x = ended_at v m r in
          ap (λ k. map f (filter (ends_there m) (all_ended v key (ends_at key m picked) (edited key (ended_at v m) k (r ∷ rs))))) (laws.key_stays None r)
          ∙ ap (λ b. map f (filter (ends_there m) (all_ended v key (ends_at key m picked) (cond b x r ∷ edited key (ended_at v m) (key r) rs)))) (same_key key r)
          ∙ ap (λ l. map f (filter (ends_there m) (all_ended v key (ends_at key m picked) (x ∷ l)))) (edited-above (ended_at v m) (key r) rs up.0)
          ∙ ap (λ l. map f (filter (ends_there m) l)) (ended-above m picked x rs (below_ended m r picked (picked_above r n p rs up.0)))
          ∙ ap (λ b. map f (cond b (x ∷ filter (ends_there m) (all_ended v key (ends_at key m picked) rs)) (filter (ends_there m) (all_ended v key (ends_at key m picked) rs)))) (ends_now m r (open_yet n r by.0 sees))
          ∙ ap₂ ◌∷◌ (same_ended m r ∙ sym (same None r)) more

      go : (b : Bool) → is_visible v n r ≡ b → map f (filter (ends_there (n + 1)) (all_ended v key (ends_at key (n + 1) picked) rs)) ≡ map f picked
          → map f (filter (ends_there (n + 1)) (all_ended v key (ends_at key (n + 1) (filter p (map (v.with_end None) (cond b (r ∷ filter (is_visible v n) rs) (filter (is_visible v n) rs))))) (r ∷ rs)))
          ≡ map f (filter p (map (v.with_end None) (cond b (r ∷ filter (is_visible v n) rs) (filter (is_visible v n) rs))))
      go true sees more =
          elim (p (v.with_end None r)) as (λ c. map f (filter (ends_there (n + 1)) (all_ended v key (ends_at key (n + 1) (cond c (v.with_end None r ∷ picked) picked)) (r ∷ rs))) ≡ map f (cond c (v.with_end None r ∷ picked) picked))
          [ true ↦ ends sees more | false ↦ stays more ]
      go false sees more = stays more
