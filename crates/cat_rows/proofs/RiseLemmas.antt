-- Keys that rise are apart, and a search finds any of them.
use Rattle.std.proofs.Common.{◌≡◌, ℕ, zero, suc, ◌<◌, Bool, true, false, List, [], ◌∷◌, length, get_or, Result, Ok, Err, Less, is_lt, is_eq, is_ok, inl, inr, ◌&&◌, refl, sym, ap, ◌∙◌, arith}
use Rattle.std.specs.List.{AllByRecursion}
use Rattle.std.specs.List.Sorted.{IsBinarySearchResult, IsSearchInRange}
use Rattle.std.specs.Ordering.{ordering_reverse}
use Rattle.std.proofs.lemmas.Bool.{and_parts, cases_Bool}
use Rattle.std.proofs.lemmas.Cmp.{nat_list_cmp_total}
use Rattle.cat_tables.specs.Table.{key_cmp, RisesByKey, LacksKey}
use Rattle.cat_tables.proofs.PlaceLemmas.{less_is, IsNonDecreasingBy-rises, LacksKey-between}
use Rattle.cat_rows.specs.Places.{place}
use Rattle.cat_rows.specs.Steps.{has_place, all_differ, rises}
use Rattle.cat_rows.specs.declared.batch.Key.{Key}

module _ {X : Type 0} (key_in : X → Key) where
  abbrev pub key_place : X → List ℕ
  key_place x = place (key_in x)

  all_past : (k l : List ℕ) (xs : List X) → key_cmp k l ≡ Less → AllByRecursion (λ x. key_cmp l (key_place x) ≡ Less) xs → AllByRecursion (λ x. key_cmp k (key_place x) ≡ Less) xs
  all_past k l [] below h = tt
  all_past k l (x ∷ xs) below h = (nat_list_cmp_total.trans k l (key_place x) below h.0, all_past k l xs below h.1)

  -- where each key is below the next one, it is below all that follow
  pub rises_by_key : (xs : List X) → rises key_in xs ≡ true → RisesByKey key_place xs
  rises_by_key [] h = tt
  rises_by_key (x ∷ []) h = (tt, tt)
  rises_by_key (x ∷ y ∷ xs) h =
      let parts_of = and_parts (is_lt (key_cmp (key_place x) (key_place y))) (rises key_in (y ∷ xs)) h in
      let below = less_is (key_cmp (key_place x) (key_place y)) parts_of.0 in
      let rest = rises_by_key (y ∷ xs) parts_of.1 in
      ((below, all_past (key_place x) (key_place y) xs below rest.0), rest)

  none_same : (k : List ℕ) (xs : List X) → AllByRecursion (λ x. key_cmp k (key_place x) ≡ Less) xs → has_place key_in xs k ≡ false
  none_same k [] h = refl
  none_same k (x ∷ xs) h =
      let past : is_eq (key_cmp (key_place x) k) ≡ false = ap is_eq (nat_list_cmp_total.antisymm (key_place x) k ∙ ap ordering_reverse h.0) in
      rw past (none_same k xs h.1)

  rising_differ : (xs : List X) → RisesByKey key_place xs → all_differ key_in xs ≡ true
  rising_differ [] h = refl
  rising_differ (x ∷ xs) h = rw (none_same (key_place x) xs h.0) (rising_differ xs h.1)

  pub differ_rises : (xs : List X) → rises key_in xs ≡ true → all_differ key_in xs ≡ true
  differ_rises xs h = rising_differ xs (rises_by_key xs h)

  any_at : (k : List ℕ) (xs : List X) (at : ℕ) (d : X) → at < length xs → is_eq (key_cmp (key_place (get_or xs at d)) k) ≡ true → has_place key_in xs k ≡ true
  any_at k [] at d within h = absurd (omega arith)
  any_at k (x ∷ xs) zero d within h = rw h refl
  any_at k (x ∷ xs) (suc at) d within h =
      let rest = any_at k xs at d (omega arith) h in
      elim (cases_Bool (is_eq (key_cmp (key_place x) k))) [
        | inl is ↦ rw is refl
        | inr other ↦ rw other rest
      ]

  none_lacking : (k : List ℕ) (xs : List X) → LacksKey key_place k xs → has_place key_in xs k ≡ false
  none_lacking k [] h = refl
  none_lacking k (x ∷ xs) h = rw h.0 (none_lacking k xs h.1)

  some_item : (xs : List X) (at : ℕ) → at < length xs → X
  some_item [] at within = absurd (omega arith)
  some_item (x ∷ xs) at within = x

  -- what a binary search for a key answers
  pub search_tells : (k : List ℕ) (xs : List X) (r : Result ℕ ℕ) → rises key_in xs ≡ true → IsSearchInRange r (length xs)
      → IsBinarySearchResult (λ x. key_cmp (key_place x) k) xs r → is_ok r ≡ has_place key_in xs k
  search_tells k xs (Ok at) h within found =
      let item = some_item xs at within in
      sym (any_at k xs at item within (ap is_eq (found item)))
  search_tells k xs (Err at) h within missing =
      let up = rises_by_key xs h in
      sym (none_lacking k xs (LacksKey-between key_place k xs at (missing (IsNonDecreasingBy-rises key_place k xs up))))
