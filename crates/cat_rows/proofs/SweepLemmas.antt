-- One pass that leaves the rows of some keys out takes away the rows of each of them.
use Rattle.std.proofs.Common.{◌≡◌, ℕ, ◌&&◌, ◌||◌, Bool, true, false, cond, not, List, [], ◌∷◌, filter, refl, sym, ap, ap₂, ◌∙◌, Option, Some, None, is_some, is_eq}
use Rattle.std.specs.List.{cons_option, filter_map}
use Rattle.std.specs.Option.{option_map_or}
use Rattle.cat_tables.specs.Table.{all_removed, has_key, key_cmp, without}
use Rattle.cat_rows.specs.Places.{place}
use Rattle.cat_rows.specs.Steps.{any_picked, has_place}
use Rattle.cat_rows.specs.Sweeping.{PlacesAgree}
use Rattle.cat_rows.specs.declared.batch.Key.{Key}

filter-true : {X : Type 0} (p : X → Bool) (xs : List X) → ((x : X) → p x ≡ true) → filter p xs ≡ xs
filter-true p [] h = refl
filter-true p (x ∷ xs) h = ap (λ b. cond b (x ∷ filter p xs) (filter p xs)) (h x) ∙ ap (λ l. x ∷ l) (filter-true p xs h)

filter-alike : {X : Type 0} (p q : X → Bool) (xs : List X) → ((x : X) → p x ≡ q x) → filter p xs ≡ filter q xs
filter-alike p q [] h = refl
filter-alike p q (x ∷ xs) h = ap₂ (λ b l. cond b (x ∷ l) l) (h x) (filter-alike p q xs h)

filter-filter : {X : Type 0} (p q : X → Bool) (xs : List X) → filter p (filter q xs) ≡ filter (λ x. q x && p x) xs
filter-filter p q [] = refl
filter-filter {X} p q (x ∷ xs) = go (q x) (filter-filter p q xs)
  where
    go : (b : Bool) → filter p (filter q xs) ≡ filter (λ y. q y && p y) xs → filter p (cond b (x ∷ filter q xs) (filter q xs)) ≡ cond (b && p x) (x ∷ filter (λ y. q y && p y) xs) (filter (λ y. q y && p y) xs)
    go true more = ap (λ l. cond (p x) (x ∷ l) l) more
    go false more = more

neither : (a b : Bool) → not (a || b) ≡ (not a && not b)
neither true b = refl
neither false b = refl

module _ {R : Type 0} (key : R → List ℕ) (place_of : R → List ℕ) (parts : Key → Option (List ℕ)) (agree : PlacesAgree key place_of parts) where
  -- the row is at none of the places of these keys
  abbrev stays : List Key → R → Bool
  stays keys r = not (has_place (λ k. k) keys (place_of r))

  pub swept : (keys : List Key) (rows : List R) → filter (stays keys) rows ≡ all_removed key (filter_map parts keys) rows
  swept [] rows = filter-true (stays []) rows (λ r. refl)
  swept (k ∷ keys) rows = go (parts k) (λ r. agree r k) (swept keys)
    where
      go : (o : Option (List ℕ)) → ((r : R) → is_eq (key_cmp (place k) (place_of r)) ≡ option_map_or (λ p. has_key key p r) o false)
          → ((rs : List R) → filter (stays keys) rs ≡ all_removed key (filter_map parts keys) rs)
          → filter (stays (k ∷ keys)) rows ≡ all_removed key (cons_option o (filter_map parts keys)) rows
      go None is more = filter-alike (stays (k ∷ keys)) (stays keys) rows (λ r. ap (λ b. not (b || has_place (λ l. l) keys (place_of r))) (is r)) ∙ more rows
      go (Some p) is more =
          filter-alike (stays (k ∷ keys)) (λ r. not (has_key key p r) && stays keys r) rows
          (λ r. ap (λ b. not (b || has_place (λ l. l) keys (place_of r))) (is r) ∙ neither (has_key key p r) (has_place (λ l. l) keys (place_of r)))
          ∙ sym (filter-filter (stays keys) (λ r. not (has_key key p r)) rows) ∙ more (without key p rows)

-- where no key is picked nothing is taken away
pub none_picked : (parts : Key → Option (List ℕ)) (keys : List Key) → any_picked parts keys ≡ false → filter_map parts keys ≡ []
none_picked parts [] h = refl
none_picked parts (k ∷ keys) h = go (parts k) h (none_picked parts keys)
  where
    go : (o : Option (List ℕ)) → (is_some o || any_picked parts keys) ≡ false → (any_picked parts keys ≡ false → filter_map parts keys ≡ []) → cons_option o (filter_map parts keys) ≡ []
    go None e more = more e
    go (Some p) e more = absurd (let no : true ≡ false = e in cc)
