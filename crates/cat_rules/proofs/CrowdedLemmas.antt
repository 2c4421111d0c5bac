-- From the place of the first row that is one too many to the key that it names.
use Rattle.std.proofs.Common.{◌≡◌, ℕ, zero, suc, ◌<◌, inl, inr, true, List, [], ◌∷◌, length, get_or, map, Option, Some, None, refl, sym, ap, subst, arith}
use Rattle.std.proofs.lemmas.List.{length-map}
use Rattle.std.specs.List.{slice_get}
use Rattle.std.specs.Option.{option_map}
use Rattle.cat_tables.specs.Table.{IsAscending}
use Rattle.cat_tables.proofs.PlaceLemmas.{less_is}
use Rattle.cat_rows.specs.declared.batch.Key.{Key}
use Rattle.cat_rules.specs.First.{FirstBad}
use Rattle.cat_rows.specs.Places.{place}
use Rattle.cat_rules.specs.Places.{is_sooner}
use Rattle.cat_rules.specs.Rows.{SomeOf, Names}
use Rattle.cat_rules.proofs.FirstLemmas.{ascends_like}
use Rattle.cat_spans.specs.Spans.{Extent, HasGap, IsFirstGap, IsFirstPast, IsFirstRowPast}
use Rattle.cat_spans.proofs.RowLemmas.{first_row_past, place_below}
use Rattle.cat_rules.specs.Crowded.{IsBare, IsCrowded, name_at}

-- one of some stands at some place
pub some_place : {X : Type 0} (P : X → Type 0) (xs : List X) → SomeOf P xs → (i : ℕ) × (x : X) × (slice_get xs i ≡ Some x) × P x
some_place P [] h = absurd h
some_place P (x ∷ xs) (inl p) = (0, x, refl, p)
some_place P (x ∷ xs) (inr more) = let rest = some_place P xs more in (suc rest.0, rest.1, rest.2, rest.3)

pub some_at : {X : Type 0} (P : X → Type 0) (xs : List X) (i : ℕ) (x : X) → slice_get xs i ≡ Some x → P x → SomeOf P xs
some_at P [] i x at p = absurd cc
some_at P (y ∷ ys) zero x at p = let same : x ≡ y = cc in inl (subst P same p)
some_at P (y ∷ ys) (suc i) x at p = inr (some_at P ys i x at p)

module _ {R : Type 0} (name : R → Key) (extent : R → Extent) (limit : ℕ) (rows : List R) (up : IsAscending (λ a b. is_sooner (name a) (name b) ≡ true) rows) where
  first_row_named : (found : Option ℕ) → IsFirstRowPast (λ q. place (name q)) extent limit rows found → FirstBad (Names name (IsCrowded name extent limit rows) rows) (name_at name rows found)
  first_row_named None none = λ k bad. let at = some_place _ rows bad in none at.0 at.1 at.2 at.3.0
  first_row_named (Some i) first =
      let Bad : Key → Type 0 = Names name (IsCrowded name extent limit rows) rows in
      let r = first.0 in
      let sooner : (j : Key) → Bad j → is_sooner j (name r) ≡ true → ⊥ =
      λ j bad s. (let at = some_place _ rows bad in let P : Key → Type 0 = λ k. is_sooner k (name r) ≡ true in first.3 at.0 at.1 at.2 at.3.0 (subst P (sym at.3.1) s)) in
      let P : Option Key → Type 0 = FirstBad Bad in
      subst P (sym (ap (option_map name) first.1)) (some_at (λ q. IsCrowded name extent limit rows q × (name q ≡ name r)) rows i r first.1 (first.2, refl), sooner)

  pub first_named : (found : Option ℕ) → IsFirstPast limit (map extent rows) found → FirstBad (Names name (IsCrowded name extent limit rows) rows) (name_at name rows found)
  first_named found h = first_row_named found (first_row_past (λ q. place (name q)) extent limit rows (ascends_like _ _ (λ a b. less_is _) rows up) found h)

-- ---- rows with a gap

place_is : {X : Type 0} (xs : List X) (i : ℕ) → i < length xs → (x : X) × (slice_get xs i ≡ Some x)
place_is [] i lt = absurd (omega arith)
place_is (x ∷ xs) zero lt = (x, refl)
place_is (x ∷ xs) (suc i) lt = place_is xs i (omega arith)

mapped_at : {X Y : Type 0} (f : X → Y) (xs : List X) (i : ℕ) (x : X) (d : Y) → slice_get xs i ≡ Some x → (get_or (map f xs) i d ≡ f x) × (i < length (map f xs))
mapped_at f [] i x d at = absurd cc
mapped_at f (y ∷ ys) zero x d at = let same : y ≡ x = cc in (ap f same, omega arith)
mapped_at f (y ∷ ys) (suc i) x d at = let rest = mapped_at f ys i x d at in (rest.0, omega (arith, rest.1))

module _ {R S : Type 0} (name : R → Key) (extent : R → Extent) (other_extent : S → Extent) (others : List S) (rows : List R) (up : IsAscending (λ a b. is_sooner (name a) (name b) ≡ true) rows) where
  gap_at : (i : ℕ) (r : R) → slice_get rows i ≡ Some r → ((d : Extent) → HasGap (map other_extent others) (get_or (map extent rows) i d)) → IsBare extent other_extent others r
  gap_at i r at holds = let P : Extent → Type 0 = HasGap (map other_extent others) in subst P (mapped_at extent rows i r (extent r) at).0 (holds (extent r))

  no_gap_at : (i : ℕ) (r : R) → slice_get rows i ≡ Some r → ((d : Extent) → HasGap (map other_extent others) (get_or (map extent rows) i d) → ⊥) → IsBare extent other_extent others r → ⊥
  no_gap_at i r at none bare = let P : Extent → Type 0 = HasGap (map other_extent others) in none (extent r) (subst P (sym (mapped_at extent rows i r (extent r) at).0) bare)

  pub first_bare_named : (found : Option ℕ) → IsFirstGap (map other_extent others) (map extent rows) found → FirstBad (Names name (IsBare extent other_extent others) rows) (name_at name rows found)
  first_bare_named None none = λ k bad. (let at = some_place _ rows bad in no_gap_at at.0 at.1 at.2 (λ d. none at.0 d (mapped_at extent rows at.0 at.1 (extent at.1) at.2).1) at.3.0)
  first_bare_named (Some i) first =
      let row = place_is rows i (omega (arith, first.0, length-map rows extent)) in
      let r = row.0 in
      let rises = ascends_like _ _ (λ a b. less_is _) rows up in
      let Named : Key → Type 0 = Names name (IsBare extent other_extent others) rows in
      let sooner : (j : Key) → Named j → is_sooner j (name r) ≡ true → ⊥ =
      λ j bad s. (let at = some_place _ rows bad in let P : Key → Type 0 = λ k. is_sooner k (name r) ≡ true in
      let before = place_below (λ q. place (name q)) rows i at.0 at.1 r rises row.1 at.2 (subst P (sym at.3.1) s) in
      no_gap_at at.0 at.1 at.2 (λ d. first.2 at.0 d (omega arith) before) at.3.0) in
      let P : Option Key → Type 0 = FirstBad Named in
      subst P (sym (ap (option_map name) row.1)) (some_at (λ q. IsBare extent other_extent others q × (name q ≡ name r)) rows i r row.1 (gap_at i r row.1 first.1, refl), sooner)
