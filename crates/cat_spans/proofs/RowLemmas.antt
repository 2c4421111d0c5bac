-- Spans of rows that rise by key: the rows before the i-th are those below it.
use Rattle.std.proofs.Common.{◌≡◌, ℕ, zero, suc, ◌+◌, ◌<◌, ◌≤◌, Bool, true, false, cond, ◌&&◌, List, [], ◌∷◌, map, take, count_by, refl, sym, ap, subst, ◌∙◌, Option, Some, None, Less, is_lt, arith}
use Rattle.std.specs.List.{AllByRecursion, slice_get}
use Rattle.std.specs.Ordering.{ordering_reverse}
use Rattle.std.proofs.lemmas.List.{take-map}
use Rattle.std.proofs.lemmas.Cmp.{nat_list_cmp_total, tied_itself}
use Rattle.cat_tables.specs.Table.{key_cmp, IsBelow, RisesByKey}
use Rattle.cat_spans.specs.Spans.{Extent, covers, is_in, depth_at, IsPast, IsFirstPast, is_under, IsRowPast, IsFirstRowPast}
use Rattle.cat_spans.proofs.CountLemmas.{count, count_by-is}

-- what isn't below is above or the same
not_below : (k l : List ℕ) → key_cmp k l ≡ Less → is_lt (key_cmp l k) ≡ false
not_below k l h = ap is_lt (nat_list_cmp_total.antisymm l k ∙ ap ordering_reverse h)

module _ {R : Type 0} (key : R → List ℕ) where
  none_below : (p : R → Bool) (r : R) (rows : List R) → AllByRecursion (IsBelow key r) rows → count (λ q. is_lt (key_cmp (key q) (key r)) && p q) rows ≡ 0
  none_below p r [] up = refl
  none_below p r (q ∷ qs) up =
      let above : is_lt (key_cmp (key q) (key r)) ≡ false = not_below (key r) (key q) up.0 in
      let rest = none_below p r qs up.1 in
      rw above (omega arith)

  below_at : (x : R) (rows : List R) (i : ℕ) (r : R) → AllByRecursion (IsBelow key x) rows → slice_get rows i ≡ Some r → IsBelow key x r
  below_at x [] i r up at = absurd cc
  below_at x (q ∷ qs) zero r up at = let same : q ≡ r = cc in subst (IsBelow key x) same up.0
  below_at x (q ∷ qs) (suc i) r up at = below_at x qs i r up.1 at

  -- the rows before a row are those below it
  pub count-below : (p : R → Bool) (rows : List R) (i : ℕ) (r : R) → RisesByKey key rows → slice_get rows i ≡ Some r → count p (take i rows) ≡ count (λ q. is_lt (key_cmp (key q) (key r)) && p q) rows
  count-below p [] i r up at = absurd cc
  count-below p (x ∷ xs) zero r up at =
      let same : x ≡ r = cc in
      let itself : is_lt (key_cmp (key x) (key x)) ≡ false = ap is_lt (tied_itself nat_list_cmp_total (key x)) in
      let P : R → Type 0 = λ y. 0 ≡ count (λ q. is_lt (key_cmp (key q) (key y)) && p q) (x ∷ xs) in
      subst P same (let rest = none_below p x xs up.0 in rw itself (omega arith))
  count-below p (x ∷ xs) (suc i) r up at =
      let lower : is_lt (key_cmp (key x) (key r)) ≡ true = ap is_lt (below_at x xs i r up.0 at) in
      let rest = count-below p xs i r up.1 at in
      rw lower (omega arith)

  -- a row below another stands before it
  pub place_below : (rows : List R) (i j : ℕ) (q r : R) → RisesByKey key rows → slice_get rows i ≡ Some r → slice_get rows j ≡ Some q → is_lt (key_cmp (key q) (key r)) ≡ true → j < i
  place_below [] i j q r up here there lower = absurd cc
  place_below (x ∷ xs) zero zero q r up here there lower =
      let P : R → Type 0 = λ y. is_lt (key_cmp (key y) (key r)) ≡ true in
      let same : q ≡ r = cc in
      let less : is_lt (key_cmp (key r) (key r)) ≡ true = subst P same lower in
      let itself : is_lt (key_cmp (key r) (key r)) ≡ false = ap is_lt (tied_itself nat_list_cmp_total (key r)) in
      absurd cc
  place_below (x ∷ xs) zero (suc j) q r up here there lower =
      let P : R → Type 0 = λ y. is_lt (key_cmp (key q) (key y)) ≡ true in
      let same : r ≡ x = cc in
      let less : is_lt (key_cmp (key q) (key x)) ≡ true = subst P same lower in
      let above : is_lt (key_cmp (key q) (key x)) ≡ false = not_below (key x) (key q) (below_at x xs j q up.0 there) in
      absurd cc
  place_below (x ∷ xs) (suc i) zero q r up here there lower = omega arith
  place_below (x ∷ xs) (suc i) (suc j) q r up here there lower = let rest = place_below xs i j q r up.1 here there lower in omega arith

module _ {R : Type 0} (span : R → Extent) where
  depth_at-map : (g : List ℕ) (s : ℕ) (rows : List R) → depth_at g s (map span rows) ≡ count (λ q. is_in g (span q) && covers s (span q)) rows
  depth_at-map g s rows = count_by-is (λ x. is_in g x && covers s x) (map span rows) ∙ go rows
    where
      go : (rows : List R) → count (λ x. is_in g x && covers s x) (map span rows) ≡ count (λ q. is_in g (span q) && covers s (span q)) rows
      go [] = refl
      go (r ∷ rs) = ap (λ n. cond (is_in g (span r) && covers s (span r)) 1 0 + n) (go rs)

  slice_get-map : (rows : List R) (i : ℕ) (r : R) → slice_get rows i ≡ Some r → slice_get (map span rows) i ≡ Some (span r)
  slice_get-map [] i r at = absurd cc
  slice_get-map (q ∷ qs) zero r at = let same : q ≡ r = cc in ap (λ x. Some (span x)) same
  slice_get-map (q ∷ qs) (suc i) r at = slice_get-map qs i r at

  row_at : (rows : List R) (i : ℕ) (x : Extent) → slice_get (map span rows) i ≡ Some x → (r : R) × (slice_get rows i ≡ Some r) × (span r ≡ x)
  row_at [] i x at = absurd cc
  row_at (q ∷ qs) zero x at = (q, refl, cc)
  row_at (q ∷ qs) (suc i) x at = row_at qs i x at

module _ {R : Type 0} (key : R → List ℕ) (span : R → Extent) (limit : ℕ) (rows : List R) (up : RisesByKey key rows) where
  -- as many as lie under a row are before it
  under_is : (i : ℕ) (r : R) (s : ℕ) → slice_get rows i ≡ Some r → count_by (is_under key span r s) rows ≡ depth_at (span r).group s (take i (map span rows))
  under_is i r s at =
      let p = λ (q : R). is_in (span r).group (span q) && covers s (span q) in
      count_by-is (is_under key span r s) rows ∙ sym (count-below key p rows i r up at) ∙ sym (depth_at-map span (span r).group s (take i rows))
      ∙ ap (depth_at (span r).group s) (sym (take-map span i rows))

  past_from_row : (i : ℕ) (r : R) → slice_get rows i ≡ Some r → IsRowPast key span limit rows r → IsPast limit (map span rows) i
  past_from_row i r at past =
      let P : ℕ → Type 0 = λ n. limit ≤ n in
      record { span = span r; number = past.0; here = slice_get-map span rows i r at; covered = past.1; earlier = subst P (under_is i r past.0 at) past.2 }

  row_from_past : (i : ℕ) → IsPast limit (map span rows) i → (r : R) × (slice_get rows i ≡ Some r) × IsRowPast key span limit rows r
  row_from_past i past =
      let found = row_at span rows i past.span past.here in
      let r = found.0 in
      let P : Extent → Type 0 = λ x. (covers past.number x ≡ true) × (limit ≤ depth_at x.group past.number (take i (map span rows))) in
      let both : P (span r) = subst P (sym found.2) (past.covered, past.earlier) in
      let Q : ℕ → Type 0 = λ n. limit ≤ n in
      (r, found.1, (past.number, both.0, subst Q (sym (under_is i r past.number found.1)) both.1))

  pub first_row_past : (found : Option ℕ) → IsFirstPast limit (map span rows) found → IsFirstRowPast key span limit rows found
  first_row_past None none = λ i r at past. none i (past_from_row i r at past)
  first_row_past (Some i) first =
      let row = row_from_past i first.0 in
      (row.0, row.1, row.2, λ j q at past lower. first.1 j (place_below key rows i j q row.0 up row.1 at lower) (past_from_row j q at past))
