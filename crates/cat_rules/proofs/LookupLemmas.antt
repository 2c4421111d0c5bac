-- Rows with one value stand together where the rows rise by it, and the last of them is the last row up to the value.
use Rattle.std.proofs.Common.{◌≡◌, ◌≢◌, ℕ, zero, suc, ◌+◌, ◌-◌, ◌<◌, ◌≤◌, Bool, true, false, not, cond, List, [], ◌∷◌, Ordering, Less, Equal, Greater, is_lt, is_eq, is_gt, length, get_or, take, drop, refl, sym, ap, subst, ◌∙◌, true≢false, arith, filter}
use Rattle.std.specs.List.{AllByRecursion, prefix_len}
use Rattle.std.specs.Prelude.{slice_get}
use Rattle.std.specs.List.Sorted.{IsPartitionedBy}
use Rattle.std.specs.Ordering.{nat_cmp, ordering_reverse, ordering_then}
use Rattle.std.proofs.lemmas.Cmp.{nat_list_cmp_total}
use Rattle.cat_tables.specs.Table.{IsAscending, IsBelow, RisesByKey, has_key, key_cmp}
use Rattle.cat_tables.proofs.KeyLemmas.{key_eq}
use Rattle.cat_tables.proofs.PlaceLemmas.{less_is}
use Rattle.cat_rows.specs.Keys.{column_key}
use Rattle.cat_rows.specs.declared.schemas.ColumnRow.{ColumnRow}
use Rattle.cat_rules.specs.Lookups.{column_of, last}
use Rattle.cat_rules.proofs.FirstLemmas.{ascends_like}

-- ---- the order of values

pub upward : (a b k : List ℕ) → (key_cmp a b ≢ Greater) → key_cmp a k ≡ Greater → key_cmp b k ≡ Greater
upward a b k le gt = go (key_cmp a b) refl
  where
    under : key_cmp k a ≡ Less
    under = nat_list_cmp_total.antisymm k a ∙ ap ordering_reverse gt

    go : (o : Ordering) → key_cmp a b ≡ o → key_cmp b k ≡ Greater
    go Less e = nat_list_cmp_total.antisymm b k ∙ ap ordering_reverse (nat_list_cmp_total.trans k a b under e)
    go Equal e = subst (λ x. key_cmp x k ≡ Greater) (key_eq a b (ap is_eq e)) gt
    go Greater e = absurd (le e)

-- a value between two equal ones
pub between : (a b k : List ℕ) → (key_cmp a b ≢ Greater) → is_eq (key_cmp a k) ≡ true → is_gt (key_cmp b k) ≡ false → is_eq (key_cmp b k) ≡ true
between a b k le same upto = go (key_cmp a b) refl
  where
    is : a ≡ k
    is = key_eq a k same

    go : (o : Ordering) → key_cmp a b ≡ o → is_eq (key_cmp b k) ≡ true
    go Less e =
        let past : key_cmp b k ≡ Greater = nat_list_cmp_total.antisymm b k ∙ ap ordering_reverse (subst (λ x. key_cmp x b ≡ Less) is e) in
        absurd (true≢false (sym (ap is_gt past) ∙ upto))
    go Equal e = subst (λ x. is_eq (key_cmp x k) ≡ true) (key_eq a b (ap is_eq e)) same
    go Greater e = absurd (le e)

module _ {R : Type 0} (value : R → List ℕ) (k : List ℕ) where
  abbrev pub Rises : List R → Type 0
  Rises = IsAscending (λ a b. key_cmp (value a) (value b) ≢ Greater)

  abbrev pub is_upto : R → Bool
  is_upto r = not (is_gt (key_cmp (value r) k))

  abbrev is : R → Bool
  is r = has_key value k r

  above : (r : R) (rs : List R) → AllByRecursion (λ q. key_cmp (value r) (value q) ≢ Greater) rs → is_upto r ≡ false → filter is (r ∷ rs) ≡ []
  above r rs up high = ap (λ b. cond b (r ∷ filter is rs) (filter is rs)) (not_here (key_cmp (value r) k) refl) ∙ rest rs up
    where
      past : key_cmp (value r) k ≡ Greater
      past = greater (key_cmp (value r) k) high
        where
          greater : (o : Ordering) → not (is_gt o) ≡ false → o ≡ Greater
          greater Less e = absurd (true≢false e)
          greater Equal e = absurd (true≢false e)
          greater Greater e = refl

      not_here : (o : Ordering) → key_cmp (value r) k ≡ o → is_eq o ≡ false
      not_here o e = ap is_eq (sym e ∙ past)

      rest : (qs : List R) → AllByRecursion (λ q. key_cmp (value r) (value q) ≢ Greater) qs → filter is qs ≡ []
      rest [] h = refl
      rest (q ∷ qs) h = ap (λ b. cond b (q ∷ filter is qs) (filter is qs)) (ap is_eq (upward (value r) (value q) k h.0 past)) ∙ rest qs h.1

  -- those up to the value stand in front of the others
  pub parted : (rows : List R) → Rises rows → IsPartitionedBy is_upto rows
  parted [] up i j d le lt h = absurd (omega arith)
  parted (r ∷ rs) up zero zero d le lt h = h
  parted (r ∷ rs) up (suc i) zero d le lt h = absurd (omega arith)
  parted (r ∷ rs) up (suc i) (suc j) d le lt h = parted rs up.1 i j d (omega arith) (omega arith) h
  parted (r ∷ rs) up zero (suc j) d le lt h = go (key_cmp (value r) k) refl
    where
      at : (qs : List R) (j : ℕ) → AllByRecursion (λ q. key_cmp (value r) (value q) ≢ Greater) qs → j < length qs → key_cmp (value r) (value (get_or qs j d)) ≢ Greater
      at [] j all lt = absurd (omega arith)
      at (q ∷ qs) zero all lt = all.0
      at (q ∷ qs) (suc j) all lt = at qs j all.1 (omega arith)

      go : (o : Ordering) → key_cmp (value r) k ≡ o → not (is_gt o) ≡ true
      go Less e = refl
      go Equal e = refl
      go Greater e =
          let q = get_or rs j d in
          let past : key_cmp (value q) k ≡ Greater = upward (value r) (value q) k (at rs j up.0 (omega arith)) e in
          absurd (true≢false (sym h ∙ ap (λ o. not (is_gt o)) past))

-- rows that rise by their keys rise by the first two of three parts
pub columns_rise : (rows : List ColumnRow) → RisesByKey column_key rows → IsAscending (λ a b. key_cmp (column_of a) (column_of b) ≢ Greater) rows
columns_rise = ascends_like (IsBelow column_key) (λ a b. key_cmp (column_of a) (column_of b) ≢ Greater) (λ a b below. fronts (nat_cmp a.table_id b.table_id) (nat_cmp a.column_id b.column_id) (nat_cmp a.begin_snapshot b.begin_snapshot) below)
  where
    fronts : (x y z : Ordering) → ordering_then x (ordering_then y (ordering_then z Equal)) ≡ Less → ordering_then x (ordering_then y Equal) ≢ Greater
    fronts Less y z e f = absurd (cc f)
    fronts Greater y z e f = absurd (cc e)
    fronts Equal Less z e f = absurd (cc f)
    fronts Equal Equal z e f = absurd (cc f)
    fronts Equal Greater z e f = absurd (cc e)

-- ---- the rows of a value, as a part of all rows

module _ {R : Type 0} (value : R → List ℕ) (k : List ℕ) where
  abbrev pub is_below : R → Bool
  is_below r = is_lt (key_cmp (value r) k)

  pub parted_below : (rows : List R) → Rises value k rows → IsPartitionedBy is_below rows
  parted_below [] up i j d le lt h = absurd (omega arith)
  parted_below (r ∷ rs) up zero zero d le lt h = h
  parted_below (r ∷ rs) up (suc i) zero d le lt h = absurd (omega arith)
  parted_below (r ∷ rs) up (suc i) (suc j) d le lt h = parted_below rs up.1 i j d (omega arith) (omega arith) h
  parted_below (r ∷ rs) up zero (suc j) d le lt h = under rs j up.0 (omega arith) h
    where
      lower : (q : R) → key_cmp (value r) (value q) ≢ Greater → is_lt (key_cmp (value q) k) ≡ true → is_lt (key_cmp (value r) k) ≡ true
      lower q le low = go (key_cmp (value r) (value q)) refl
        where
          go : (o : Ordering) → key_cmp (value r) (value q) ≡ o → is_lt (key_cmp (value r) k) ≡ true
          go Less e = ap is_lt (nat_list_cmp_total.trans (value r) (value q) k e (less_is _ low))
          go Equal e = subst (λ x. is_lt (key_cmp x k) ≡ true) (sym (key_eq (value r) (value q) (ap is_eq e))) low
          go Greater e = absurd (le e)

      under : (qs : List R) (j : ℕ) → AllByRecursion (λ q. key_cmp (value r) (value q) ≢ Greater) qs → j < length qs → is_below (get_or qs j d) ≡ true → is_below r ≡ true
      under [] j all lt low = absurd (omega arith)
      under (q ∷ qs) zero all lt low = lower q all.0 low
      under (q ∷ qs) (suc j) all lt low = under qs j all.1 (omega arith) low

  abbrev pub below : List R → ℕ
  below = prefix_len is_below

  abbrev pub upto : List R → ℕ
  upto = prefix_len (is_upto value k)

  -- none is below where the first isn't
  none_below : (r : R) (rs : List R) → AllByRecursion (λ q. key_cmp (value r) (value q) ≢ Greater) rs → is value k r ≡ true → below rs ≡ 0
  none_below r [] up same = refl
  none_below r (q ∷ qs) up same = ap (λ b. cond b (1 + below qs) 0) (go (key_cmp (value q) k) refl)
    where
      go : (o : Ordering) → key_cmp (value q) k ≡ o → is_lt o ≡ false
      go Less e =
          let back : key_cmp (value r) (value q) ≡ Greater =
          nat_list_cmp_total.antisymm (value r) (value q) ∙ ap ordering_reverse (subst (λ x. key_cmp (value q) x ≡ Less) (sym (key_eq (value r) k same)) e) in
          absurd (up.0 back)
      go Equal e = refl
      go Greater e = refl

  -- The rows of the value are those from the first that isn't below it to the last up to it.
  pub part_is : (rows : List R) → Rises value k rows → filter (has_key value k) rows ≡ take (upto rows - below rows) (drop (below rows) rows)
  part_is [] up = refl
  part_is (r ∷ rs) up = go (part_is rs up.1) (key_cmp (value r) k) refl
    where
      behind : (n : ℕ) → drop (1 + n) (r ∷ rs) ≡ drop n rs
      behind n = let e : 1 + n ≡ suc n = omega arith in rw e refl

      some : (n : ℕ) → take ((1 + n) - 0) (r ∷ rs) ≡ r ∷ take n rs
      some n = let e : (1 + n) - 0 ≡ suc n = omega arith in rw e refl

      go : filter (has_key value k) rs ≡ take (upto rs - below rs) (drop (below rs) rs) → (o : Ordering) → key_cmp (value r) k ≡ o
          → cond (is_eq o) (r ∷ filter (has_key value k) rs) (filter (has_key value k) rs)
          ≡ take (cond (not (is_gt o)) (1 + upto rs) 0 - cond (is_lt o) (1 + below rs) 0) (drop (cond (is_lt o) (1 + below rs) 0) (r ∷ rs))
      go rest Less e =
          let same : (1 + upto rs) - (1 + below rs) ≡ upto rs - below rs = omega arith in
          rest ∙ sym (ap (take ((1 + upto rs) - (1 + below rs))) (behind (below rs)) ∙ ap (λ n. take n (drop (below rs) rs)) same)
      go rest Equal e =
          let first : below rs ≡ 0 = none_below r rs up.0 (ap is_eq e) in
          let all : upto rs - below rs ≡ upto rs = omega arith in
          ap (λ xs. r ∷ xs) (rest ∙ ap (λ n. take n (drop (below rs) rs)) all ∙ ap (λ n. take (upto rs) (drop n rs)) first) ∙ sym (some (upto rs))
      go rest Greater e =
          let none : filter (has_key value k) (r ∷ rs) ≡ [] = above value k r rs up.0 (ap (λ o. not (is_gt o)) e) in
          ap (λ b. cond b (r ∷ filter (has_key value k) rs) (filter (has_key value k) rs)) (sym (ap is_eq e)) ∙ none

  pub in_order : (rows : List R) → Rises value k rows → below rows ≤ upto rows
  in_order [] up = omega arith
  in_order (r ∷ rs) up = go (key_cmp (value r) k) (in_order rs up.1)
    where
      go : (o : Ordering) → below rs ≤ upto rs → cond (is_lt o) (1 + below rs) 0 ≤ cond (not (is_gt o)) (1 + upto rs) 0
      go Less h = omega arith
      go Equal h = omega arith
      go Greater h = omega arith

pub last_is : {R : Type 0} (rows : List R) → slice_get rows (length rows - 1) ≡ last rows
last_is [] = refl
last_is (r ∷ []) = refl
last_is (r ∷ q ∷ rs) =
    let here : suc (suc (length rs)) - 1 ≡ suc (length rs) = omega arith in
    let behind : suc (length rs) - 1 ≡ length rs = omega arith in
    ap (slice_get (r ∷ q ∷ rs)) here ∙ sym (ap (slice_get (q ∷ rs)) behind) ∙ last_is (q ∷ rs)
