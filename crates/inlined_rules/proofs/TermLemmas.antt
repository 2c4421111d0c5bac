-- Of terms that rise, and of which those of one column are apart, the last that begins before an end tells whether one is
-- met.
use Rattle.std.proofs.Common.{◌≡◌, ◌⊎◌, inl, inr, ⊎_elim, ℕ, suc, ◌+◌, ◌<◌, ◌≤◌, ◌&&◌, ◌||◌, ◌==◌, Bool, true, false, cond, List, [], ◌∷◌, Option, Some, None, Ordering, Less, Equal, Greater, is_lt, filter, take, refl, sym, ap, ◌∙◌, true≢false, arith}
use Rattle.std.specs.List.{AllByRecursion, list_any, prefix_len}
use Rattle.std.specs.Ordering.{nat_cmp, ordering_then}
use Rattle.std.specs.Prelude.{nat_lt}
use Rattle.std.proofs.lemmas.Bool.Decides.{nat_tests}
use Rattle.std.proofs.lemmas.Cmp.{nat_list_cmp_total}
use Rattle.cat_tables.specs.Table.{IsAscending, IsBelow, RisesByKey, key_cmp}
use Rattle.cat_tables.specs.Validity.{is_before}
use Rattle.cat_tables.proofs.PlaceLemmas.{less_is}
use Rattle.cat_rules.specs.Lookups.{last}
use Rattle.inlined_rules.specs.Terms.{are_met, is_below, is_of_column, lasts, limit_of, term_key}
use Rattle.cat_tables.specs.declared.interval.Interval.{Interval}
use Rattle.inlined_rules.specs.declared.terms.Term.{Term}
use Rattle.std.proofs.lemmas.Bool.{and_parts}

-- ---- keys of three numbers

less_from : (a b : ℕ) → nat_cmp a b ≡ Less → a < b
less_from a b h = grind (arith, nat_tests)

equal_from : (a b : ℕ) → nat_cmp a b ≡ Equal → a ≡ b
equal_from a b h = grind (arith, nat_tests)

-- one list of three is below another
abbrev pub IsLower : (a b c x y z : ℕ) → Type 0
IsLower a b c x y z = (a < x) ⊎ ((a ≡ x) × ((b < y) ⊎ ((b ≡ y) × (c < z))))

pub lower_from : (a b c x y z : ℕ) → key_cmp (a ∷ b ∷ c ∷ []) (x ∷ y ∷ z ∷ []) ≡ Less → IsLower a b c x y z
lower_from a b c x y z = go (nat_cmp a x) refl (nat_cmp b y) refl (nat_cmp c z) refl
  where
    go : (o : Ordering) → nat_cmp a x ≡ o → (p : Ordering) → nat_cmp b y ≡ p → (q : Ordering) → nat_cmp c z ≡ q
        → ordering_then o (ordering_then p (ordering_then q Equal)) ≡ Less → IsLower a b c x y z
    go Less e p f q g h = inl (less_from a x e)
    go Greater e p f q g h = absurd cc
    go Equal e Less f q g h = inr (equal_from a x e, inl (less_from b y f))
    go Equal e Greater f q g h = absurd cc
    go Equal e Equal f Less g h = inr (equal_from a x e, inr (equal_from b y f, less_from c z g))
    go Equal e Equal f Equal g h = absurd cc
    go Equal e Equal f Greater g h = absurd cc

equal_itself : (a : ℕ) → nat_cmp a a ≡ Equal
equal_itself a = grind (arith, nat_tests)

less_next : (a : ℕ) → nat_cmp a (a + 1) ≡ Less
less_next a = grind (arith, nat_tests)

lt_is : (a b : ℕ) → is_lt (ordering_then (nat_cmp a b) Equal) ≡ nat_lt a b
lt_is a b = go (nat_lt a b) refl
  where
    go : (t : Bool) → nat_lt a b ≡ t → is_lt (ordering_then (nat_cmp a b) Equal) ≡ t
    go true e = grind (arith, nat_tests)
    go false e = grind (arith, nat_tests)

-- ---- the terms below a key, of terms that rise

module _ (limit : List ℕ) where
  none_below : (x : Term) (xs : List Term) → AllByRecursion (IsBelow term_key x) xs → is_below limit x ≡ false → filter (is_below limit) xs ≡ []
  none_below x [] up high = refl
  none_below x (y ∷ ys) up high = ap (λ b. cond b (y ∷ filter (is_below limit) ys) (filter (is_below limit) ys)) (go (is_below limit y) refl) ∙ none_below x ys up.1 high
    where
      go : (b : Bool) → is_below limit y ≡ b → is_below limit y ≡ false
      go true e =
          let low : key_cmp (term_key x) limit ≡ Less = nat_list_cmp_total.trans (term_key x) (term_key y) limit up.0 (less_is _ e) in
          absurd (true≢false (sym (ap is_lt low) ∙ high))
      go false e = e

  pub first_are : (xs : List Term) → RisesByKey term_key xs → take (prefix_len (is_below limit) xs) xs ≡ filter (is_below limit) xs
  first_are [] up = refl
  first_are (x ∷ xs) up = go (is_below limit x) refl (first_are xs up.1)
    where
      go : (b : Bool) → is_below limit x ≡ b → take (prefix_len (is_below limit) xs) xs ≡ filter (is_below limit) xs
          → take (cond b (1 + prefix_len (is_below limit) xs) 0) (x ∷ xs) ≡ cond b (x ∷ filter (is_below limit) xs) (filter (is_below limit) xs)
      go true e more = let n : 1 + prefix_len (is_below limit) xs ≡ suc (prefix_len (is_below limit) xs) = omega arith in rw n (ap (λ l. x ∷ l) more)
      go false e more = sym (none_below x xs up.0 e)

-- ---- the last one

-- an end that is at a number or before it
abbrev pub IsOver : Option ℕ → ℕ → Type 0
IsOver None n = ⊥
IsOver (Some e) n = e ≤ n

-- The first has ended where the second begins if they are of one column; and the second begins before it ends.
abbrev pub Precedes : Term → Term → Type 0
Precedes x y =
    IsBelow term_key x y × ((x.table_id ≡ y.table_id) → (x.column_id ≡ y.column_id) → IsOver x.end y.begin) × (is_before y.begin y.end ≡ true)

-- a term and a stay meet
abbrev pub meets : Interval → Term → Bool
meets stay x = is_before x.begin stay.end && is_before stay.begin x.end

longer : (b n : ℕ) (e f : Option ℕ) → is_before b e ≡ true → IsOver e n → is_before n f ≡ true → is_before b f ≡ true
longer b n None f h over later = absurd over
longer b n (Some e) None h over later = refl
longer b n (Some e) (Some f) h over later = grind (arith, nat_tests)

module _ (table column : ℕ) where
  pub of_parts : (x : Term) → is_of_column table column x ≡ true → (x.table_id ≡ table) × (x.column_id ≡ column)
  of_parts x h = let both = and_parts (x.table_id == table) (x.column_id == column) h in (grind (arith, nat_tests, both.0), grind (arith, nat_tests, both.1))

  pub of_from : (x : Term) → x.table_id ≡ table → x.column_id ≡ column → is_of_column table column x ≡ true
  of_from x e f = grind (arith, nat_tests)

  -- a term of the column is below the limit exactly where it begins before the end
  below_is : (end : Option ℕ) (x : Term) → is_of_column table column x ≡ true → is_below (limit_of table column end) x ≡ is_before x.begin end
  below_is None x h =
      let of = of_parts x h in
      let first : nat_cmp x.table_id table ≡ Equal = rw of.0 (equal_itself table) in
      let second : nat_cmp x.column_id (column + 1) ≡ Less = rw of.1 (less_next column) in
      ap (λ o. is_lt (ordering_then o (ordering_then (nat_cmp x.column_id (column + 1)) (ordering_then (nat_cmp x.begin 0) Equal)))) first
      ∙ ap (λ o. is_lt (ordering_then o (ordering_then (nat_cmp x.begin 0) Equal))) second
  below_is (Some end) x h =
      let of = of_parts x h in
      let first : nat_cmp x.table_id table ≡ Equal = rw of.0 (equal_itself table) in
      let second : nat_cmp x.column_id column ≡ Equal = rw of.1 (equal_itself column) in
      ap (λ o. is_lt (ordering_then o (ordering_then (nat_cmp x.column_id column) (ordering_then (nat_cmp x.begin end) Equal)))) first
      ∙ ap (λ o. is_lt (ordering_then o (ordering_then (nat_cmp x.begin end) Equal))) second
      ∙ lt_is x.begin end

  -- what is between a term of the column and the limit is of the column
  between : (end : Option ℕ) (x y : Term) → is_of_column table column x ≡ true → IsBelow term_key x y → is_below (limit_of table column end) y ≡ true → is_of_column table column y ≡ true
  between end x y h up low = go end low
    where
      from : IsLower x.table_id x.column_id x.begin y.table_id y.column_id y.begin
      from = lower_from _ _ _ _ _ _ up

      of : (x.table_id ≡ table) × (x.column_id ≡ column)
      of = of_parts x h

      within : (n m : ℕ) → IsLower y.table_id y.column_id y.begin table n m → (n ≡ column) ⊎ ((n ≡ column + 1) × (m ≡ 0)) → is_of_column table column y ≡ true
      within n m upto is =
          of_from y
          (⊎_elim (λ a. ⊎_elim (λ b. absurd (omega (arith, a, b, of.0))) (λ b. b.0) upto) (λ a. sym a.0 ∙ of.0) from)
          (⊎_elim (λ a. ⊎_elim (λ b. absurd (omega (arith, a, b, of.0))) (λ b. absurd (omega (arith, a, b.0, of.0))) upto)
          (λ a. ⊎_elim (λ b. absurd (omega (arith, a.0, b, of.0)))
          (λ b. ⊎_elim
          (λ i. ⊎_elim (λ p. ⊎_elim (λ q. absurd (omega (arith, p, q, i, of.1))) (λ q. omega (arith, q.0, i)) b.1) (λ p. sym p.0 ∙ of.1) a.1)
          (λ i. ⊎_elim (λ p. ⊎_elim (λ q. absurd (omega (arith, p, q, i.0, of.1))) (λ q. absurd (omega (arith, q.1, i.1))) b.1) (λ p. sym p.0 ∙ of.1) a.1)
          is)
          upto) from)

      go : (e : Option ℕ) → is_below (limit_of table column e) y ≡ true → is_of_column table column y ≡ true
      go None l = within (column + 1) 0 (lower_from _ _ _ _ _ _ (less_is _ l)) (inr (refl, refl))
      go (Some n) l = within column n (lower_from _ _ _ _ _ _ (less_is _ l)) (inl refl)

  module _ (stay : Interval) where
    abbrev limit : List ℕ
    limit = limit_of table column stay.end

    abbrev is_met : Term → Bool
    is_met x = is_of_column table column x && meets stay x

    abbrev found : List Term → Bool
    found xs = lasts table column stay.begin (last xs)

    -- the last of terms that a term of the column precedes lasts where that one does
    lasts_on : (x : Term) (y : Term) (ys : List Term) → is_of_column table column x ≡ true → is_before stay.begin x.end ≡ true
        → AllByRecursion (Precedes x) (y ∷ ys) → AllByRecursion (λ z. is_below limit z ≡ true) (y ∷ ys) → found (y ∷ ys) ≡ true
    lasts_on x y [] of past up low =
        let same : is_of_column table column y ≡ true = between stay.end x y of up.0.0 low.0 in
        let one = of_parts x of in
        let two = of_parts y same in
        let over : IsOver x.end y.begin = up.0.1 (one.0 ∙ sym two.0) (one.1 ∙ sym two.1) in
        let more : is_before stay.begin y.end ≡ true = longer stay.begin y.begin x.end y.end past over up.0.2 in
        rw same more
    lasts_on x y (z ∷ zs) of past up low = lasts_on x z zs of past up.1 low.1

    all_found : {X : Type 0} (P : X → Type 0) (p : X → Bool) (xs : List X) → AllByRecursion P xs → AllByRecursion P (filter p xs)
    all_found P p [] all = tt
    all_found P p (x ∷ xs) all = elim (p x) as (λ b. AllByRecursion P (cond b (x ∷ filter p xs) (filter p xs))) [ true ↦ (all.0, all_found P p xs all.1) | false ↦ all_found P p xs all.1 ]

    all_pass : {X : Type 0} (p : X → Bool) (xs : List X) → AllByRecursion (λ x. p x ≡ true) (filter p xs)
    all_pass p [] = tt
    all_pass p (x ∷ xs) = go (p x) refl (all_pass p xs)
      where
        go : (b : Bool) → p x ≡ b → AllByRecursion (λ x. p x ≡ true) (filter p xs) → AllByRecursion (λ x. p x ≡ true) (cond b (x ∷ filter p xs) (filter p xs))
        go true e more = (e, more)
        go false e more = more

    -- a term that isn't below the limit isn't met
    not_met : (x : Term) → is_below limit x ≡ false → is_met x ≡ false
    not_met x high = go (is_of_column table column x) refl
      where
        go : (b : Bool) → is_of_column table column x ≡ b → (b && meets stay x) ≡ false
        go true e = let late : is_before x.begin stay.end ≡ false = sym (below_is stay.end x e) ∙ high in rw late refl
        go false e = refl

    -- one that is below it is met where it is of the column and lasts
    met_is : (x : Term) → is_below limit x ≡ true → is_met x ≡ lasts table column stay.begin (Some x)
    met_is x low = go (is_of_column table column x) refl
      where
        go : (b : Bool) → is_of_column table column x ≡ b → (b && meets stay x) ≡ (b && is_before stay.begin x.end)
        go true e = let soon : is_before x.begin stay.end ≡ true = sym (below_is stay.end x e) ∙ low in rw soon refl
        go false e = refl

    or_false : (b : Bool) → (b || false) ≡ b
    or_false true = refl
    or_false false = refl

    -- what is true already
    or_rest : (a b : Bool) → (a ≡ true → b ≡ true) → (a || b) ≡ b
    or_rest true b h = sym (h refl)
    or_rest false b h = refl

    last_tells : (xs : List Term) → IsAscending Precedes xs → found (filter (is_below limit) xs) ≡ list_any is_met xs
    last_tells [] up = refl
    last_tells (x ∷ xs) up = go (is_below limit x) refl (last_tells xs up.1)
      where
        behind : is_below limit x ≡ true → (ys : List Term) → AllByRecursion (Precedes x) ys → AllByRecursion (λ z. is_below limit z ≡ true) ys
            → found ys ≡ list_any is_met xs → found (x ∷ ys) ≡ (is_met x || list_any is_met xs)
        behind low [] pre below same = sym (met_is x low) ∙ sym (or_false (is_met x)) ∙ ap (λ b. is_met x || b) same
        behind low (y ∷ ys) pre below same =
            same
            ∙ sym (or_rest (is_met x) (list_any is_met xs)
            (λ m.
            let parts = and_parts (is_of_column table column x) (meets stay x) m in
            let past = and_parts (is_before x.begin stay.end) (is_before stay.begin x.end) parts.1 in
            sym same ∙ lasts_on x y ys parts.0 past.1 pre below))

        go : (b : Bool) → is_below limit x ≡ b → found (filter (is_below limit) xs) ≡ list_any is_met xs
            → found (cond b (x ∷ filter (is_below limit) xs) (filter (is_below limit) xs)) ≡ (is_met x || list_any is_met xs)
        go true e same = behind e (filter (is_below limit) xs) (all_found (Precedes x) (is_below limit) xs up.0) (all_pass (is_below limit) xs) same
        go false e same = same ∙ sym (ap (λ b. b || list_any is_met xs) (not_met x e))

  pub are_met_is : (stay : Interval) (xs : List Term) → IsAscending Precedes xs → are_met table column stay xs ≡ list_any (λ x. is_of_column table column x && meets stay x) xs
  are_met_is stay xs up = last_tells stay xs up
