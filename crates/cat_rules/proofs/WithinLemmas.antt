-- Rows of one group that lie over one number are rows of one table that a kept snapshot sees with it.
use Rattle.std.proofs.Common.{◌≡◌, ℕ, ◌+◌, ◌<◌, ◌≤◌, Bool, true, false, cond, ◌&&◌, ◌==◌, List, [], ◌∷◌, count_by, refl, sym, ap, ap₂, subst, ◌∙◌, Option, Some, None, Result, is_lt, is_eq, nat_le, nat_lt, max, arith}
use Rattle.cat_tables.specs.Interval.{has, interval_of}
use Rattle.cat_tables.specs.declared.interval.Interval.{Interval}
use Rattle.cat_rules.specs.Sight.{SeesWith}
use Rattle.cat_rules.specs.Lookups.{HasRow, table_of}
use Rattle.std.specs.Prelude.{filter, map}
use Rattle.cat_tables.proofs.IntervalLemmas.{before_both, both_before}
use Rattle.std.proofs.lemmas.Bool.{and_parts, and_from}
use Rattle.std.specs.List.{AllByRecursion}
use Rattle.std.specs.Result.{IfOk}
use Rattle.std.proofs.lemmas.Bool.Decides.{nat_tests, Decides-eqb}
use Rattle.std.proofs.lemmas.Cmp.{nat_list_cmp_total, tied_itself}
use Rattle.std.proofs.lemmas.Result.{IfOk-weaker}
use Rattle.cat_tables.specs.Table.{RisesByKey, key_cmp}
use Rattle.cat_tables.specs.Validity.{Validity, is_visible, visible_at}
use Rattle.cat_tables.proofs.KeyLemmas.{key_eq}
use Rattle.cat_rows.specs.Keys.{snapshot_key, table_key}
use Rattle.cat_rows.specs.Tables.{Tables}
use Rattle.cat_rows.specs.Validities.{table_validity}
use Rattle.cat_rows.specs.declared.batch.Key.{Key}
use Rattle.cat_rows.specs.declared.schemas.TableRow.{TableRow}
use Rattle.cat_rules.specs.First.{FirstBad, Holds}
use Rattle.cat_rules.specs.HistoryRule.{IsMissing}
use Rattle.cat_rules.specs.Kept.{kept_of, AtSome}
use Rattle.cat_rows.specs.Places.{place}
use Rattle.cat_rules.specs.Rows.{Names}
use Rattle.cat_rules.proofs.DatedLemmas.{AreDated, found_dated}
use Rattle.cat_rules.proofs.FirstLemmas.{first_like, SomeOf_like, some_in}
use Rattle.cat_rules.proofs.SightLemmas.{IsDated, at_kept, from_kept, clip, clip_kept, clip_sees, in_range}
use Rattle.cat_spans.specs.Spans.{Extent, covers, is_in, is_under}
use Rattle.cat_spans.proofs.CountLemmas.{count, count_by-is}
use Rattle.cat_rules.specs.Crowded.{IsCrowded, extent_with, extent_within}

-- ---- counts by two tests

count-le : {X : Type 0} (D : X → Type 0) (p q : X → Bool) (xs : List X) → AllByRecursion D xs → ((x : X) → D x → p x ≡ true → q x ≡ true) → count p xs ≤ count q xs
count-le D p q [] all f = omega arith
count-le D p q (x ∷ xs) all f = at (p x) (q x) (f x all.0) (count-le D p q xs all.1 f)
  where
    at : (a b : Bool) → (a ≡ true → b ≡ true) → count p xs ≤ count q xs → cond a 1 0 + count p xs ≤ cond b 1 0 + count q xs
    at true true g le = omega arith
    at true false g le = absurd (let e : false ≡ true = g refl in cc)
    at false true g le = omega arith
    at false false g le = omega arith

pub count_by-le : {X : Type 0} (D : X → Type 0) (p q : X → Bool) (xs : List X) → AllByRecursion D xs → ((x : X) → D x → p x ≡ true → q x ≡ true) → count_by p xs ≤ count_by q xs
count_by-le D p q xs all f = let a = count_by-is p xs in let b = count_by-is q xs in let le = count-le D p q xs all f in omega arith

-- ---- what a row covers with its table

begins_both : (a b c s : ℕ) → nat_le (max a (max b c)) s ≡ true → (nat_le b s ≡ true) × (nat_le c s ≡ true)
begins_both a b c s h = (grind (arith, nat_tests), grind (arith, nat_tests))

both_begin : (a b c s : ℕ) → a ≤ s → nat_le b s ≡ true → nat_le c s ≡ true → nat_le (max a (max b c)) s ≡ true
both_begin a b c s le h k = grind (arith, nat_tests)

never : (s : ℕ) → nat_lt s 0 ≡ true → ⊥
never s h = let lt : s < 0 = grind (arith, nat_tests) in omega arith

covers_within : (first s : ℕ) (g : List ℕ) (i : Interval) (o : Option TableRow) → covers s (extent_within first g i o) ≡ true → (has s i ≡ true) × HasRow o (λ r. is_visible table_validity s r ≡ true)
covers_within first s g i None h = absurd (never s (and_parts _ _ h).1)
covers_within first s g i (Some r) h =
    let both = and_parts _ _ h in
    let begins = begins_both first i.begin r.begin_snapshot s both.0 in
    let ends = before_both s i.end r.end_snapshot both.1 in
    (and_from _ _ begins.0 ends.0, and_from _ _ begins.1 ends.1)

within_covers : (first s : ℕ) (g : List ℕ) (i : Interval) (o : Option TableRow) → first ≤ s → has s i ≡ true → HasRow o (λ r. is_visible table_validity s r ≡ true) → covers s (extent_within first g i o) ≡ true
within_covers first s g i None low sees has = absurd has
within_covers first s g i (Some r) low sees has =
    let a = and_parts _ _ sees in
    let b = and_parts _ _ has in
    and_from _ _ (both_begin first i.begin r.begin_snapshot s low a.0 b.0) (both_before s i.end r.end_snapshot a.1 b.1)

extent_group : (first : ℕ) (g : List ℕ) (i : Interval) (o : Option TableRow) → (extent_within first g i o).group ≡ g
extent_group first g i None = refl
extent_group first g i (Some r) = refl

pub same_is : (a b : ℕ) → a ≡ b → (a == b) ≡ true
same_is a b e = (Decides-eqb a b).1 e

pub is_same : (a b : ℕ) → (a == b) ≡ true → a ≡ b
is_same a b h = (Decides-eqb a b).0 h

-- an earlier row of the group that the snapshot sees
abbrev pub is_under_at : {R : Type 0} → Validity R → (R → List ℕ) → (R → List ℕ) → ℕ → R → R → Bool
is_under_at v key group s c q = is_lt (key_cmp (key q) (key c)) && (is_eq (key_cmp (group q) (group c)) && is_visible v s q)

pub in_group : (g h : List ℕ) → g ≡ h → is_eq (key_cmp g h) ≡ true
in_group g h e = ap (λ k. is_eq (key_cmp k h)) e ∙ ap is_eq (tied_itself nat_list_cmp_total h)

count-visible : {R : Type 0} (v : Validity R) (s : ℕ) (p : R → Bool) → ((q : R) → p (v.with_end None q) ≡ p q) → (rows : List R)
    → count p (visible_at v s rows) ≡ count (λ q. is_visible v s q && p q) rows
count-visible v s p same [] = refl
count-visible v s p same (q ∷ rows) = go (is_visible v s q) (count-visible v s p same rows)
  where
    go : (b : Bool) → count p (visible_at v s rows) ≡ count (λ q. is_visible v s q && p q) rows
        → count p (map (v.with_end None) (cond b (q ∷ filter (is_visible v s) rows) (filter (is_visible v s) rows))) ≡ cond (b && p q) 1 0 + count (λ q. is_visible v s q && p q) rows
    go true more = ap₂ (λ b n. cond b 1 0 + n) (same q) more
    go false more = omega (arith, more)

-- how many of the rows that a snapshot sees pass a test
pub count_by-visible : {R : Type 0} (v : Validity R) (s : ℕ) (p : R → Bool) → ((q : R) → p (v.with_end None q) ≡ p q) → (rows : List R) → count_by p (visible_at v s rows) ≡ count_by (λ q. is_visible v s q && p q) rows
count_by-visible v s p same rows = count_by-is p (visible_at v s rows) ∙ count-visible v s p same rows ∙ sym (count_by-is (λ q. is_visible v s q && p q) rows)

pub all_so : {X : Type 0} (xs : List X) → AllByRecursion (λ _. Unit {0}) xs
all_so [] = tt
all_so (x ∷ xs) = (tt, all_so xs)

module _ {R : Type 0} (t : Tables) (up : RisesByKey snapshot_key t.snapshot) (whole : Holds (IsMissing t.snapshot)) (tables : AreDated t table_validity t.table) (v : Validity R) (name : R → Key) (key : R → List ℕ) (table : R → ℕ)
    (same_key : (q r : R) → key_cmp (place (name q)) (place (name r)) ≡ key_cmp (key q) (key r)) (group : R → List ℕ) (one_table : (q c : R) → group q ≡ group c → table q ≡ table c) (rows : List R) (dated : AreDated t v rows) where
  abbrev extent : R → Extent
  extent = extent_with t (kept_of t.snapshot).first v table group

  has_clip : (s : ℕ) (o : Option TableRow) → ((r : TableRow) → o ≡ Some r → IsDated t table_validity r) → HasRow o (λ r. is_visible table_validity s r ≡ true)
      → HasRow o (λ r. is_visible table_validity (clip t up whole s) r ≡ true)
  has_clip s None dated has = has
  has_clip s (Some r) dated has = clip_sees t up whole table_validity r (dated r refl) s has

  sees_clip : (c : R) → IsDated t v c → (s : ℕ) → covers s (extent c) ≡ true → SeesWith v (table_of t (table c)) c (clip t up whole s)
  sees_clip c d s h =
      let within = covers_within (kept_of t.snapshot).first s (group c) (interval_of v c) (table_of t (table c)) h in
      (clip_sees t up whole v c d s within.0, has_clip s (table_of t (table c)) (λ r e. found_dated t table_key (table c ∷ []) table_validity t.table tables r e) within.1)

  under_seen : (c q : R) → IsDated t v q → (s : ℕ) → is_under (λ q. place (name q)) extent c s q ≡ true
      → (is_lt (key_cmp (key q) (key c)) ≡ true) × (group q ≡ group c) × (is_visible v (clip t up whole s) q ≡ true)
  under_seen c q d s under =
      let below = and_parts _ _ under in
      let inside = and_parts (is_in (extent c).group (extent q)) (covers s (extent q)) below.1 in
      let within = covers_within (kept_of t.snapshot).first s (group q) (interval_of v q) (table_of t (table q)) inside.1 in
      (sym (ap is_lt (same_key q c)) ∙ below.0, same_groups inside.0, clip_sees t up whole v q d s within.0)
    where
      same_groups : is_eq (key_cmp (extent q).group (extent c).group) ≡ true → group q ≡ group c
      same_groups e = sym (extent_group _ (group q) (interval_of v q) (table_of t (table q))) ∙ key_eq (extent q).group (extent c).group e ∙ extent_group _ (group c) (interval_of v c) (table_of t (table c))

  seen_under : (c q : R) (s : ℕ) → (kept_of t.snapshot).first ≤ s → HasRow (table_of t (table c)) (λ r. is_visible table_validity s r ≡ true)
      → is_lt (key_cmp (key q) (key c)) ≡ true → group q ≡ group c → is_visible v s q ≡ true → is_under (λ q. place (name q)) extent c s q ≡ true
  seen_under c q s low has lower same sees =
      let P : ℕ → Type 0 = λ id. HasRow (table_of t id) (λ r. is_visible table_validity s r ≡ true) in
      let has_q : HasRow (table_of t (table q)) (λ r. is_visible table_validity s r ≡ true) = subst P (sym (one_table q c same)) has in
      let inside : is_in (extent c).group (extent q) ≡ true =
      ap₂ (λ g h. is_eq (key_cmp g h)) (extent_group _ (group q) (interval_of v q) (table_of t (table q))) (extent_group _ (group c) (interval_of v c) (table_of t (table c)))
      ∙ in_group (group q) (group c) same in
      and_from _ _ (ap is_lt (same_key q c) ∙ lower) (and_from _ _ inside (within_covers (kept_of t.snapshot).first s (group q) (interval_of v q) (table_of t (table q)) low sees has_q))

  module _ (n : ℕ) (F : ℕ → R → Type 0) (to : (s : ℕ) (c : R) → n ≤ count_by (is_under_at v key group s c) rows → F s c) (from : (s : ℕ) (c : R) → F s c → n ≤ count_by (is_under_at v key group s c) rows) where
    found_from_crowded : (c : R) → IsDated t v c → IsCrowded name extent n rows c → AtSome t (λ s. SeesWith v (table_of t (table c)) c s × F s c)
    found_from_crowded c d crowded =
        let s = crowded.0 in
        let here = clip t up whole s in
        let fewer : count_by (is_under (λ q. place (name q)) extent c s) rows ≤ count_by (is_under_at v key group here c) rows =
        count_by-le (IsDated t v) (is_under (λ q. place (name q)) extent c s) (is_under_at v key group here c) rows dated
        (λ q e under. let h = under_seen c q e s under in and_from _ _ h.0 (and_from _ _ (in_group (group q) (group c) h.1) h.2)) in
        let enough : n ≤ count_by (is_under (λ q. place (name q)) extent c s) rows = crowded.2 in
        at_kept t (λ s. SeesWith v (table_of t (table c)) c s × F s c) here (clip_kept t up whole s) (sees_clip c d s crowded.1, to here c (omega arith))

    crowded_from_found : (c : R) → AtSome t (λ s. SeesWith v (table_of t (table c)) c s × F s c) → IsCrowded name extent n rows c
    crowded_from_found c found =
        let at = from_kept t (λ s. SeesWith v (table_of t (table c)) c s × F s c) found in
        let s = at.0 in
        let low = (in_range t s up at.1).0 in
        let sees = at.2.0 in
        let enough : n ≤ count_by (is_under_at v key group s c) rows = from s c at.2.1 in
        let fewer : count_by (is_under_at v key group s c) rows ≤ count_by (is_under (λ q. place (name q)) extent c s) rows =
        count_by-le (IsDated t v) (is_under_at v key group s c) (is_under (λ q. place (name q)) extent c s) rows dated
        (λ q e under. let h = and_parts _ _ under in let k = and_parts _ _ h.1 in seen_under c q s low sees.1 h.0 (key_eq (group q) (group c) k.0) k.1) in
        (s, within_covers (kept_of t.snapshot).first s (group c) (interval_of v c) (table_of t (table c)) low sees.0 sees.1, omega arith)

    -- the answer about the rows that were given
    pub first_found_among : {E : Type 0} (result : Result (Option Key) E) (first : ℕ) (given : List R) → first ≡ (kept_of t.snapshot).first → given ≡ rows
        → IfOk result (FirstBad (Names name (IsCrowded name (extent_with t first v table group) n given) given)) → IfOk result (FirstBad (Names name (λ c. AtSome t (λ s. SeesWith v (table_of t (table c)) c s × F s c)) rows))
    first_found_among result first given same_first same_rows h =
        let Found : Key → Type 0 = Names name (λ c. AtSome t (λ s. SeesWith v (table_of t (table c)) c s × F s c)) rows in
        let Crowded : Key → Type 0 = Names name (IsCrowded name extent n rows) rows in
        let P : ℕ → Type 0 = λ k. IfOk result (FirstBad (Names name (IsCrowded name (extent_with t k v table group) n given) given)) in
        let Q : List R → Type 0 = λ l. IfOk result (FirstBad (Names name (IsCrowded name extent n l) l)) in
        IfOk-weaker result (FirstBad Crowded) (FirstBad Found)
        (λ o x. first_like Crowded Found
        (λ k bad. some_in (IsDated t v) _ _ rows dated (λ c d y. (found_from_crowded c d y.0, y.1)) bad)
        (λ k bad. SomeOf_like _ _ (λ c y. (crowded_from_found c y.0, y.1)) rows bad)
        o x)
        (subst Q same_rows (subst P same_first h))
