-- Rows of one group that lie over one number are rows of one group that a kept snapshot sees.
use Rattle.std.proofs.Common.{◌≡◌, ℕ, ◌+◌, ◌≤◌, inl, inr, Bool, true, false, cond, ◌&&◌, List, [], ◌∷◌, count_by, refl, sym, ap, subst, ◌∙◌, Option, is_lt, is_eq, nat_le, max, Result, arith}
use Rattle.std.proofs.lemmas.Bool.{and_parts, and_from}
use Rattle.std.specs.Result.{IfOk}
use Rattle.std.proofs.lemmas.Bool.Decides.{nat_tests}
use Rattle.std.proofs.lemmas.Cmp.{nat_list_cmp_total, tied_itself}
use Rattle.std.proofs.lemmas.Result.{IfOk-weaker}
use Rattle.cat_tables.specs.Table.{IsBelow, RisesByKey, key_cmp}
use Rattle.cat_tables.specs.Validity.{Validity, is_visible}
use Rattle.cat_tables.proofs.KeyLemmas.{key_eq}
use Rattle.cat_tables.proofs.PlaceLemmas.{less_is}
use Rattle.cat_rows.specs.Keys.{snapshot_key}
use Rattle.cat_rows.specs.Tables.{Tables}
use Rattle.cat_rows.specs.declared.batch.Key.{Key}
use Rattle.cat_rules.specs.First.{FirstBad, Holds}
use Rattle.cat_rules.specs.HistoryRule.{IsMissing}
use Rattle.cat_rules.specs.Kept.{kept_of}
use Rattle.cat_rows.specs.Places.{place}
use Rattle.cat_rules.specs.Rows.{SomeOf, Names}
use Rattle.cat_rules.specs.Sight.{AreSeen, HasEarlier}
use Rattle.cat_rules.proofs.DatedLemmas.{AreDated}
use Rattle.cat_rules.proofs.FirstLemmas.{first_like, some_in}
use Rattle.cat_rules.proofs.SightLemmas.{IsDated, at_kept, from_kept, clip, clip_kept, clip_sees, in_range}
use Rattle.cat_spans.specs.Spans.{covers, is_under}
use Rattle.cat_spans.proofs.CountLemmas.{count, count_by-is}
use Rattle.cat_rules.specs.Crowded.{IsCrowded, extent_of}
use Rattle.cat_rules.proofs.CrowdedLemmas.{some_place, some_at}

-- ---- one of some

some_of_count : {X : Type 0} (p : X → Bool) (xs : List X) → 1 ≤ count p xs → SomeOf (λ x. p x ≡ true) xs
some_of_count p [] le = absurd (omega arith)
some_of_count p (x ∷ xs) le = at (p x) refl le (some_of_count p xs)
  where
    at : (b : Bool) → p x ≡ b → 1 ≤ cond b 1 0 + count p xs → (1 ≤ count p xs → SomeOf (λ x. p x ≡ true) xs) → SomeOf (λ x. p x ≡ true) (x ∷ xs)
    at true e le more = inl e
    at false e le more = inr (more (omega arith))

count_of_some : {X : Type 0} (p : X → Bool) (xs : List X) → SomeOf (λ x. p x ≡ true) xs → 1 ≤ count p xs
count_of_some p [] h = absurd h
count_of_some p (x ∷ xs) (inl e) = rw e (omega arith)
count_of_some p (x ∷ xs) (inr more) = let rest = count_of_some p xs more in omega arith

pub some_counted : {X : Type 0} (p : X → Bool) (xs : List X) → 1 ≤ count_by p xs → SomeOf (λ x. p x ≡ true) xs
some_counted p xs le = some_of_count p xs (let e = count_by-is p xs in omega arith)

pub counted_some : {X : Type 0} (p : X → Bool) (xs : List X) → SomeOf (λ x. p x ≡ true) xs → 1 ≤ count_by p xs
counted_some p xs h = let e = count_by-is p xs in let le = count_of_some p xs h in omega arith

-- ---- numbers that a row covers

pub le_max : (a b s : ℕ) (c : Bool) → (nat_le (max a b) s && c) ≡ true → ((nat_le b s && c) ≡ true)
le_max a b s true h = grind (arith, nat_tests)
le_max a b s false h = absurd (let e = (and_parts (nat_le (max a b) s) false h).1 in cc)

pub max_le : (a b s : ℕ) (c : Bool) → a ≤ s → (nat_le b s && c) ≡ true → (nat_le (max a b) s && c) ≡ true
max_le a b s true le h = grind (arith, nat_tests)
max_le a b s false le h = absurd (let e = (and_parts (nat_le b s) false h).1 in cc)

module _ {R : Type 0} (t : Tables) (up : RisesByKey snapshot_key t.snapshot) (whole : Holds (IsMissing t.snapshot)) (v : Validity R) (name : R → Key) (key : R → List ℕ)
    (same_key : (q r : R) → key_cmp (place (name q)) (place (name r)) ≡ key_cmp (key q) (key r)) (group : R → List ℕ) (Alike : R → R → Type 0)
    (alike_is : (q r : R) → group q ≡ group r → Alike q r) (group_is : (q r : R) → Alike q r → group q ≡ group r) (rows : List R) (dated : AreDated t v rows) where
  used_from_crowded : (r : R) → IsDated t v r → IsCrowded name (extent_of (kept_of t.snapshot).first v group) 1 rows r → HasEarlier Alike t v key rows r
  used_from_crowded r d crowded = some_in (IsDated t v) _ _ rows dated (λ q e under. alike q e under) (some_counted _ rows crowded.2)
    where
      alike : (q : R) → IsDated t v q → is_under (λ q. place (name q)) (extent_of (kept_of t.snapshot).first v group) r crowded.0 q ≡ true → IsBelow key q r × Alike q r × AreSeen t v q r
      alike q e under =
          let s = crowded.0 in
          let first = (kept_of t.snapshot).first in
          let below = and_parts _ _ under in
          let inside = and_parts _ _ below.1 in
          let sees_q = clip_sees t up whole v q e s (le_max first (v.begin q) s _ inside.1) in
          let sees_r = clip_sees t up whole v r d s (le_max first (v.begin r) s _ crowded.1) in (
            sym (same_key q r) ∙ less_is _ below.0,
            alike_is q r (key_eq (group q) (group r) inside.0),
            at_kept t (λ s. (is_visible v s q ≡ true) × (is_visible v s r ≡ true)) (clip t up whole s) (clip_kept t up whole s) (sees_q, sees_r),
          )

  crowded_from_used : (r : R) → HasEarlier Alike t v key rows r → IsCrowded name (extent_of (kept_of t.snapshot).first v group) 1 rows r
  crowded_from_used r used =
      let one = some_place _ rows used in
      let q = one.1 in
      let seen = from_kept t (λ s. (is_visible v s q ≡ true) × (is_visible v s r ≡ true)) one.3.2 in
      let s = seen.0 in
      let first = (kept_of t.snapshot).first in
      let low : first ≤ s = (in_range t s up seen.1).0 in
      let same : is_eq (key_cmp (group q) (group r)) ≡ true = ap (λ g. is_eq (key_cmp g (group r))) (group_is q r one.3.1) ∙ ap is_eq (tied_itself nat_list_cmp_total (group r)) in
      let lower : is_lt (key_cmp (place (name q)) (place (name r))) ≡ true = ap is_lt (same_key q r ∙ one.3.0) in
      let covers_q : covers s (extent_of first v group q) ≡ true = max_le first (v.begin q) s _ low seen.2.0 in
      let covers_r : covers s (extent_of first v group r) ≡ true = max_le first (v.begin r) s _ low seen.2.1 in
      let under : is_under (λ q. place (name q)) (extent_of first v group) r s q ≡ true = and_from _ _ lower (and_from _ _ same covers_q) in
      (s, covers_r, counted_some _ rows (some_at (λ x. is_under (λ q. place (name q)) (extent_of first v group) r s x ≡ true) rows one.0 q one.2 under))

  first_used : (o : Option Key) → FirstBad (Names name (IsCrowded name (extent_of (kept_of t.snapshot).first v group) 1 rows) rows) o → FirstBad (Names name (HasEarlier Alike t v key rows) rows) o
  first_used o h =
      first_like (Names name (IsCrowded name (extent_of (kept_of t.snapshot).first v group) 1 rows) rows) (Names name (HasEarlier Alike t v key rows) rows)
      (λ k bad. some_in (IsDated t v) _ _ rows dated (λ r d x. (used_from_crowded r d x.0, x.1)) bad)
      (λ k bad. some_in (IsDated t v) _ _ rows dated (λ r d x. (crowded_from_used r x.0, x.1)) bad)
      o h

  -- the same of an answer about the rows that were given
  pub first_used_among : {E : Type 0} (result : Result (Option Key) E) (first : ℕ) (given : List R) → first ≡ (kept_of t.snapshot).first → given ≡ rows
      → IfOk result (FirstBad (Names name (IsCrowded name (extent_of first v group) 1 given) given)) → IfOk result (FirstBad (Names name (HasEarlier Alike t v key rows) rows))
  first_used_among result first given same_first same_rows h =
      let P : ℕ → Type 0 = λ n. IfOk result (FirstBad (Names name (IsCrowded name (extent_of n v group) 1 given) given)) in
      let Q : List R → Type 0 = λ l. IfOk result (FirstBad (Names name (IsCrowded name (extent_of (kept_of t.snapshot).first v group) 1 l) l)) in
      IfOk-weaker result (FirstBad (Names name (IsCrowded name (extent_of (kept_of t.snapshot).first v group) 1 rows) rows)) (FirstBad (Names name (HasEarlier Alike t v key rows) rows))
      (λ o x. first_used o x) (subst Q same_rows (subst P same_first h))
