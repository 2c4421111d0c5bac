-- What kept snapshots see, told from the intervals alone.
use Rattle.std.proofs.Common.{◌≡◌, ℕ, ◌<◌, ◌≤◌, ◌⊎◌, inl, inr, ⊎_elim, Bool, true, false, ◌&&◌, ◌||◌, List, [], ◌∷◌, Option, Some, None, refl, sym, ap, ◌∙◌, subst, true≢false, arith, Decides, max, min}
use Rattle.std.specs.Prelude.{nat_lt, nat_le}
use Rattle.std.specs.List.{AllByRecursion}
use Rattle.std.proofs.lemmas.Bool.{and_right, cases_lt, lt-ltb, lt-leb, le-leb, le-ltb, or_parts, and_parts, and_cases, ltb-true, ltb-false, leb-true, leb-false}
use Rattle.cat_tables.specs.Table.{RisesByKey}
use Rattle.cat_tables.specs.Validity.{Validity, is_before, is_visible}
use Rattle.cat_rows.specs.Keys.{snapshot_key}
use Rattle.cat_rows.specs.Tables.{Tables}
use Rattle.cat_rows.specs.declared.batch.Key.TheVariants as key
use Rattle.cat_rows.specs.declared.history.SnapshotRow.{SnapshotRow}
use Rattle.cat_rules.specs.First.{Holds}
use Rattle.cat_rules.specs.HistoryRule.{IsAmong, IsMissing}
use Rattle.cat_rules.specs.IntervalRule.{ends_wrong, is_misdated}
use Rattle.cat_rules.specs.Kept.{id_of, kept_of, AtSome, IsKept, newest}
use Rattle.cat_rules.specs.Rows.{SomeOf}
use Rattle.cat_rules.specs.Sight.{IsSeen, IsSeenWithout}
use Rattle.cat_tables.specs.Interval.{ends_sooner, interval_of, outlasts}
use Rattle.cat_rules.specs.declared.kept.Kept.{Kept}
use Rattle.cat_rules.proofs.FirstLemmas.{SomeOf_like}
use Rattle.cat_rules.proofs.SnapshotLemmas.{above}

-- ---- which snapshots are kept

-- the newest of some rows that rise is among them, and none is past it
newest_is : (r : SnapshotRow) (rs : List SnapshotRow) → RisesByKey snapshot_key (r ∷ rs)
    → (m : SnapshotRow) × (newest (r ∷ rs) ≡ Some m) × SomeOf (λ q. q ≡ m) (r ∷ rs) × AllByRecursion (λ q. q.snapshot_id ≤ m.snapshot_id) (r ∷ rs)
newest_is r [] up = (r, refl, inl refl, (omega arith, tt))
newest_is r (q ∷ qs) up =
    let rest = newest_is q qs up.1 in
    let lt : r.snapshot_id < q.snapshot_id = (above r (q ∷ qs) up.0).0 in
    let le : q.snapshot_id ≤ rest.0.snapshot_id = rest.3.0 in
    (rest.0, rest.1, inr rest.2, (omega arith, rest.3))

among_or_not : (n : ℕ) (rs : List SnapshotRow) → IsAmong rs n ⊎ (IsAmong rs n → ⊥)
among_or_not n [] = inr (λ h. h)
among_or_not n (r ∷ rs) =
    more (among_or_not n rs)
  where
    more : IsAmong rs n ⊎ (IsAmong rs n → ⊥) → IsAmong (r ∷ rs) n ⊎ (IsAmong (r ∷ rs) n → ⊥)
    more rest =
        ⊎_elim (λ h. inl (inr h))
        (λ apart. ⊎_elim
        (λ lt. inr (λ h. ⊎_elim (λ e. absurd (omega arith)) apart h))
        (λ ge. ⊎_elim (λ lt. inr (λ h. ⊎_elim (λ e. absurd (omega arith)) apart h)) (λ le. let e : r.snapshot_id ≡ n = omega arith in inl (inl e)) (cases_lt n r.snapshot_id))
        (cases_lt r.snapshot_id n))
        rest

all_of : {X : Type 0} (P Q : X → Type 0) (xs : List X) → AllByRecursion P xs → SomeOf Q xs → (x : X) × P x × Q x
all_of P Q [] all some = absurd some
all_of P Q (x ∷ xs) all some = ⊎_elim (λ h. (x, all.0, h)) (λ h. all_of P Q xs all.1 h) some

-- All from the first to the newest are kept, and no other.
pub kept_range : (t : Tables) (s : ℕ) → RisesByKey snapshot_key t.snapshot → Holds (IsMissing t.snapshot) → (kept_of t.snapshot).first ≤ s → s ≤ (kept_of t.snapshot).newest → IsKept t s
kept_range t s = range t.snapshot
  where
    range : (rows : List SnapshotRow) → RisesByKey snapshot_key rows → Holds (IsMissing rows) → (kept_of rows).first ≤ s → s ≤ (kept_of rows).newest → SomeOf (λ q. q.snapshot_id ≡ s) rows
    range [] up whole low high = absurd (whole (key.Snapshot 0) refl)
    range (r ∷ rs) up whole low high =
        let last = newest_is r rs up in
        let top : s ≤ last.0.snapshot_id = let e : (kept_of (r ∷ rs)).newest ≡ last.0.snapshot_id = ap id_of last.1 in omega arith in
        ⊎_elim (λ among. among)
        (λ apart.
        let first_apart : r.snapshot_id ≡ s → ⊥ = λ e. apart (inl e) in
        let below : r.snapshot_id < s = ⊎_elim (λ lt. lt) (λ le. absurd (first_apart (omega arith))) (cases_lt r.snapshot_id s) in
        let last_apart : last.0.snapshot_id ≡ s → ⊥ = λ e. apart (SomeOf_like (λ q. q ≡ last.0) (λ q. q.snapshot_id ≡ s) (λ q same. ap (λ (x : SnapshotRow). x.snapshot_id) same ∙ e) (r ∷ rs) last.2) in
        let past : s < last.0.snapshot_id = ⊎_elim (λ lt. lt) (λ le. absurd (last_apart (omega arith))) (cases_lt s last.0.snapshot_id) in
        absurd (whole (key.Snapshot s) (
          s,
          refl,
          inl below,
          SomeOf_like (λ q. q ≡ last.0) (λ q. s < q.snapshot_id) (λ q same. let T : SnapshotRow → Type 0 = λ x. s < x.snapshot_id in subst T (sym same) past) (r ∷ rs) last.2,
          apart,
        )))
        (among_or_not s (r ∷ rs))

pub in_range : (t : Tables) (s : ℕ) → RisesByKey snapshot_key t.snapshot → IsKept t s → ((kept_of t.snapshot).first ≤ s) × (s ≤ (kept_of t.snapshot).newest)
in_range t s = range t.snapshot
  where
    range : (rows : List SnapshotRow) → RisesByKey snapshot_key rows → SomeOf (λ q. q.snapshot_id ≡ s) rows → ((kept_of rows).first ≤ s) × (s ≤ (kept_of rows).newest)
    range [] up some = absurd some
    range (r ∷ rs) up some =
        let last = newest_is r rs up in
        let e : (kept_of (r ∷ rs)).newest ≡ last.0.snapshot_id = ap id_of last.1 in
        let one = all_of (λ q. q.snapshot_id ≤ last.0.snapshot_id) (λ q. q.snapshot_id ≡ s) (r ∷ rs) last.3 some in
        let two = all_of (λ q. r.snapshot_id < q.snapshot_id) (λ q. q.snapshot_id ≡ s) rs (above r rs up.0) in
        (⊎_elim (λ now. omega arith) (λ more. omega (arith, (two more).1, (two more).2)) some, omega (arith, one.1, one.2))

-- what is so at some kept snapshot
pub at_kept : (t : Tables) (P : ℕ → Type 0) (s : ℕ) → IsKept t s → P s → AtSome t P
at_kept t P s kept h = SomeOf_like (λ q. q.snapshot_id ≡ s) (λ q. P q.snapshot_id) (λ q e. subst P (sym e) h) t.snapshot kept

pub from_kept : (t : Tables) (P : ℕ → Type 0) → AtSome t P → (s : ℕ) × IsKept t s × P s
from_kept t P = go t.snapshot
  where
    go : (rows : List SnapshotRow) → SomeOf (λ q. P q.snapshot_id) rows → (s : ℕ) × SomeOf (λ q. q.snapshot_id ≡ s) rows × P s
    go [] some = absurd some
    go (r ∷ rs) some = ⊎_elim (λ h. (r.snapshot_id, inl refl, h)) (λ h. let rest = go rs h in (rest.0, inr rest.1, rest.2)) some

-- ---- intervals as numbers

-- s is before the end
abbrev IsOpenAt : ℕ → Option ℕ → Type 0
IsOpenAt s None = Unit {0}
IsOpenAt s (Some n) = s < n

-- the end is at s or before
abbrev IsOverAt : ℕ → Option ℕ → Type 0
IsOverAt s None = ⊥
IsOverAt s (Some n) = n ≤ s

abbrev EndsRight : Kept → ℕ → Option ℕ → Type 0
EndsRight kept b None = Unit {0}
EndsRight kept b (Some n) = (b < n) × (kept.first < n) × (n ≤ kept.newest)

ends_right : (kept : Kept) (b : ℕ) (e : Option ℕ) → ends_wrong kept b e ≡ false → EndsRight kept b e
ends_right kept b None h = tt
ends_right kept b (Some n) h =
    let p = or_parts (nat_le n b) (nat_le n kept.first || nat_lt kept.newest n) h in
    let q = or_parts (nat_le n kept.first) (nat_lt kept.newest n) p.1 in
    (leb-false n b p.0, leb-false n kept.first q.0, ltb-false kept.newest n q.1)

open_at : (s : ℕ) (e : Option ℕ) → is_before s e ≡ true → IsOpenAt s e
open_at s None h = tt
open_at s (Some n) h = ltb-true s n h

before_from : (s : ℕ) (e : Option ℕ) → IsOpenAt s e → is_before s e ≡ true
before_from s None h = refl
before_from s (Some n) h = lt-ltb s n h

over_at : (s : ℕ) (e : Option ℕ) → is_before s e ≡ false → IsOverAt s e
over_at s None h = absurd (true≢false h)
over_at s (Some n) h = ltb-false s n h

max_bounds : (a b : ℕ) → (a ≤ max a b) × (b ≤ max a b) × ((max a b ≡ a) ⊎ (max a b ≡ b))
max_bounds a b = go (nat_lt a b) refl
  where
    go : (t : Bool) → nat_lt a b ≡ t → (a ≤ max a b) × (b ≤ max a b) × ((max a b ≡ a) ⊎ (max a b ≡ b))
    go true e = let lt = ltb-true a b e in let is : max a b ≡ b = omega arith in (omega arith, omega arith, inr is)
    go false e = let le = ltb-false a b e in let is : max a b ≡ a = omega arith in (omega arith, omega arith, inl is)

-- ---- rows that lie within the kept snapshots

ends_sooner_from : (e f : Option ℕ) (s : ℕ) → IsOpenAt s e → IsOverAt s f → ends_sooner f e ≡ true
ends_sooner_from e None s opens over = absurd over
ends_sooner_from None (Some n) s opens over = refl
ends_sooner_from (Some m) (Some n) s opens over = lt-ltb n m (omega arith)

open_max : (kept : Kept) (b : ℕ) (e : Option ℕ) → EndsRight kept b e → IsOpenAt (max kept.first b) e
open_max kept b None right = tt
open_max kept b (Some n) right = ⊎_elim (λ is. omega (arith, right.1, is)) (λ is. omega (arith, right.0, is)) (max_bounds kept.first b).2

-- the first number from n on that may be kept and isn't before the begin
abbrev from_there : Kept → ℕ → ℕ → ℕ
from_there kept b n = max kept.first (max b n)

open_there : (kept : Kept) (b n : ℕ) (e : Option ℕ) → EndsRight kept b e → ends_sooner (Some n) e ≡ true → IsOpenAt (from_there kept b n) e
open_there kept b n None right sooner = tt
open_there kept b n (Some m) right sooner =
    let lt = ltb-true n m sooner in
    ⊎_elim (λ is. omega (arith, right.1, is)) (λ is. ⊎_elim (λ i. omega (arith, right.0, is, i)) (λ i. omega (arith, lt, is, i)) (max_bounds b n).2) (max_bounds kept.first (max b n)).2

-- the row's interval lies within the kept snapshots
abbrev pub IsDated : {R : Type 0} → Tables → Validity R → R → Type 0
IsDated t v r = is_misdated (kept_of t.snapshot) v r ≡ false

module _ (t : Tables) (up : RisesByKey snapshot_key t.snapshot) (whole : Holds (IsMissing t.snapshot)) where
  some_kept : (kept_of t.snapshot).first ≤ (kept_of t.snapshot).newest
  some_kept = go t.snapshot up whole
    where
      go : (rows : List SnapshotRow) → RisesByKey snapshot_key rows → Holds (IsMissing rows) → (kept_of rows).first ≤ (kept_of rows).newest
      go [] u w = absurd (w (key.Snapshot 0) refl)
      go (r ∷ rs) u w = let last = newest_is r rs u in let e : (kept_of (r ∷ rs)).newest ≡ last.0.snapshot_id = ap id_of last.1 in omega (arith, last.3.0)

  module _ {R : Type 0} (v : Validity R) where
    dated_ends : (r : R) → IsDated t v r → (v.begin r ≤ (kept_of t.snapshot).newest) × EndsRight (kept_of t.snapshot) (v.begin r) (v.end r)
    dated_ends r h = let p = or_parts _ _ h in (ltb-false (kept_of t.snapshot).newest (v.begin r) p.0, ends_right (kept_of t.snapshot) (v.begin r) (v.end r) p.1)

    visible_from : (s : ℕ) (r : R) → v.begin r ≤ s → IsOpenAt s (v.end r) → is_visible v s r ≡ true
    visible_from s r begins opens = ap (λ b. b && is_before s (v.end r)) (le-leb (v.begin r) s begins) ∙ before_from s (v.end r) opens

    visible_is : (s : ℕ) (r : R) → is_visible v s r ≡ true → (v.begin r ≤ s) × IsOpenAt s (v.end r)
    visible_is s r h = let p = and_parts _ _ h in (leb-true (v.begin r) s p.0, open_at s (v.end r) p.1)

    hidden_is : (s : ℕ) (r : R) → is_visible v s r ≡ false → (s < v.begin r) ⊎ IsOverAt s (v.end r)
    hidden_is s r h = ⊎_elim (λ e. inl (leb-false (v.begin r) s e)) (λ e. inr (over_at s (v.end r) e)) (and_cases _ _ h)

    -- it is seen, at the latest by the newest snapshot
    pub is_seen : (r : R) → IsDated t v r → IsSeen t v r
    is_seen r h =
        let kept = kept_of t.snapshot in
        let right = dated_ends r h in
        let s = max kept.first (v.begin r) in
        let m = max_bounds kept.first (v.begin r) in
        let top : s ≤ kept.newest = ⊎_elim (λ is. omega (arith, some_kept, is)) (λ is. omega (arith, right.0, is)) m.2 in
        at_kept t (λ s. is_visible v s r ≡ true) s (kept_range t s up whole m.0 top) (visible_from s r m.1 (open_max kept (v.begin r) (v.end r) right.1))

    not_yet : (s : ℕ) (r : R) → s < v.begin r → is_visible v s r ≡ false
    not_yet s r lt = ap (λ b. b && is_before s (v.end r)) (lt-leb (v.begin r) s lt)

    no_more : (s n : ℕ) (r : R) → v.end r ≡ Some n → n ≤ s → is_visible v s r ≡ false
    no_more s n r e le = and_right _ _ (ap (is_before s) e ∙ le-ltb s n le)

  module _ {R S : Type 0} (v : Validity R) (w : Validity S) where
    -- The row is seen where the other isn't: decided by the two intervals.
    pub outlasts_is : (r : R) (q : S) → IsDated t v r → IsDated t w q → Decides (outlasts (kept_of t.snapshot).first (interval_of v r) (interval_of w q)) (IsSeenWithout t v w r q)
    outlasts_is r q dr dq = (found, told)
      where
        kept : Kept
        kept = kept_of t.snapshot

        at : (s : ℕ) → kept.first ≤ s → s ≤ kept.newest → v.begin r ≤ s → IsOpenAt s (v.end r) → is_visible w s q ≡ false → IsSeenWithout t v w r q
        at s low top begins opens hidden = at_kept t (λ s. (is_visible v s r ≡ true) × (is_visible w s q ≡ false)) s (kept_range t s up whole low top) (visible_from v s r begins opens, hidden)

        sooner_end : (f : Option ℕ) → w.end q ≡ f → ends_sooner f (v.end r) ≡ true → IsSeenWithout t v w r q
        sooner_end None e h = absurd (true≢false (sym h))
        sooner_end (Some n) e h =
            let right = dated_ends v r dr in
            let ends : EndsRight kept (w.begin q) (Some n) = let T : Option ℕ → Type 0 = EndsRight kept (w.begin q) in subst T e (dated_ends w q dq).1 in
            let s = from_there kept (v.begin r) n in
            let one = max_bounds kept.first (max (v.begin r) n) in
            let two = max_bounds (v.begin r) n in
            let top : s ≤ kept.newest = ⊎_elim (λ is. omega (arith, some_kept, is)) (λ is. ⊎_elim (λ i. omega (arith, right.0, is, i)) (λ i. omega (arith, ends.2, is, i)) two.2) one.2 in
            at s one.0 top (omega (arith, one.1, two.0)) (open_there kept (v.begin r) n (v.end r) right.1 h) (no_more w s n q e (omega (arith, one.1, two.1)))

        found : outlasts kept.first (interval_of v r) (interval_of w q) ≡ true → IsSeenWithout t v w r q
        found = go (nat_lt (max kept.first (v.begin r)) (w.begin q)) refl
          where
            go : (b : Bool) → nat_lt (max kept.first (v.begin r)) (w.begin q) ≡ b → (b || ends_sooner (w.end q) (v.end r)) ≡ true → IsSeenWithout t v w r q
            go true e h =
                let right = dated_ends v r dr in
                let s = max kept.first (v.begin r) in
                let m = max_bounds kept.first (v.begin r) in
                let top : s ≤ kept.newest = ⊎_elim (λ is. omega (arith, some_kept, is)) (λ is. omega (arith, right.0, is)) m.2 in
                at s m.0 top m.1 (open_max kept (v.begin r) (v.end r) right.1) (not_yet w s q (ltb-true s (w.begin q) e))
            go false e h = sooner_end (w.end q) refl h

        or_true : (a b : Bool) → (a ≡ true) ⊎ (b ≡ true) → (a || b) ≡ true
        or_true true b h = refl
        or_true false b h = ⊎_elim (λ e. absurd (true≢false (sym e))) (λ e. e) h

        told : IsSeenWithout t v w r q → outlasts kept.first (interval_of v r) (interval_of w q) ≡ true
        told seen =
            let some = from_kept t (λ s. (is_visible v s r ≡ true) × (is_visible w s q ≡ false)) seen in
            let s = some.0 in
            let low = (in_range t s up some.1).0 in
            let sees = visible_is v s r some.2.0 in
            or_true _ _ (⊎_elim
            (λ lt. inl (lt-ltb _ _ (⊎_elim (λ is. omega (arith, low, lt, is)) (λ is. omega (arith, sees.0, lt, is)) (max_bounds kept.first (v.begin r)).2)))
            (λ over. inr (ends_sooner_from (v.end r) (w.end q) s sees.1 over))
            (hidden_is w s q some.2.1))

  -- the kept snapshot nearest to a number
  abbrev pub clip : ℕ → ℕ
  clip s = max (kept_of t.snapshot).first (min s (kept_of t.snapshot).newest)

  pub clip_kept : (s : ℕ) → IsKept t (clip s)
  clip_kept s =
      let kept = kept_of t.snapshot in
      let low : kept.first ≤ clip s = omega arith in
      let top : clip s ≤ kept.newest = omega (arith, some_kept) in
      kept_range t (clip s) up whole low top

  -- A row that is seen at a number is seen at the kept snapshot nearest to it. So "at some number" and "at some kept
  -- snapshot" agree.
  pub clip_sees : {R : Type 0} (v : Validity R) (r : R) → IsDated t v r → (s : ℕ) → is_visible v s r ≡ true → is_visible v (clip s) r ≡ true
  clip_sees v r d s h =
      let right = dated_ends v r d in
      let sees = visible_is v s r h in
      let begins : v.begin r ≤ clip s = omega (arith, right.0, sees.0) in
      visible_from v (clip s) r begins (opens (v.end r) right.1 sees.1)
    where
      opens : (e : Option ℕ) → EndsRight (kept_of t.snapshot) (v.begin r) e → IsOpenAt s e → IsOpenAt (clip s) e
      opens None right h = tt
      opens (Some n) right h = omega (arith, right.1, right.2, h)
