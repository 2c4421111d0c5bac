-- Orders that are no finer than that of kinds, and what stands where in a list in order.
use Rattle.std.proofs.Common.{◌≡◌, ℕ, zero, suc, ◌+◌, ◌-◌, ◌<◌, ◌≤◌, Bool, true, false, cond, List, [], ◌∷◌, length, get_or, take, drop, filter, refl, sym, ap, ◌∙◌, arith, Option, Some, None, Ordering, Less, Equal, Greater, is_lt, is_eq, true≢false, Bor}
use Rattle.std.specs.Cmp.{IsTotalOrder}
use Rattle.std.specs.Cmp.Lexicographic.{slice_cmp}
use Rattle.std.specs.Fn.{Called, ComputesKey}
use Rattle.std.specs.List.{prefix_len, slice_get}
use Rattle.std.specs.List.Sorted.{IsPartitionedBy, IsPartitionPoint}
use Rattle.std.specs.Ordering.{is_gt, is_le, nat_cmp, on, then_cmp}
use Rattle.std.specs.Prelude.{find}
use Rattle.std.proofs.lemmas.Cmp.{alike_right, nat_cmp_total, nat_list_cmp_total, on_total, then_total}
use Rattle.std.proofs.lemmas.List.Sorted.{IsPartitionPoint-from_clause}
use Rattle.std.proofs.lemmas.List.Sums.{prefix_len_is}
use denote.Param.Members.{Mut}
use Rattle.lake_types.specs.Kinds.{AreInOrder, kind_cmp, rank, subject, then_by}
use Rattle.lake_types.specs.declared.kind.Kind.{Kind}
use Rattle.lake_model.proofs.KindLemmas.{kinds_total, then-is, total-along}
use Rattle.conflicts.specs.Search.{head_cmp, sort_cmp}

-- an order that never turns two kinds round
pub record IsCoarser (S : Kind → Kind → Ordering) : Type 0 where
  pub total : IsTotalOrder S
  pub along : (k l : Kind) → kind_cmp k l ≡ Less → is_gt (S k l) ≡ false

pub less_first : (a b : Ordering) → then_by a b ≡ Less → is_gt a ≡ false
less_first Less b h = refl
less_first Equal b h = refl
less_first Greater b h = cc

less_second : (a b c : Ordering) → then_by a (then_by b c) ≡ Less → is_gt (then_by a b) ≡ false
less_second Less b c h = refl
less_second Equal b c h = less_first b c h
less_second Greater b c h = cc

less_itself : (a : Ordering) → a ≡ Less → is_gt a ≡ false
less_itself a h = ap is_gt h

pub kinds_coarser : IsCoarser kind_cmp
kinds_coarser = record { total = kinds_total; along = λ k l h. less_itself (kind_cmp k l) h }

pub heads_coarser : IsCoarser head_cmp
heads_coarser = record {
  total = total-along (then_cmp (on rank nat_cmp) (on (λ (k : Kind). (subject k).0) (slice_cmp nat_cmp))) head_cmp (λ k l. then-is (nat_cmp (rank k) (rank l)) (slice_cmp nat_cmp (subject k).0 (subject l).0))
      (then_total (on_total rank nat_cmp_total) (on_total (λ (k : Kind). (subject k).0) nat_list_cmp_total));
  along = λ k l h. less_second (nat_cmp (rank k) (rank l)) (slice_cmp nat_cmp (subject k).0 (subject l).0) (slice_cmp nat_cmp (subject k).1 (subject l).1) h;
}

pub sorts_coarser : IsCoarser sort_cmp
sorts_coarser = record {
  total = on_total rank nat_cmp_total;
  along = λ k l h. less_first (nat_cmp (rank k) (rank l)) (then_by (slice_cmp nat_cmp (subject k).0 (subject l).0) (slice_cmp nat_cmp (subject k).1 (subject l).1)) h;
}

pub in_order-tail : (k : Kind) (ks : List Kind) → AreInOrder (k ∷ ks) → AreInOrder ks
in_order-tail k [] h = tt
in_order-tail k (l ∷ ks) h = h.1

-- a test that holds of what stands before something of which it holds
parted : (q : Kind → Bool) → ((k l : Kind) → kind_cmp k l ≡ Less → q l ≡ true → q k ≡ true) → (ks : List Kind) → AreInOrder ks → IsPartitionedBy q ks
parted q along [] h i j d le within t = absurd (omega arith)
parted q along (k ∷ ks) h zero zero d le within t = t
parted q along (k ∷ ks) h zero (suc j) d le within t = first k ks h j (omega arith) t
  where
    first : (k : Kind) (ks : List Kind) → AreInOrder (k ∷ ks) → (j : ℕ) → j < length ks → q (get_or ks j d) ≡ true → q k ≡ true
    first k [] h j within t = absurd (omega arith)
    first k (l ∷ ks) h zero within t = along k l h.0 t
    first k (l ∷ ks) h (suc j) within t = along k l h.0 (first l ks h.1 j (omega arith) t)
parted q along (k ∷ ks) h (suc i) zero d le within t = absurd (omega arith)
parted q along (k ∷ ks) h (suc i) (suc j) d le within t = parted q along ks (in_order-tail k ks h) i j d (omega arith) (omega arith) t

-- ---- what stands before, at and past a place

module _ (S : Kind → Kind → Ordering) (coarse : IsCoarser S) (p : Kind) where
  -- before something at most at a place is before it
  earlier : (k l : Kind) → kind_cmp k l ≡ Less → S l p ≡ Less → S k p ≡ Less
  earlier k l h e = go (S k l) refl (coarse.along k l h)
    where
      go : (o : Ordering) → S k l ≡ o → is_gt o ≡ false → S k p ≡ Less
      go Less is up = coarse.total.trans k l p is e
      go Equal is up = coarse.total.congr k l p is ∙ e
      go Greater is up = absurd (true≢false up)

  later : (k l : Kind) → kind_cmp k l ≡ Less → S k p ≡ Greater → S l p ≡ Greater
  later k l h e = go (S l p) refl
    where
      tied : S l p ≡ Equal → S k l ≡ Greater
      tied is = alike_right coarse.total l p k is ∙ e

      go : (o : Ordering) → S l p ≡ o → S l p ≡ Greater
      go Less is = let below = earlier k l h is in cc
      go Equal is = absurd (true≢false (ap is_gt (sym (tied is)) ∙ coarse.along k l h))
      go Greater is = is

  -- not before something that is not before it
  not_before : (k l : Kind) → kind_cmp k l ≡ Less → S k p ≡ Equal → is_lt (S l p) ≡ false
  not_before k l h e = go (S l p) refl
    where
      go : (o : Ordering) → S l p ≡ o → is_lt (S l p) ≡ false
      go Less is = let below = earlier k l h is in cc
      go Equal is = ap is_lt is
      go Greater is = ap is_lt is

  abbrev before : Kind → Bool
  before k = is_lt (S k p)

  abbrev upto : Kind → Bool
  upto k = is_le (S k p)

  abbrev hit : Kind → Bool
  hit k = is_eq (S k p)

  find-past : (k : Kind) (ks : List Kind) → AreInOrder (k ∷ ks) → S k p ≡ Greater → find hit ks ≡ None
  find-past k [] h e = refl
  find-past k (l ∷ ks) h e = let f = later k l h.0 e in rw f (find-past l ks h.1 f)

  filter-past : (k : Kind) (ks : List Kind) → AreInOrder (k ∷ ks) → S k p ≡ Greater → filter hit ks ≡ []
  filter-past k [] h e = refl
  filter-past k (l ∷ ks) h e = let f = later k l h.0 e in rw f (filter-past l ks h.1 f)

  none_before : (k : Kind) (ks : List Kind) → AreInOrder (k ∷ ks) → S k p ≡ Equal → prefix_len before ks ≡ 0
  none_before k [] h e = refl
  none_before k (l ∷ ks) h e = rw (not_before k l h.0 e) refl

  abbrev if_hit : Option Kind → Option Kind
  if_hit None = None
  if_hit (Some k) = cond (hit k) (Some k) None

  -- the first at the place, if there is one, stands behind those before it
  find-place : (ks : List Kind) → AreInOrder ks → find hit ks ≡ if_hit (slice_get ks (prefix_len before ks))
  find-place [] h = refl
  find-place (k ∷ ks) h = go (S k p) refl (find-place ks (in_order-tail k ks h))
    where
      go : (o : Ordering) → S k p ≡ o → find hit ks ≡ if_hit (slice_get ks (prefix_len before ks)) → find hit (k ∷ ks) ≡ if_hit (slice_get (k ∷ ks) (prefix_len before (k ∷ ks)))
      go Less is rest =
          let more : suc (prefix_len before ks) ≡ 1 + prefix_len before ks = omega arith in
          rw is (rest ∙ ap (λ i. if_hit (slice_get (k ∷ ks) i)) more)
      go Equal is rest = rw is (sym (ap (λ b. cond b (Some k) None) (ap is_eq is)))
      go Greater is rest = rw is (find-past k ks h is ∙ sym (ap (λ b. cond b (Some k) None) (ap is_eq is)))

  pub found : (ks : List Kind) (at : ℕ) (k : Kind) → AreInOrder ks → at ≡ prefix_len before ks → slice_get ks at ≡ Some k → hit k ≡ true → find hit ks ≡ Some k
  found ks at k h e is here = find-place ks h ∙ ap (λ i. if_hit (slice_get ks i)) (sym e) ∙ ap if_hit is ∙ ap (λ b. cond b (Some k) None) here

  pub missed : (ks : List Kind) (at : ℕ) (k : Kind) → AreInOrder ks → at ≡ prefix_len before ks → slice_get ks at ≡ Some k → hit k ≡ false → find hit ks ≡ None
  missed ks at k h e is here = find-place ks h ∙ ap (λ i. if_hit (slice_get ks i)) (sym e) ∙ ap if_hit is ∙ ap (λ b. cond b (Some k) None) here

  pub none_there : (ks : List Kind) (at : ℕ) → AreInOrder ks → at ≡ prefix_len before ks → slice_get ks at ≡ None → find hit ks ≡ None
  none_there ks at h e is = find-place ks h ∙ ap (λ i. if_hit (slice_get ks i)) (sym e) ∙ ap if_hit is

  -- those at the place stand from the first that is not before it up to the first that is past it
  pub range : (ks : List Kind) → AreInOrder ks → take (prefix_len upto ks - prefix_len before ks) (drop (prefix_len before ks) ks) ≡ filter hit ks
  range [] h = refl
  range (k ∷ ks) h = go (S k p) refl (range ks (in_order-tail k ks h))
    where
      go : (o : Ordering) → S k p ≡ o → take (prefix_len upto ks - prefix_len before ks) (drop (prefix_len before ks) ks) ≡ filter hit ks
          → take (prefix_len upto (k ∷ ks) - prefix_len before (k ∷ ks)) (drop (prefix_len before (k ∷ ks)) (k ∷ ks)) ≡ filter hit (k ∷ ks)
      go Less is more =
          let size : (1 + prefix_len upto ks) - (1 + prefix_len before ks) ≡ prefix_len upto ks - prefix_len before ks = omega arith in
          let start : 1 + prefix_len before ks ≡ suc (prefix_len before ks) = omega arith in
          rw is (ap (λ n. take n (drop (1 + prefix_len before ks) (k ∷ ks))) size ∙ ap (λ n. take (prefix_len upto ks - prefix_len before ks) (drop n (k ∷ ks))) start ∙ more)
      go Equal is more =
          let none : prefix_len before ks ≡ 0 = none_before k ks h is in
          let size : (1 + prefix_len upto ks) - 0 ≡ suc (prefix_len upto ks) = omega arith in
          let same : prefix_len upto ks - 0 ≡ prefix_len upto ks = omega arith in
          let rest = ap (λ n. take n ks) (sym same) ∙ ap (λ n. take (prefix_len upto ks - n) (drop n ks)) (sym none) ∙ more in
          rw is (ap (λ n. take n (k ∷ ks)) size ∙ ap (λ l. k ∷ l) rest)
      go Greater is more = rw is (sym (filter-past k ks h is))

  pub range_within : (ks : List Kind) → prefix_len before ks ≤ prefix_len upto ks
  range_within [] = omega arith
  range_within (k ∷ ks) = go (S k p) refl (range_within ks)
    where
      go : (o : Ordering) → S k p ≡ o → prefix_len before ks ≤ prefix_len upto ks → prefix_len before (k ∷ ks) ≤ prefix_len upto (k ∷ ks)
      go Less is more = rw is (omega arith)
      go Equal is more = rw is (omega arith)
      go Greater is more = rw is (omega arith)

  before_along : (k l : Kind) → kind_cmp k l ≡ Less → before l ≡ true → before k ≡ true
  before_along k l h e = go (S l p) refl
    where
      go : (o : Ordering) → S l p ≡ o → before k ≡ true
      go Less is = ap is_lt (earlier k l h is)
      go Equal is = absurd (true≢false (sym e ∙ ap is_lt is))
      go Greater is = absurd (true≢false (sym e ∙ ap is_lt is))

  upto_along : (k l : Kind) → kind_cmp k l ≡ Less → upto l ≡ true → upto k ≡ true
  upto_along k l h e = go (S k p) refl
    where
      go : (o : Ordering) → S k p ≡ o → upto k ≡ true
      go Less is = ap is_le is
      go Equal is = ap is_le is
      go Greater is = absurd (true≢false (sym e ∙ ap is_le (later k l h is)))

  place : (q : Kind → Bool) (ks : List Kind) (at : ℕ) → at ≤ length ks → IsPartitionPoint (λ k. q k ≡ true) (λ k. q k ≡ false) ks at → at ≡ prefix_len q ks
  place q ks at within point = sym (prefix_len_is q ks at p within (λ i lt. point.0 i p (omega arith) lt) (λ lt. point.1 at p (omega arith) lt))

  -- where a search by a closure that tests what stands before ends
  pub before_place : {F : Type 0} {g : Mut F (Bor Kind × Unit {0}) Bool} {f : F} (ks : List Kind) (at : ℕ) → AreInOrder ks → at ≤ length ks
      → ((q : Kind → Bool) → ComputesKey g q f → IsPartitionedBy q ks → IsPartitionPoint (λ k. q k ≡ true) (λ k. q k ≡ false) ks at)
      → ((a : Bor Kind × Unit {0}) (r : Bool) (f' : F) → Called g f a r f' → (r ≡ before a.0.now) × (f' ≡ f)) → at ≡ prefix_len before ks
  before_place ks at h within clause calls =
      place before ks at within (IsPartitionPoint-from_clause before ks at clause (parted before before_along ks h) calls)

  -- and by one that tests what doesn't stand past it
  pub upto_place : {F : Type 0} {g : Mut F (Bor Kind × Unit {0}) Bool} {f : F} (ks : List Kind) (at : ℕ) → AreInOrder ks → at ≤ length ks
      → ((q : Kind → Bool) → ComputesKey g q f → IsPartitionedBy q ks → IsPartitionPoint (λ k. q k ≡ true) (λ k. q k ≡ false) ks at)
      → ((a : Bor Kind × Unit {0}) (r : Bool) (f' : F) → Called g f a r f' → (r ≡ upto a.0.now) × (f' ≡ f)) → at ≡ prefix_len upto ks
  upto_place ks at h within clause calls =
      place upto ks at within (IsPartitionPoint-from_clause upto ks at clause (parted upto upto_along ks h) calls)
