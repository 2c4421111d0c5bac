-- What is left without places that rise, in one pass over both.
use Rattle.std.proofs.Common.{◌≡◌, ◌≤◌, ◌<◌, ◌+◌, ◌==◌, ◌&&◌, ℕ, zero, suc, Bool, true, false, cond, nat_le, nat_lt, List, [], ◌∷◌, ◌++◌, length, map, drop, get_or, All, AllPairs, append_assoc, drop-cons, refl, sym, ap, subst, ◌∙◌, arith}
use Rattle.std.specs.List.{list_any}
use Rattle.std.proofs.lemmas.Bool.{and_parts, eqb-true, leb-true, ltb-true}
use Rattle.std.proofs.lemmas.List.Elements.{All-cons, All-head, All-nil, All-tail}
use Rattle.sheet_rows.specs.Live.{begins, left_from, rise_within}

-- ---- numbers that rise

record Rises (least limit n : ℕ) (ns : List ℕ) : Type 0 where
  first : least ≤ n
  below : n < limit
  more : rise_within (n + 1) limit ns ≡ true

rises : (least limit n : ℕ) (ns : List ℕ) → rise_within least limit (n ∷ ns) ≡ true → Rises least limit n ns
rises least limit n ns h =
    let one = and_parts (nat_le least n) (nat_lt n limit && rise_within (n + 1) limit ns) h in
    let two = and_parts (nat_lt n limit) (rise_within (n + 1) limit ns) one.1 in
    record { first = leb-true least n one.0; below = ltb-true n limit two.0; more = two.1 }

from_next : (least limit n : ℕ) (ns : List ℕ) → least ≤ n → n < limit → rise_within (n + 1) limit ns ≡ true → rise_within least limit (n ∷ ns) ≡ true
from_next least limit n ns first below more =
    let one : nat_le least n ≡ true = grind (arith, first) in
    let two : nat_lt n limit ≡ true = grind (arith, below) in
    rw (one, two) more

-- what lies below none of them is none of them
none_below : (p least limit : ℕ) (ns : List ℕ) → p < least → rise_within least limit ns ≡ true → list_any (λ n. n == p) ns ≡ false
none_below p least limit [] lt h = refl
none_below p least limit (n ∷ ns) lt h =
    let is = rises least limit n ns h in
    let other : (n == p) ≡ false = (let far : p < n = omega (arith, is.first) in grind (arith, far)) in
    rw other (none_below p (n + 1) limit ns (omega (arith, is.first)) is.more)

-- ---- one place after the other

-- a number below all places takes none away
skip : {X : Type 0} (n p : ℕ) (gone : List ℕ) (xs : List X) → n < p → left_from p (n ∷ gone) xs ≡ left_from p gone xs
skip n p gone [] lt = refl
skip n p gone (x ∷ xs) lt =
    let other : (n == p) ≡ false = grind (arith, lt) in
    rw other (go (list_any (λ m. m == p) gone) (skip n (p + 1) gone xs (omega arith)))
  where
    go : (b : Bool) → left_from (p + 1) (n ∷ gone) xs ≡ left_from (p + 1) gone xs
        → cond b (left_from (p + 1) (n ∷ gone) xs) (x ∷ left_from (p + 1) (n ∷ gone) xs) ≡ cond b (left_from (p + 1) gone xs) (x ∷ left_from (p + 1) gone xs)
    go true more = more
    go false more = ap (λ l. x ∷ l) more

-- the place is the first of those that are gone
pub gone_turn : (limit at : ℕ) (rest xs : List ℕ) (d : ℕ) → at < length xs → begins rest at ≡ true → rise_within at limit rest ≡ true
    → left_from at rest (drop at xs) ≡ left_from (at + 1) (drop 1 rest) (drop (at + 1) xs)
gone_turn limit at [] xs d lt is h = absurd (cc is)
gone_turn limit at (n ∷ ns) xs d lt is h =
    let same : n ≡ at = eqb-true n at is in
    let step : at + 1 ≡ suc at = omega arith in
    ap (left_from at (n ∷ ns)) (drop-cons xs at d lt) ∙ rw is (skip n (at + 1) ns (drop (suc at) xs) (omega (arith, same)))
    ∙ ap (λ k. left_from (at + 1) ns (drop k xs)) (sym step)

pub gone_rises : (limit at : ℕ) (rest : List ℕ) → begins rest at ≡ true → rise_within at limit rest ≡ true → rise_within (at + 1) limit (drop 1 rest) ≡ true
gone_rises limit at [] is h = absurd (cc is)
gone_rises limit at (n ∷ ns) is h = subst (λ k. rise_within (k + 1) limit ns ≡ true) (eqb-true n at is) (rises at limit n ns h).more

-- the place is none of those that are gone
stays : (limit at : ℕ) (rest : List ℕ) → begins rest at ≡ false → rise_within at limit rest ≡ true → list_any (λ n. n == at) rest ≡ false
stays limit at [] is h = refl
stays limit at (n ∷ ns) is h =
    let rise = rises at limit n ns h in
    rw is (none_below at (n + 1) limit ns (omega (arith, rise.first)) rise.more)

pub stay_turn : (limit at : ℕ) (rest xs : List ℕ) (d : ℕ) → at < length xs → begins rest at ≡ false → rise_within at limit rest ≡ true
    → left_from at rest (drop at xs) ≡ get_or xs at d ∷ left_from (at + 1) rest (drop (at + 1) xs)
stay_turn limit at rest xs d lt is h =
    let step : at + 1 ≡ suc at = omega arith in
    ap (left_from at rest) (drop-cons xs at d lt) ∙ rw (stays limit at rest is h) refl
    ∙ ap (λ k. get_or xs at d ∷ left_from (at + 1) rest (drop k xs)) (sym step)

pub stay_rises : (limit at : ℕ) (rest : List ℕ) → begins rest at ≡ false → rise_within at limit rest ≡ true → rise_within (at + 1) limit rest ≡ true
stay_rises limit at [] is h = refl
stay_rises limit at (n ∷ ns) is h =
    let rise = rises at limit n ns h in
    let other : n ≡ at → ⊥ = λ e. (let same : (n == at) ≡ true = grind (arith, e) in absurd (cc (same, is))) in
    from_next (at + 1) limit n ns (omega (arith, rise.first, other)) rise.below rise.more

-- what is left so far, and what is still to come
pub gone_step : (limit at : ℕ) (left new rest more xs all : List ℕ) (d : ℕ) → at < length xs → begins rest at ≡ true → rise_within at limit rest ≡ true
    → left ++ left_from at rest (drop at xs) ≡ all → new ≡ left → more ≡ drop 1 rest → new ++ left_from (at + 1) more (drop (at + 1) xs) ≡ all
gone_step limit at left new rest more xs all d lt is rise same made left_over =
    rw (made, left_over) (ap (λ l. left ++ l) (sym (gone_turn limit at rest xs d lt is rise)) ∙ same)

pub stay_step : (limit at place : ℕ) (left new rest more xs all : List ℕ) → at < length xs → place ≡ get_or xs at place → begins rest at ≡ false → rise_within at limit rest ≡ true
    → left ++ left_from at rest (drop at xs) ≡ all → new ≡ left ++ place ∷ [] → more ≡ rest → new ++ left_from (at + 1) more (drop (at + 1) xs) ≡ all
stay_step limit at place left new rest more xs all lt read is rise same made left_over =
    let turn : left_from at rest (drop at xs) ≡ place ∷ left_from (at + 1) rest (drop (at + 1) xs) =
    stay_turn limit at rest xs place lt is rise ∙ ap (λ p. p ∷ left_from (at + 1) rest (drop (at + 1) xs)) (sym read) in
    rw (made, left_over) (append_assoc left (place ∷ []) (left_from (at + 1) rest (drop (at + 1) xs)) ∙ ap (λ l. left ++ l) (sym turn) ∙ same)

-- ---- what is left of other lists

pub map-left_from : {X Y : Type 0} (f : X → Y) (p : ℕ) (gone : List ℕ) (xs : List X) → map f (left_from p gone xs) ≡ left_from p gone (map f xs)
map-left_from f p gone [] = refl
map-left_from f p gone (x ∷ xs) = go (list_any (λ n. n == p) gone) (map-left_from f (p + 1) gone xs)
  where
    go : (b : Bool) → map f (left_from (p + 1) gone xs) ≡ left_from (p + 1) gone (map f xs)
        → map f (cond b (left_from (p + 1) gone xs) (x ∷ left_from (p + 1) gone xs)) ≡ cond b (left_from (p + 1) gone (map f xs)) (f x ∷ left_from (p + 1) gone (map f xs))
    go true more = more
    go false more = ap (λ l. f x ∷ l) more

pub All-left_from : {X : Type 0} (P : X → Type 0) (p : ℕ) (gone : List ℕ) (xs : List X) → All P xs → All P (left_from p gone xs)
All-left_from P p gone [] all = all
All-left_from P p gone (x ∷ xs) all = go (list_any (λ n. n == p) gone) (All-left_from P (p + 1) gone xs (All-tail P x xs all))
  where
    go : (b : Bool) → All P (left_from (p + 1) gone xs) → All P (cond b (left_from (p + 1) gone xs) (x ∷ left_from (p + 1) gone xs))
    go true more = more
    go false more = All-cons P x (left_from (p + 1) gone xs) (All-head P x xs all) more

-- ---- the law of places

at_least : (least limit : ℕ) (ns : List ℕ) → rise_within least limit ns ≡ true → All (λ n. least ≤ n) ns
at_least least limit [] h = All-nil (λ n. least ≤ n)
at_least least limit (n ∷ ns) h =
    let rise = rises least limit n ns h in
    let more = at_least (n + 1) limit ns rise.more in
    All-cons (λ m. least ≤ m) n ns rise.first (λ k d lt. omega (arith, more k d lt, rise.first))

pub all_below : (least limit : ℕ) (ns : List ℕ) → rise_within least limit ns ≡ true → All (λ n. n < limit) ns
all_below least limit [] h = All-nil (λ n. n < limit)
all_below least limit (n ∷ ns) h =
    let rise = rises least limit n ns h in
    All-cons (λ m. m < limit) n ns rise.below (all_below (n + 1) limit ns rise.more)

pub all_rise : (least limit : ℕ) (ns : List ℕ) → rise_within least limit ns ≡ true → AllPairs (λ (a b : ℕ). a < b) ns
all_rise least limit [] h = λ i j d lt short. absurd (omega arith)
all_rise least limit (n ∷ ns) h =
    let rise = rises least limit n ns h in
    let above = at_least (n + 1) limit ns rise.more in
    let more = all_rise (n + 1) limit ns rise.more in
    λ i j d lt short. pair i j d lt short above more
  where
    pair : (i j d : ℕ) → i < j → j < length (n ∷ ns) → All (λ m. n + 1 ≤ m) ns → AllPairs (λ (a b : ℕ). a < b) ns → get_or (n ∷ ns) i d < get_or (n ∷ ns) j d
    pair i zero d lt short above more = absurd (omega arith)
    pair zero (suc j) d lt short above more = omega (arith, above j d (omega arith))
    pair (suc i) (suc j) d lt short above more = more i j d (omega arith) (omega arith)
