-- Spans that are one too many, and numbers that more spans cover than may.
use Rattle.std.proofs.Common.{◌≡◌, ℕ, zero, suc, ◌+◌, ◌<◌, ◌≤◌, Bool, true, false, cond, ◌&&◌, List, [], ◌∷◌, length, take, refl, sym, ap, subst, ◌∙◌, Some, None, arith}
use Rattle.std.specs.List.{slice_get}
use Rattle.std.proofs.lemmas.List.Sums.{count_by-le-length}
use Rattle.std.proofs.lemmas.Cmp.{nat_list_cmp_total, tied_itself}
use Rattle.cat_tables.proofs.KeyLemmas.{key_eq}
use Rattle.cat_spans.specs.Spans.{Extent, covers, is_in, depth_at, IsPast, IsFirstPast, IsWithin, IsExceeded}
use Rattle.cat_spans.proofs.CountLemmas.{count, count_by-is}

-- ---- counts along the fronts of a list

module _ {X : Type 0} (p : X → Bool) where
  count-take-le : (n : ℕ) (xs : List X) → count p (take n xs) ≤ count p xs
  count-take-le zero xs = omega arith
  count-take-le (suc n) [] = omega arith
  count-take-le (suc n) (x ∷ xs) = let more = count-take-le n xs in omega arith

  -- one more, of which the element there is counted or not
  count-front : (xs : List X) (i : ℕ) → i < length xs → (x : X) × (slice_get xs i ≡ Some x) × (count p (take (suc i) xs) ≡ count p (take i xs) + cond (p x) 1 0)
  count-front [] i lt = absurd (omega arith)
  count-front (x ∷ xs) zero lt = (x, refl, omega arith)
  count-front (x ∷ xs) (suc i) lt = let rest = count-front xs i (omega arith) in (rest.0, rest.1, let e = rest.2 in omega arith)

  -- what is counted at j isn't counted before it
  count-past : (xs : List X) (j i : ℕ) (x : X) → slice_get xs j ≡ Some x → p x ≡ true → j < i → count p (take j xs) + 1 ≤ count p (take i xs)
  count-past [] j i x e h lt = absurd cc
  count-past (y ∷ ys) j zero x e h lt = absurd (omega arith)
  count-past (y ∷ ys) zero (suc i) x e h lt = let here : p y ≡ true = cc in rw here (omega arith)
  count-past (y ∷ ys) (suc j) (suc i) x e h lt = let rest = count-past ys j i x e h (omega arith) in omega arith

covered_in : (g : List ℕ) (s : ℕ) → Extent → Bool
covered_in g s x = is_in g x && covers s x

depth-is : (g : List ℕ) (s : ℕ) (xs : List Extent) → depth_at g s xs ≡ count (covered_in g s) xs
unfolding covered_in
depth-is g s xs = count_by-is (λ x. is_in g x && covers s x) xs

-- a span that covers a number is counted there
counted : (s : ℕ) (x : Extent) → covers s x ≡ true → covered_in x.group s x ≡ true
unfolding covered_in
counted s x h = rw (tied_itself nat_list_cmp_total x.group, h) refl

counts : (g : List ℕ) (s : ℕ) (x : Extent) → covered_in g s x ≡ true → (x.group ≡ g) × (covers s x ≡ true)
unfolding covered_in
counts g s x h = let both = and_true (is_in g x) (covers s x) h in (key_eq x.group g both.0, both.1)
  where
    and_true : (a b : Bool) → (a && b) ≡ true → (a ≡ true) × (b ≡ true)
    and_true true b h = (refl, h)
    and_true false b h = absurd cc

-- ---- the first span that is one too many

pub IsWithin-none : (limit : ℕ) → IsWithin limit []
IsWithin-none limit g s = omega arith

pub IsWithin-short : (limit : ℕ) (xs : List Extent) → length xs ≤ limit → IsWithin limit xs
IsWithin-short limit xs le g s = omega (arith, count_by-le-length (λ x. is_in g x && covers s x) xs)

-- some span is there
pub some_exceeds : (limit : ℕ) (xs : List Extent) → IsExceeded limit xs → 0 < length xs
some_exceeds limit [] h = let deep : limit < 0 = h.2 in omega arith
some_exceeds limit (x ∷ xs) h = omega arith

not_past : (limit : ℕ) (xs : List Extent) (i j : ℕ) → IsWithin limit (take i xs) → j < i → IsPast limit xs j → ⊥
not_past limit xs i j within lt past =
    let x = past.span in
    let more : count (covered_in x.group past.number) (take j xs) + 1 ≤ count (covered_in x.group past.number) (take i xs) =
    count-past (covered_in x.group past.number) xs j i x past.here (counted past.number x past.covered) lt in
    let deep : limit ≤ depth_at x.group past.number (take j xs) = past.earlier in
    let most : depth_at x.group past.number (take i xs) ≤ limit = within x.group past.number in
    omega (arith, depth-is x.group past.number (take j xs), depth-is x.group past.number (take i xs))

pub none_past : (limit : ℕ) (xs : List Extent) → IsWithin limit xs → IsFirstPast limit xs None
none_past limit xs within i past = not_past limit xs (suc i) i front (omega arith) past
  where
    front : IsWithin limit (take (suc i) xs)
    front g s =
        let all : depth_at g s xs ≤ limit = within g s in
        let fewer = count-take-le (covered_in g s) (suc i) xs in
        omega (arith, depth-is g s (take (suc i) xs), depth-is g s xs)

-- the limit holds for the first i spans, and not for one more
pub first_past_at : (limit : ℕ) (xs : List Extent) (i : ℕ) → i < length xs → IsWithin limit (take i xs) → IsExceeded limit (take (suc i) xs) → IsFirstPast limit xs (Some i)
first_past_at limit xs i lt within over =
    let g = over.0 in
    let s = over.1 in
    let one_more = count-front (covered_in g s) xs i lt in
    let before : depth_at g s (take i xs) ≤ limit = within g s in
    let deep : limit < depth_at g s (take (suc i) xs) = over.2 in
    let front = depth-is g s (take i xs) in
    let more : depth_at g s (take (suc i) xs) ≡ depth_at g s (take i xs) + cond (covered_in g s one_more.0) 1 0 =
    depth-is g s (take (suc i) xs) ∙ one_more.2 ∙ ap (λ n. n + cond (covered_in g s one_more.0) 1 0) (sym front) in
    (at g s one_more.0 one_more.1 before deep (covered_in g s one_more.0) refl more, λ j before past. not_past limit xs i j within before past)
  where
    at : (g : List ℕ) (s : ℕ) (x : Extent) → slice_get xs i ≡ Some x → depth_at g s (take i xs) ≤ limit → limit < depth_at g s (take (suc i) xs) → (b : Bool) → covered_in g s x ≡ b
        → depth_at g s (take (suc i) xs) ≡ depth_at g s (take i xs) + cond b 1 0 → IsPast limit xs i
    at g s x here before deep true e more =
        let is = counts g s x e in
        let P : List ℕ → Type 0 = λ h. limit ≤ depth_at h s (take i xs) in
        record { span = x; number = s; here = here; covered = is.1; earlier = subst P (sym is.0) (omega arith) }
    at g s x here before deep false e more = absurd (omega arith)
