-- What is found among things that are tried one by one.
use Rattle.std.proofs.Common.{◌≡◌, ◌<◌, ◌+◌, ℕ, suc, Bool, true, false, List, ◌∷◌, Some, drop, drop-cons, get_or, length, map, ◌∙◌, arith, refl}
use Rattle.std.specs.Prelude.{find}

-- the first that is left, and the others
pub left : {X : Type 0} (xs : List X) (at : ℕ) (x : X) → at < length xs → x ≡ get_or xs at x → drop at xs ≡ x ∷ drop (at + 1) xs
left xs at x lt is =
    let next : at + 1 ≡ suc at = omega arith in
    drop-cons xs at x lt ∙ rw (next, ← is) refl

pub found : {A X : Type 0} (f : A → X) (p : X → Bool) (xs : List A) (at : ℕ) (x : A) → at < length xs → x ≡ get_or xs at x → p (f x) ≡ true
    → find p (map f (drop at xs)) ≡ Some (f x)
found f p xs at x lt is holds = rw (left xs at x lt is, holds) refl

pub passed : {A X : Type 0} (f : A → X) (p : X → Bool) (xs : List A) (at : ℕ) (x : A) → at < length xs → x ≡ get_or xs at x → p (f x) ≡ false
    → find p (map f (drop at xs)) ≡ find p (map f (drop (at + 1) xs))
passed f p xs at x lt is fails = rw (left xs at x lt is, fails) refl

pub found_self : {X : Type 0} (p : X → Bool) (xs : List X) (at : ℕ) (x : X) → at < length xs → x ≡ get_or xs at x → p x ≡ true → find p (drop at xs) ≡ Some x
found_self p xs at x lt is holds = rw (left xs at x lt is, holds) refl

pub passed_self : {X : Type 0} (p : X → Bool) (xs : List X) (at : ℕ) (x : X) → at < length xs → x ≡ get_or xs at x → p x ≡ false → find p (drop at xs) ≡ find p (drop (at + 1) xs)
passed_self p xs at x lt is fails = rw (left xs at x lt is, fails) refl
