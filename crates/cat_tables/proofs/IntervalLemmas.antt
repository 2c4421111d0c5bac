-- Numbers before the ends of intervals.
use Rattle.std.proofs.Common.{◌≡◌, ℕ, ◌≤◌, ◌<◌, Bool, true, false, Option, Some, None, refl, max, arith}
use Rattle.std.specs.Prelude.{nat_le, nat_lt}
use Rattle.std.proofs.lemmas.Bool.Decides.{nat_tests}
use Rattle.cat_tables.specs.Interval.{sooner_end}
use Rattle.cat_tables.specs.Validity.{is_before}

-- before an end, a number up to another one before it
pub is_before-down : (m n : ℕ) (e : Option ℕ) → m ≤ n → is_before n e ≡ true → is_before m e ≡ true
is_before-down m n None le h = refl
is_before-down m n (Some k) le h = grind (arith, nat_tests)

pub is_before-max : (a b : ℕ) (e : Option ℕ) → is_before a e ≡ true → is_before b e ≡ true → is_before (max a b) e ≡ true
is_before-max a b None p q = refl
is_before-max a b (Some n) p q = grind (arith, nat_tests)

-- what is before the sooner of two ends is before both
pub before_both : (s : ℕ) (e f : Option ℕ) → is_before s (sooner_end e f) ≡ true → (is_before s e ≡ true) × (is_before s f ≡ true)
before_both s None None h = (refl, refl)
before_both s None (Some n) h = (refl, h)
before_both s (Some m) None h = (h, refl)
before_both s (Some m) (Some n) h = (grind (arith, nat_tests), grind (arith, nat_tests))

pub both_before : (s : ℕ) (e f : Option ℕ) → is_before s e ≡ true → is_before s f ≡ true → is_before s (sooner_end e f) ≡ true
both_before s None f h k = k
both_before s (Some m) None h k = h
both_before s (Some m) (Some n) h k = grind (arith, nat_tests)
