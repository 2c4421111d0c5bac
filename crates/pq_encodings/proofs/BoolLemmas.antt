-- Bits that are added up.
use Rattle.std.proofs.Common.{◌≡◌, ℕ, zero, suc, ◌+◌, ◌*◌, ◌%◌, ◌^◌, ◌<◌, ◌≤◌, List, Bool, true, false, cond, get_or, refl, ap, ◌∙◌, arith}
use Rattle.std.proofs.Math.Nat.{mod-eq_of_lt, pow-le-pow_right, pow-succ'}
use Rattle.std.proofs.lemmas.Nat.{mul-le}
use Rattle.pq_encodings.specs.Bits.{number_of_bits}
use Rattle.pq_encodings.specs.Plain.{bool_bit}

-- a number of n bits is below 2 ^ n
pub number_of_bits-lt : (n : ℕ) (f : ℕ → ℕ) → ((j : ℕ) → f j < 2) → number_of_bits n f < 2 ^ n
unfolding number_of_bits
number_of_bits-lt zero f small = omega arith
number_of_bits-lt (suc n) f small =
    let rest : number_of_bits n f < 2 ^ n = number_of_bits-lt n f small in
    let top : f n * 2 ^ n ≤ 1 * 2 ^ n = mul-le (f n) (2 ^ n) 1 (2 ^ n) (omega (arith, small n)) (omega arith) in
    rw (pow-succ' 2 n) (omega arith)

-- a bit in a byte's place n
pub shifted_bit : (n b : ℕ) → n < 8 → b < 2 → b * 2 ^ n % 2 ^ 8 ≡ b * 2 ^ n
shifted_bit n b h small =
    let place : n ≤ 7 = omega arith in
    let most : 2 ^ n ≤ 2 ^ 7 = pow-le-pow_right (omega arith) place in
    let top : b * 2 ^ n ≤ 1 * 2 ^ n = mul-le b (2 ^ n) 1 (2 ^ n) (omega arith) (omega arith) in
    mod-eq_of_lt (omega arith)

-- one bit more
pub number_of_bits-more : (n : ℕ) (f : ℕ → ℕ) → number_of_bits (n + 1) f ≡ number_of_bits n f + f n * 2 ^ n
unfolding number_of_bits
number_of_bits-more n f =
    let e : n + 1 ≡ suc n = omega arith in
    ap (λ m. number_of_bits m f) e ∙ omega arith

pub byte_small : (n : ℕ) (f : ℕ → ℕ) → ((j : ℕ) → f j < 2) → n < 8 → number_of_bits n f + f n * 2 ^ n < 256
byte_small n f small h =
    let all : number_of_bits (n + 1) f < 2 ^ (n + 1) = number_of_bits-lt (n + 1) f small in
    let place : n + 1 ≤ 8 = omega arith in
    let most : 2 ^ (n + 1) ≤ 2 ^ 8 = pow-le-pow_right (omega arith) place in
    omega (arith, number_of_bits-more n f)

pub bool_bit-lt : (xs : List Bool) (k : ℕ) → bool_bit xs k < 2
bool_bit-lt xs k = elim (get_or xs k false) as (λ b. cond b 1 0 < 2) [ true ↦ omega arith | false ↦ omega arith ]

-- eight bits of a list of booleans, added up one by one
abbrev pub bits_from : List Bool → ℕ → ℕ → ℕ
bits_from xs first n = number_of_bits n (λ j. bool_bit xs (first + j))

pub bits_from-zero : (xs : List Bool) (first : ℕ) → 0 ≡ bits_from xs first 0
unfolding number_of_bits
bits_from-zero xs first = refl

pub bits_from-more : (xs : List Bool) (first n b byte : ℕ) → n < 8 → b ≡ bool_bit xs (first + n) → byte ≡ bits_from xs first n →
    (byte + b * 2 ^ n % 2 ^ 8 ≡ bits_from xs first (n + 1)) × (byte + b * 2 ^ n % 2 ^ 8 < 256)
bits_from-more xs first n b byte h here so_far =
    let f : ℕ → ℕ = λ j. bool_bit xs (first + j) in
    let low : (j : ℕ) → f j < 2 = λ j. bool_bit-lt xs (first + j) in
    let shifted : b * 2 ^ n % 2 ^ 8 ≡ b * 2 ^ n = shifted_bit n b h (rw here (low n)) in
    let bit : b * 2 ^ n ≡ f n * 2 ^ n = ap (λ x. x * 2 ^ n) here in
    (omega (arith, number_of_bits-more n f), omega (arith, byte_small n f low h))
