-- Variable-length numbers.
use Rattle.std.proofs.Common.{◌≡◌, ℕ, zero, suc, ◌+◌, ◌-◌, ◌*◌, ◌/◌, ◌%◌, ◌^◌, ◌<◌, ◌≤◌, inl, inr, List, [], ◌∷◌, length, true, false, cond, refl, ap, arith, nat_lt}
use Rattle.std.proofs.lemmas.Bool.{cases_lt, le-ltb, lt-ltb}
use Rattle.std.proofs.lemmas.Nat.{shr_below}
use Rattle.pq_encodings.specs.Varint.{IsVarint, varint_bytes}

-- a number of two bytes or more
pub varint_bytes-more : (most n : ℕ) → 0 < most → 128 ≤ n → varint_bytes most n ≡ (n % 128 + 128) ∷ varint_bytes (most - 1) (n / 128)
varint_bytes-more zero n h k = absurd (omega arith)
varint_bytes-more (suc most) n h k =
    let test : nat_lt n 128 ≡ false = grind arith in
    rw test (ap (λ m. (n % 128 + 128) ∷ varint_bytes m (n / 128)) (omega arith))

pub smaller : (most n : ℕ) → 0 < most → n < 2 ^ (7 * most + 1) → n / 128 < 2 ^ (7 * (most - 1) + 1)
smaller most n h fits =
    let e : 7 * most + 1 ≡ 7 * (most - 1) + 1 + 7 = omega arith in
    shr_below n (7 * (most - 1) + 1) 7 (rw (← e) fits)

-- ---- The shortest form spells its number

longer : (b high n : ℕ) (rest : List ℕ) → 128 ≤ b → n ≡ b - 128 + 128 * high → IsVarint rest high → IsVarint (b ∷ rest) n
longer b high n [] h e spelled = absurd spelled
longer b high n (c ∷ cs) h e spelled = (h, high, e, spelled)

pub varint_bytes-spelled : (most n : ℕ) → n < 2 ^ (7 * most + 1) → IsVarint (varint_bytes most n) n
varint_bytes-spelled zero n fits = (omega arith, refl)
varint_bytes-spelled (suc most) n fits =
    elim (cases_lt n 128) [
      | inl p ↦
          let low : nat_lt n 128 ≡ true = lt-ltb n 128 p in
          rw low (p, refl)
      | inr p ↦
          let high : nat_lt n 128 ≡ false = le-ltb n 128 p in
          let rest : n / 128 < 2 ^ (7 * (suc most - 1) + 1) = smaller (suc most) n (omega arith) fits in
          let same : suc most - 1 ≡ most = omega arith in
          rw high (longer (n % 128 + 128) (n / 128) n (varint_bytes most (n / 128)) (omega arith) (omega arith)
          (varint_bytes-spelled most (n / 128) (rw same at rest)))
    ]

pub length-varint_bytes : (most n : ℕ) → length (varint_bytes most n) ≤ most + 1
length-varint_bytes zero n = omega arith
length-varint_bytes (suc most) n =
    elim (nat_lt n 128) as (λ t. length (cond t (n ∷ []) ((n % 128 + 128) ∷ varint_bytes most (n / 128))) ≤ suc most + 1)
    [ true ↦ omega arith | false ↦ omega (arith, length-varint_bytes most (n / 128)) ]
