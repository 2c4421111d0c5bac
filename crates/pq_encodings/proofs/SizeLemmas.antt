-- How many bytes levels and values take.
use Rattle.std.proofs.Common.{◌≡◌, ℕ, ℤ, zero, suc, ◌+◌, ◌*◌, ◌/◌, ◌%◌, ◌≤◌, nat_lt, List, [], ◌∷◌, ◌++◌, length, Bool, true, false, cond, refl, arith}
use Rattle.std.proofs.lemmas.List.{length-append}
use Rattle.std.proofs.lemmas.List.FromFn.{length-map-range_with_len}
use Rattle.std.proofs.lemmas.List.Sums.{sum_by-append}
use Rattle.std.specs.Int.{cast_unsigned, w32, w64}
use Rattle.std.specs.List.{flat_map, sum_by}
use Rattle.byteorder.specs.Endian.{little_bytes}
use Rattle.byteorder.specs.Numbers.{length-bytes_low_first}
use Rattle.pq_encodings.specs.Levels.{Run, level_bytes, level_of, onto_run, run_bytes, runs_of, same}
use Rattle.pq_encodings.specs.Plain.{bool_byte, string_bytes}
use Rattle.pq_encodings.specs.Values.{Values, bools, i32s, i64s, strings, plain_size, value_bytes}
use Rattle.pq_encodings.specs.Varint.{varint_bytes}

varint_size : (most n : ℕ) → length (varint_bytes most n) ≤ most + 1
varint_size zero n = omega arith
varint_size (suc most) n =
    let more = varint_size most (n / 128) in
    elim (nat_lt n 128) as (λ t. length (cond t (n ∷ []) ((n % 128 + 128) ∷ varint_bytes most (n / 128))) ≤ suc most + 1)
    [ true ↦ omega arith | false ↦ omega (arith, more) ]

run_size : (r : Run) → length (run_bytes r) ≤ 11
run_size r = omega (arith, length-append (varint_bytes 9 (2 * r.count)) (level_of r.value ∷ []), varint_size 9 (2 * r.count))

runs_size : (rs : List Run) → length (flat_map run_bytes rs) ≤ 11 * length rs
runs_size [] = omega arith
runs_size (r ∷ rs) = omega (arith, length-append (run_bytes r) (flat_map run_bytes rs), run_size r, runs_size rs)

one_run_more : (b : Bool) (rs : List Run) → length (onto_run b rs) ≤ length rs + 1
one_run_more b [] = omega arith
one_run_more b (r ∷ rs) =
    elim (same b r.value) as (λ t. length (cond t (record { value = b; count = r.count + 1 } ∷ rs) (record { value = b; count = 1 } ∷ r ∷ rs)) ≤ length (r ∷ rs) + 1)
    [ true ↦ omega arith | false ↦ omega arith ]

few_runs : (bs : List Bool) → length (runs_of bs) ≤ length bs
unfolding runs_of
few_runs [] = omega arith
few_runs (b ∷ bs) = omega (arith, one_run_more b (runs_of bs), few_runs bs)

pub level_bytes-size : (bs : List Bool) → length (level_bytes bs) ≤ 11 * length bs
level_bytes-size bs = omega (arith, runs_size (runs_of bs), few_runs bs)

i32_size : (xs : List ℤ) → length (flat_map (λ z. little_bytes 4 (cast_unsigned w32 z)) xs) ≡ 4 * length xs
i32_size [] = refl
i32_size (x ∷ xs) =
    let piece : ℤ → List ℕ = λ z. little_bytes 4 (cast_unsigned w32 z) in
    omega (arith, length-append (piece x) (flat_map piece xs), length-bytes_low_first 0 4 (cast_unsigned w32 x), i32_size xs)

i64_size : (xs : List ℤ) → length (flat_map (λ z. little_bytes 8 (cast_unsigned w64 z)) xs) ≡ 8 * length xs
i64_size [] = refl
i64_size (x ∷ xs) =
    let piece : ℤ → List ℕ = λ z. little_bytes 8 (cast_unsigned w64 z) in
    omega (arith, length-append (piece x) (flat_map piece xs), length-bytes_low_first 0 8 (cast_unsigned w64 x), i64_size xs)

strings_size : (xs : List (List ℕ)) → length (flat_map string_bytes xs) ≡ sum_by (λ x. 4 + length x) xs
strings_size [] = refl
strings_size (x ∷ xs) =
    let rest : List ℕ = flat_map string_bytes xs in
    let first : sum_by (λ (y : List ℕ). 4 + length y) (x ∷ xs) ≡ 4 + length x + sum_by (λ (y : List ℕ). 4 + length y) xs =
    omega (arith, sum_by-append (λ (y : List ℕ). 4 + length y) (x ∷ []) xs) in
    let whole : length ((little_bytes 4 (length x) ++ x) ++ rest) ≡ 4 + (length x + length rest) =
    omega (arith, length-append (little_bytes 4 (length x) ++ x) rest, length-append (little_bytes 4 (length x)) x, length-append x rest, length-bytes_low_first 0 4 (length x)) in
    omega (arith, first, whole, strings_size xs)

pub value_bytes-size : (vs : Values) → length (value_bytes vs) ≡ plain_size vs
value_bytes-size (bools xs) = length-map-range_with_len (λ k. bool_byte xs (8 * k)) 0 ((length xs + 7) / 8)
value_bytes-size (i32s xs) = i32_size xs
value_bytes-size (i64s xs) = i64_size xs
value_bytes-size (strings xs) = strings_size xs
