-- What was written is read again.
use Rattle.std.proofs.Common.{◌≡◌, ℕ, ℤ, pos, zero, suc, ◌+◌, ◌-◌, ◌*◌, ◌/◌, ◌%◌, ◌^◌, ◌<◌, ◌≤◌, inl, inr, List, [], ◌∷◌, ◌++◌, length, take, drop, map, get_or, All, Result, Ok, Err, Bool, true, false, cond, refl, sym, ap, ◌∙◌, arith, append_assoc, length-append, nat_eq, nat_lt}
use mir.Val.{SFits}
use Rattle.std.proofs.Math.Facts.{Fits-of_z}
use Rattle.std.proofs.Math.Seq.{drop-append-add, drop-append_seam, take-append_seam}
use Rattle.std.proofs.lemmas.Bool.{cases_lt, le-ltb}
use Rattle.std.proofs.lemmas.Int.{to_z-of_z}
use Rattle.std.proofs.Math.ListN.{get_or-append}
use Rattle.std.proofs.lemmas.List.Elements.{All-head, All-tail}
use Rattle.std.proofs.lemmas.List.FromFn.{fill_by_all, get_or-map-range_with_len, length-map-range_with_len}
use Rattle.std.proofs.lemmas.Nat.Bits.{bit_at_cat_high, bit_at_cat_low, bit_at_lowest}
use Rattle.std.specs.Int.{bit_at, cast_signed, cast_unsigned, w32, w64}
use Rattle.std.specs.List.{flat_map, range_with_len}
use Rattle.byteorder.specs.Endian.{little_bytes, little_number}
use Rattle.byteorder.specs.Numbers.{length-bytes_low_first, little_number-reads_back}
use Rattle.pq_encodings.specs.declared.fault.EncFault.{EncFault}
use Rattle.pq_encodings.specs.declared.fault.EncFault.TheVariants as fault
use Rattle.pq_encodings.specs.Bits.{number_of_bits}
use Rattle.pq_encodings.specs.declared.strings.TheConstants.{MAX_STRING}
use Rattle.pq_encodings.specs.Plain.{bool_at, bool_bit, bool_byte, bool_bytes, bools_in, i32_bytes, i32s_in, i64_bytes, i64s_in, onto, string_at, string_bytes, strings_at, strings_bytes, then_more}
use Rattle.pq_encodings.specs.Values.{AreInRange, AreShort, IsReadAgain, Values, bools, i32s, i64s, made, strings, value_bytes}
use Rattle.pq_encodings.proofs.BoolLemmas.{bool_bit-lt, number_of_bits-lt}

-- ---- Numbers: pieces of n bytes, of which value reads the one at the front

-- what stands at a value's place
piece_at : {X : Type 0} (n : ℕ) (piece : X → List ℕ) → ((x : X) → length (piece x) ≡ n) → (xs : List X) (rest : List ℕ) (d : X) (k : ℕ) → k < length xs →
    (more : List ℕ) × (drop (n * k) (flat_map piece xs ++ rest) ≡ piece (get_or xs k d) ++ more)
piece_at n piece sized [] rest d k h = absurd (omega arith)
piece_at n piece sized (x ∷ xs) rest d zero h =
    let start : n * 0 ≡ 0 = omega arith in
    (flat_map piece xs ++ rest, ap (λ m. drop m ((piece x ++ flat_map piece xs) ++ rest)) start ∙ append_assoc (piece x) (flat_map piece xs) rest)
piece_at n piece sized (x ∷ xs) rest d (suc k) h =
    let place : n * suc k ≡ length (piece x) + n * k = omega (arith, sized x) in
    let later = piece_at n piece sized xs rest d k (omega arith) in (
      later.0,
      ap (λ m. drop m ((piece x ++ flat_map piece xs) ++ rest)) place
          ∙ ap (λ ys. drop (length (piece x) + n * k) ys) (append_assoc (piece x) (flat_map piece xs) rest)
          ∙ drop-append-add (piece x) (flat_map piece xs ++ rest) (n * k)
          ∙ later.1,
    )

length_pieces : {X : Type 0} (n : ℕ) (piece : X → List ℕ) → ((x : X) → length (piece x) ≡ n) → (xs : List X) → length (flat_map piece xs) ≡ n * length xs
length_pieces n piece sized [] = omega arith
length_pieces n piece sized (x ∷ xs) = omega (arith, length-append (piece x) (flat_map piece xs), sized x, length_pieces n piece sized xs)

values_again : {X : Type 0} (n : ℕ) (piece : X → List ℕ) (value : List ℕ → X) → ((x : X) → length (piece x) ≡ n) → (xs : List X) (rest : List ℕ) (d : X) →
    ((k : ℕ) (more : List ℕ) → k < length xs → value (piece (get_or xs k d) ++ more) ≡ get_or xs k d) →
    map (λ k. value (drop (n * k) (flat_map piece xs ++ rest))) (range_with_len 0 (length xs)) ≡ xs
values_again n piece value sized xs rest d same =
    sym (fill_by_all (λ k. value (drop (n * k) (flat_map piece xs ++ rest))) xs (length xs) d refl (λ k h.
    let here = piece_at n piece sized xs rest d k h in
    sym (ap value here.1 ∙ same k here.0 h)))

i64_again : (z : ℤ) (more : List ℕ) → SFits w64 z → cast_signed w64 (little_number 8 (little_bytes 8 (cast_unsigned w64 z) ++ more)) ≡ z
i64_again z more fits =
    let small : cast_unsigned w64 z < 256 ^ 8 = omega (arith, Fits-of_z fits) in
    ap (λ m. cast_signed w64 m) (little_number-reads_back 8 (cast_unsigned w64 z) more small) ∙ to_z-of_z w64 z fits

i64s_in-bytes : (xs : List ℤ) (rest : List ℕ) → All (λ z. SFits w64 z) xs → i64s_in (i64_bytes xs ++ rest) (length xs) ≡ Ok xs
i64s_in-bytes xs rest fits =
    let piece : ℤ → List ℕ = λ z. little_bytes 8 (cast_unsigned w64 z) in
    let value : List ℕ → ℤ = λ bytes. cast_signed w64 (little_number 8 bytes) in
    let sized : (z : ℤ) → length (piece z) ≡ 8 = λ z. length-bytes_low_first 0 8 (cast_unsigned w64 z) in
    let enough : length xs ≤ length (i64_bytes xs ++ rest) / 8 = omega (arith, length-append (i64_bytes xs) rest, length_pieces 8 piece sized xs) in
    let held : nat_lt (length (i64_bytes xs ++ rest) / 8) (length xs) ≡ false = le-ltb (length (i64_bytes xs ++ rest) / 8) (length xs) enough in
    rw held (ap (λ (ys : List ℤ). Ok ys) (values_again 8 piece value sized xs rest (pos 0) (λ k more h. i64_again (get_or xs k (pos 0)) more (fits k (pos 0) h))))

i32_again : (z : ℤ) (more : List ℕ) → SFits w32 z → cast_signed w32 (little_number 4 (little_bytes 4 (cast_unsigned w32 z) ++ more)) ≡ z
i32_again z more fits =
    let small : cast_unsigned w32 z < 256 ^ 4 = omega (arith, Fits-of_z fits) in
    ap (λ m. cast_signed w32 m) (little_number-reads_back 4 (cast_unsigned w32 z) more small) ∙ to_z-of_z w32 z fits

i32s_in-bytes : (xs : List ℤ) (rest : List ℕ) → All (λ z. SFits w32 z) xs → i32s_in (i32_bytes xs ++ rest) (length xs) ≡ Ok xs
i32s_in-bytes xs rest fits =
    let piece : ℤ → List ℕ = λ z. little_bytes 4 (cast_unsigned w32 z) in
    let value : List ℕ → ℤ = λ bytes. cast_signed w32 (little_number 4 bytes) in
    let sized : (z : ℤ) → length (piece z) ≡ 4 = λ z. length-bytes_low_first 0 4 (cast_unsigned w32 z) in
    let enough : length xs ≤ length (i32_bytes xs ++ rest) / 4 = omega (arith, length-append (i32_bytes xs) rest, length_pieces 4 piece sized xs) in
    let held : nat_lt (length (i32_bytes xs ++ rest) / 4) (length xs) ≡ false = le-ltb (length (i32_bytes xs ++ rest) / 4) (length xs) enough in
    rw held (ap (λ (ys : List ℤ). Ok ys) (values_again 4 piece value sized xs rest (pos 0) (λ k more h. i32_again (get_or xs k (pos 0)) more (fits k (pos 0) h))))

-- ---- Booleans

bit_at-number_of_bits : (w : ℕ) (f : ℕ → ℕ) → ((j : ℕ) → f j < 2) → (j : ℕ) → j < w → bit_at (number_of_bits w f) j ≡ f j
unfolding number_of_bits
bit_at-number_of_bits zero f small j h = absurd (omega arith)
bit_at-number_of_bits (suc w) f small j h =
    elim (cases_lt j w) [
      | inl p ↦ bit_at_cat_low (f w) w (number_of_bits w f) j p ∙ bit_at-number_of_bits w f small j p
      | inr p ↦
          let last : j ≡ w = omega arith in
          let none : w - w ≡ 0 = omega arith in
          let one : f w % 2 ≡ f w = omega (arith, small w) in
          rw last (bit_at_cat_high (f w) w (number_of_bits w f) w (number_of_bits-lt w f small) (omega arith)
          ∙ ap (λ i. bit_at (f w) i) none ∙ bit_at_lowest (f w) ∙ one)
    ]

pub is_one : (b : Bool) → nat_eq (cond b 1 0) 1 ≡ b
is_one true = refl
is_one false = refl

bool_again : (xs : List Bool) (rest : List ℕ) (k : ℕ) → k < length xs → bool_at (bool_bytes xs ++ rest) k ≡ get_or xs k false
bool_again xs rest k h =
    let bytes : List ℕ = bool_bytes xs in
    let count : ℕ = (length xs + 7) / 8 in
    let f : ℕ → ℕ = λ j. bool_bit xs (8 * (k / 8) + j) in
    let size : length bytes ≡ count = length-map-range_with_len (λ i. bool_byte xs (8 * i)) 0 count in
    let byte : get_or (bytes ++ rest) (k / 8) 0 ≡ bool_byte xs (8 * (k / 8)) =
    get_or-append bytes rest 0 (k / 8) (omega arith) ∙ get_or-map-range_with_len (λ i. bool_byte xs (8 * i)) 0 count (k / 8) (k / 8) 0 (omega arith) (omega arith) in
    let bit : bit_at (bool_byte xs (8 * (k / 8))) (k % 8) ≡ f (k % 8) = bit_at-number_of_bits 8 f (λ j. bool_bit-lt xs (8 * (k / 8) + j)) (k % 8) (omega arith) in
    let place : 8 * (k / 8) + k % 8 ≡ k = omega arith in
    ap (λ x. nat_eq (bit_at x (k % 8)) 1) byte ∙ ap (λ x. nat_eq x 1) (bit ∙ ap (λ i. bool_bit xs i) place) ∙ is_one (get_or xs k false)

bools_in-bytes : (xs : List Bool) (rest : List ℕ) → bools_in (bool_bytes xs ++ rest) (length xs) ≡ Ok xs
bools_in-bytes xs rest =
    let bytes : List ℕ = bool_bytes xs ++ rest in
    let size : length (bool_bytes xs) ≡ (length xs + 7) / 8 = length-map-range_with_len (λ i. bool_byte xs (8 * i)) 0 ((length xs + 7) / 8) in
    let enough : length xs ≤ 8 * length bytes = omega (arith, length-append (bool_bytes xs) rest) in
    let held : nat_lt (8 * length bytes) (length xs) ≡ false = le-ltb (8 * length bytes) (length xs) enough in
    rw held (ap (λ (ys : List Bool). Ok ys) (sym (fill_by_all (bool_at bytes) xs (length xs) false refl (λ k h. sym (bool_again xs rest k h)))))

-- ---- Byte strings

-- a byte string from its length
abbrev string_of : List ℕ → ℕ → ℕ → Result (List ℕ × ℕ) EncFault
string_of bytes at size =
    cond (nat_lt (length bytes) (at + 4)) (Err (fault.Short at))
    (cond (nat_lt MAX_STRING size) (Err (fault.LongCell at size))
    (cond (nat_lt (length bytes) (at + 4 + size)) (Err (fault.Short at))
    (Ok (take size (drop (at + 4) bytes), at + 4 + size))))

-- a byte string is read where its parts stand
string_at-parts : (bytes x : List ℕ) (at size : ℕ) → little_number 4 (drop at bytes) ≡ size → size ≤ MAX_STRING → at + 4 + size ≤ length bytes →
    take size (drop (at + 4) bytes) ≡ x → string_at bytes at ≡ Ok (x, at + 4 + size)
string_at-parts bytes x at size number short whole text =
    let first : nat_lt (length bytes) (at + 4) ≡ false = le-ltb (length bytes) (at + 4) (omega arith) in
    let few : nat_lt MAX_STRING size ≡ false = le-ltb MAX_STRING size short in
    let last : nat_lt (length bytes) (at + 4 + size) ≡ false = le-ltb (length bytes) (at + 4 + size) whole in
    let read : string_of bytes at size ≡ Ok (x, at + 4 + size) = rw (first, few, last) (ap (λ (ys : List ℕ). Ok (ys, at + 4 + size)) text) in
    ap (λ n. string_of bytes at n) number ∙ read

string_at-bytes : (front x tail : List ℕ) → length x ≤ MAX_STRING → string_at (front ++ (string_bytes x ++ tail)) (length front) ≡ Ok (x, length front + 4 + length x)
string_at-bytes front x tail short =
    let size : ℕ = length x in
    let head : List ℕ = little_bytes 4 size in
    let four : length head ≡ 4 = length-bytes_low_first 0 4 size in
    let bytes : List ℕ = front ++ (string_bytes x ++ tail) in
    let here : drop (length front) bytes ≡ head ++ (x ++ tail) = drop-append_seam front (string_bytes x ++ tail) ∙ append_assoc head x tail in
    let number : little_number 4 (drop (length front) bytes) ≡ size = ap (λ ys. little_number 4 ys) here ∙ little_number-reads_back 4 size (x ++ tail) (omega arith) in
    let behind : drop (length front + 4) bytes ≡ x ++ tail =
    ap (λ n. drop (length front + n) bytes) (sym four) ∙ drop-append-add front (string_bytes x ++ tail) (length head) ∙ ap (λ ys. drop (length head) ys) (append_assoc head x tail)
    ∙ drop-append_seam head (x ++ tail) in
    let whole : length front + 4 + size ≤ length bytes =
    omega (arith, length-append front (string_bytes x ++ tail), length-append (string_bytes x) tail, length-append head x) in
    string_at-parts bytes x (length front) size number short whole (ap (λ ys. take size ys) behind ∙ take-append_seam x tail)

strings_at-bytes : (xs : List (List ℕ)) (front rest : List ℕ) → All (λ x. length x ≤ MAX_STRING) xs → strings_at (length xs) (front ++ (strings_bytes xs ++ rest)) (length front) ≡ Ok xs
unfolding strings_at
strings_at-bytes [] front rest short = refl
strings_at-bytes (x ∷ xs) front rest short =
    let tail : List ℕ = strings_bytes xs ++ rest in
    let bytes : List ℕ = front ++ (string_bytes x ++ tail) in
    let next : ℕ = length front + 4 + length x in
    let regrouped : front ++ ((string_bytes x ++ strings_bytes xs) ++ rest) ≡ bytes = ap (λ ys. front ++ ys) (append_assoc (string_bytes x) (strings_bytes xs) rest) in
    let onward : (front ++ string_bytes x) ++ tail ≡ bytes = append_assoc front (string_bytes x) tail in
    let place : length (front ++ string_bytes x) ≡ next =
    omega (arith, length-append front (string_bytes x), length-append (little_bytes 4 (length x)) x, length-bytes_low_first 0 4 (length x)) in
    let later : strings_at (length xs) ((front ++ string_bytes x) ++ tail) (length (front ++ string_bytes x)) ≡ Ok xs =
    strings_at-bytes xs (front ++ string_bytes x) rest (All-tail (λ x. length x ≤ MAX_STRING) x xs short) in
    let rest_is : strings_at (length xs) bytes next ≡ Ok xs = ap (λ ys. strings_at (length xs) ys next) (sym onward) ∙ ap (λ n. strings_at (length xs) ((front ++ string_bytes x) ++ tail) n) (sym place) ∙ later in
    let first : string_at bytes (length front) ≡ Ok (x, next) = string_at-bytes front x tail (All-head (λ x. length x ≤ MAX_STRING) x xs short) in
    ap (λ ys. then_more (string_at ys (length front)) (strings_at (length xs) ys)) regrouped
    ∙ ap (λ r. then_more r (strings_at (length xs) bytes)) first
    ∙ ap (λ r. onto x r) rest_is

strings_in-bytes : (xs : List (List ℕ)) (rest : List ℕ) → All (λ x. length x ≤ MAX_STRING) xs → strings_at (length xs) (strings_bytes xs ++ rest) 0 ≡ Ok xs
strings_in-bytes xs rest short = strings_at-bytes xs [] rest short

-- ---- Values of each type

pub values_in-bytes : (vs : Values) (rest : List ℕ) → AreShort vs → AreInRange vs → IsReadAgain vs (value_bytes vs ++ rest)
values_in-bytes (bools xs) rest short fits = ap (λ r. made bools r) (bools_in-bytes xs rest)
values_in-bytes (i32s xs) rest short fits = ap (λ r. made i32s r) (i32s_in-bytes xs rest fits)
values_in-bytes (i64s xs) rest short fits = ap (λ r. made i64s r) (i64s_in-bytes xs rest fits)
values_in-bytes (strings xs) rest short fits = ap (λ r. made strings r) (strings_in-bytes xs rest short)
