-- The plain values that are read are those with which the bytes begin.
use Rattle.std.proofs.Common.{◌≡◌, ℕ, ℤ, zero, suc, ◌+◌, ◌-◌, ◌*◌, ◌/◌, ◌%◌, ◌^◌, ◌<◌, ◌≤◌, inl, inr, List, [], ◌∷◌, ◌++◌, length, take, drop, map, get_or, Result, Ok, Err, Bool, true, false, cond, refl, sym, ap, subst, ◌∙◌, arith, append_assoc, nat_eq, nat_lt, length-drop}
use Rattle.std.proofs.Math.Nat.{div-div-eq-div-mul, pow-succ'}
use Rattle.std.proofs.lemmas.Bool.{cases_lt, le-ltb, lt-ltb, ltb-false}
use Rattle.std.proofs.lemmas.Int.{of_z-to_z}
use Rattle.std.proofs.lemmas.List.{drop-drop, get_or-drop, length-take, take-append-drop}
use Rattle.std.proofs.lemmas.List.FromFn.{fill_by_all, get_or-map-range_with_len, length-map-range_with_len}
use Rattle.std.proofs.lemmas.Nat.Bits.{bit_at-lt}
use Rattle.std.specs.Int.{byte_at, bytes_low_first, cast_signed, cast_unsigned, w32, w64}
use Rattle.std.specs.List.{flat_map, range_with_len}
use Rattle.byteorder.specs.Endian.{little_bytes, little_from, little_number}
use Rattle.byteorder.specs.Numbers.{little_from-cons, little_from-lt}
use Rattle.pq_encodings.specs.declared.fault.EncFault.{EncFault}
use Rattle.pq_encodings.specs.declared.fault.EncFault.TheVariants as fault
use Rattle.pq_encodings.specs.Bits.{bit_of}
use Rattle.pq_encodings.specs.declared.strings.TheConstants.{MAX_STRING}
use Rattle.pq_encodings.specs.Plain.{bool_at, bools_in, bools_of, i32_bytes, i32s_in, i32s_of, i64_bytes, i64s_in, i64s_of, string_at, string_bytes, strings_at, strings_bytes}
use Rattle.pq_encodings.specs.declared.plain.Physical.{Physical}
use Rattle.pq_encodings.specs.declared.plain.Physical.TheVariants as physical
use Rattle.pq_encodings.specs.Values.{AreInRange, AreShort, BeginsWith, HoldsBits, Values, bools, count_of, i32s, i64s, kind_of, made, strings, values_in}
use Rattle.pq_encodings.proofs.RoundTripLemmas.{is_one, values_in-bytes}
use Rattle.pq_encodings.proofs.ValueLemmas.{made-is, ok_behind, onto-is, then_more-is}

abbrev AreBytes : List ℕ → Type 0
AreBytes bytes = (k : ℕ) → get_or bytes k 0 < 256

-- ---- The bytes of the number that some bytes are

byte_behind : (j b x : ℕ) → b < 256 → byte_at (suc j) (b + 256 * x) ≡ byte_at j x
byte_behind zero b x h = omega arith
byte_behind (suc j) b x h =
    let high : (b + 256 * x) / 256 ≡ x = omega arith in
    ap (λ p. (b + 256 * x) / p % 256) (pow-succ' 256 (suc j))
    ∙ ap (λ n. n % 256) (sym (div-div-eq-div-mul (b + 256 * x) 256 (256 ^ suc j)))
    ∙ ap (λ n. n / 256 ^ suc j % 256) high

bytes_behind : (k j b x : ℕ) → b < 256 → bytes_low_first (suc j) k (b + 256 * x) ≡ bytes_low_first j k x
bytes_behind zero j b x h = refl
bytes_behind (suc k) j b x h =
    let here = byte_behind j b x h in
    let rest = bytes_behind k (suc j) b x h in
    cc

little_bytes-of_number : (n : ℕ) (ys : List ℕ) → AreBytes ys → n ≤ length ys → little_bytes n (little_number n ys) ≡ take n ys
little_bytes-of_number zero ys small h = refl
little_bytes-of_number (suc n) [] small h = absurd (omega arith)
little_bytes-of_number (suc n) (y ∷ ys) small h =
    let x : ℕ = little_number n ys in
    let high : little_from 1 n (y ∷ ys) ≡ x = little_from-cons 0 n y ys in
    let low : y < 256 = small 0 in
    let first : byte_at 0 (y + 256 * x) ≡ y = omega arith in
    let rest : bytes_low_first 1 n (y + 256 * x) ≡ take n ys = bytes_behind n 0 y x low ∙ little_bytes-of_number n ys (λ k. small (suc k)) (omega arith) in
    ap (λ v. bytes_low_first 0 (suc n) (y + 256 * v)) high
    ∙ ap (λ b. b ∷ bytes_low_first 1 n (y + 256 * x)) first ∙ ap (λ bs. y ∷ bs) rest

drop_are_bytes : (bytes : List ℕ) (at : ℕ) → AreBytes bytes → AreBytes (drop at bytes)
drop_are_bytes bytes at small k = rw get_or-drop (small (at + k))

-- ---- Numbers

-- Pieces of n bytes, each of which is the value that is read of it: they are the bytes from piece a on.
pieces_held : {X : Type 0} (n : ℕ) (piece : X → List ℕ) (value : List ℕ → X) → ((ys : List ℕ) → AreBytes ys → n ≤ length ys → piece (value ys) ≡ take n ys) →
    (bytes : List ℕ) → AreBytes bytes → (a count : ℕ) → n * (a + count) ≤ length bytes →
    drop (n * a) bytes ≡ flat_map piece (map (λ k. value (drop (n * k) bytes)) (range_with_len a count)) ++ drop (n * (a + count)) bytes
pieces_held n piece value same bytes small a zero h =
    let e : a ≡ a + 0 = omega arith in
    ap (λ m. drop (n * m) bytes) e
pieces_held n piece value same bytes small a (suc count) h =
    let ys : List ℕ = drop (n * a) bytes in
    let values : List ℕ = flat_map piece (map (λ k. value (drop (n * k) bytes)) (range_with_len (a + 1) count)) in
    let last : a + 1 + count ≡ a + suc count = omega arith in
    let later : drop (n * (a + 1)) bytes ≡ values ++ drop (n * (a + suc count)) bytes =
    pieces_held n piece value same bytes small (a + 1) count (rw last h) ∙ ap (λ m. values ++ drop (n * m) bytes) last in
    let enough : n ≤ length ys = piece_within n a count (length bytes) (length ys) h (length-drop (n * a) bytes) in
    let next : n * a + n ≡ n * (a + 1) = omega arith in
    sym (take-append-drop n ys)
    ∙ ap (λ xs. xs ++ drop n ys) (sym (same ys (drop_are_bytes bytes (n * a) small) enough))
    ∙ ap (λ xs. piece (value ys) ++ xs) (drop-drop n (n * a) bytes ∙ ap (λ m. drop m bytes) next ∙ later)
    ∙ sym (append_assoc (piece (value ys)) values (drop (n * (a + suc count)) bytes))
  where
    piece_within : (n a count size left : ℕ) → n * (a + suc count) ≤ size → left ≡ size - n * a → n ≤ left
    piece_within n a count size left h e =
        let whole : n * (a + suc count) ≡ n * a + n + n * count = omega arith in
        omega arith

i64_piece : (ys : List ℕ) → AreBytes ys → 8 ≤ length ys → little_bytes 8 (cast_unsigned w64 (cast_signed w64 (little_number 8 ys))) ≡ take 8 ys
i64_piece ys small h =
    let fits : little_number 8 ys < 256 ^ 8 = little_from-lt 0 8 ys small in
    ap (λ n. little_bytes 8 n) (of_z-to_z w64 (little_number 8 ys) fits) ∙ little_bytes-of_number 8 ys small h

i32_piece : (ys : List ℕ) → AreBytes ys → 4 ≤ length ys → little_bytes 4 (cast_unsigned w32 (cast_signed w32 (little_number 4 ys))) ≡ take 4 ys
i32_piece ys small h =
    let fits : little_number 4 ys < 256 ^ 4 = little_from-lt 0 4 ys small in
    ap (λ n. little_bytes 4 n) (of_z-to_z w32 (little_number 4 ys) fits) ∙ little_bytes-of_number 4 ys small h

i64s_in-held : (bytes : List ℕ) (count : ℕ) (xs : List ℤ) → AreBytes bytes → i64s_in bytes count ≡ Ok xs → bytes ≡ i64_bytes xs ++ drop (8 * count) bytes
i64s_in-held bytes count xs small h =
    let parts = ok_behind (nat_lt (length bytes / 8) count) (fault.Short (8 * (length bytes / 8))) (i64s_of bytes count) xs h in
    let enough : count ≤ length bytes / 8 = ltb-false (length bytes / 8) count parts.0 in
    let all = pieces_held 8 (λ z. little_bytes 8 (cast_unsigned w64 z)) (λ ys. cast_signed w64 (little_number 8 ys)) i64_piece bytes small 0 count (omega arith) in
    subst (λ (ys : List ℤ). bytes ≡ i64_bytes ys ++ drop (8 * count) bytes) parts.1 (all ∙ ap (λ m. i64_bytes (i64s_of bytes count) ++ drop (8 * m) bytes) (omega arith))

i32s_in-held : (bytes : List ℕ) (count : ℕ) (xs : List ℤ) → AreBytes bytes → i32s_in bytes count ≡ Ok xs → bytes ≡ i32_bytes xs ++ drop (4 * count) bytes
i32s_in-held bytes count xs small h =
    let parts = ok_behind (nat_lt (length bytes / 4) count) (fault.Short (4 * (length bytes / 4))) (i32s_of bytes count) xs h in
    let enough : count ≤ length bytes / 4 = ltb-false (length bytes / 4) count parts.0 in
    let all = pieces_held 4 (λ z. little_bytes 4 (cast_unsigned w32 z)) (λ ys. cast_signed w32 (little_number 4 ys)) i32_piece bytes small 0 count (omega arith) in
    subst (λ (ys : List ℤ). bytes ≡ i32_bytes ys ++ drop (4 * count) bytes) parts.1 (all ∙ ap (λ m. i32_bytes (i32s_of bytes count) ++ drop (4 * m) bytes) (omega arith))

-- ---- Booleans

bit_value : (b : ℕ) → b < 2 → b ≡ cond (nat_eq b 1) 1 0
bit_value zero h = refl
bit_value (suc zero) h = refl
bit_value (suc (suc b)) h = absurd (omega arith)

bools_in-held : (bytes : List ℕ) (count : ℕ) (xs : List Bool) → bools_in bytes count ≡ Ok xs → HoldsBits xs bytes
bools_in-held bytes count xs h =
    let parts = ok_behind (nat_lt (8 * length bytes) count) (fault.Short (length bytes)) (bools_of bytes count) xs h in
    let enough : count ≤ 8 * length bytes = ltb-false (8 * length bytes) count parts.0 in
    let size : length (bools_of bytes count) ≡ count = length-map-range_with_len (bool_at bytes) 0 count in
    subst (λ (ys : List Bool). HoldsBits ys bytes) parts.1 (record {
      within = omega arith;
      bits = λ k below.
          let here : get_or (bools_of bytes count) k false ≡ bool_at bytes k = get_or-map-range_with_len (bool_at bytes) 0 count k k false (omega arith) (omega arith) in
          bit_value (bit_of bytes k) (bit_at-lt (get_or bytes (k / 8) 0) (k % 8)) ∙ ap (λ b. cond b 1 0) (sym here);
    })

bools_in-of_held : (bytes : List ℕ) (xs : List Bool) → HoldsBits xs bytes → bools_in bytes (length xs) ≡ Ok xs
bools_in-of_held bytes xs held =
    let enough : nat_lt (8 * length bytes) (length xs) ≡ false = le-ltb (8 * length bytes) (length xs) held.within in
    rw enough (ap (λ (ys : List Bool). Ok ys) (sym (fill_by_all (bool_at bytes) xs (length xs) false refl (λ k h.
    sym (ap (λ b. nat_eq b 1) (held.bits k h) ∙ is_one (get_or xs k false))))))

-- ---- Byte strings

-- a byte string that was read, and what follows it
pub record Taken (bytes : List ℕ) (at : ℕ) (x : List ℕ) (next : ℕ) : Type 0 where
  pub spelled : drop at bytes ≡ string_bytes x ++ drop next bytes

string_at-taken : (bytes : List ℕ) (at : ℕ) (x : List ℕ) (next : ℕ) → AreBytes bytes → string_at bytes at ≡ Ok (x, next) → Taken bytes at x next
string_at-taken bytes at x next small h =
    let ys : List ℕ = drop at bytes in
    let size : ℕ = little_number 4 ys in
    elim (cases_lt (length bytes) (at + 4)) [
      | inl p ↦
          let cut : nat_lt (length bytes) (at + 4) ≡ true = lt-ltb (length bytes) (at + 4) p in
          absurd (err-ok (fault.Short at) (x, next) (rw cut at h))
      | inr p ↦
          let held : nat_lt (length bytes) (at + 4) ≡ false = le-ltb (length bytes) (at + 4) p in
          elim (cases_lt MAX_STRING size) [
            | inl q ↦
                let long : nat_lt MAX_STRING size ≡ true = lt-ltb MAX_STRING size q in
                absurd (err-ok (fault.LongCell at size) (x, next) (rw (held, long) at h))
            | inr q ↦
                let short : nat_lt MAX_STRING size ≡ false = le-ltb MAX_STRING size q in
                let parts = ok_behind (nat_lt (length bytes) (at + 4 + size)) (fault.Short at) (take size (drop (at + 4) bytes), at + 4 + size) (x, next) (rw (held, short) at h) in
                let whole : at + 4 + size ≤ length bytes = ltb-false (length bytes) (at + 4 + size) parts.0 in
                string_taken bytes at size x next small p whole refl (ap (λ (y : List ℕ × ℕ). y.0) parts.1) (ap (λ (y : List ℕ × ℕ). y.1) parts.1)
          ]
    ]
  where
    err-ok : (e : EncFault) (x : List ℕ × ℕ) → ◌≡◌ {A = Result (List ℕ × ℕ) EncFault} (Err e) (Ok x) → ⊥
    err-ok e x h = cc

    string_taken : (bytes : List ℕ) (at size : ℕ) (x : List ℕ) (next : ℕ) → AreBytes bytes → at + 4 ≤ length bytes → at + 4 + size ≤ length bytes →
        size ≡ little_number 4 (drop at bytes) → take size (drop (at + 4) bytes) ≡ x → at + 4 + size ≡ next → Taken bytes at x next
    string_taken bytes at size x next small p whole number text place =
        let ys : List ℕ = drop at bytes in
        let zs : List ℕ = drop (at + 4) bytes in
        let long : length x ≡ size = omega (arith, ap length text, length-take size zs, length-drop (at + 4) bytes) in
        let head : take 4 ys ≡ little_bytes 4 (length x) =
        sym (little_bytes-of_number 4 ys (drop_are_bytes bytes at small) (omega (arith, length-drop at bytes))) ∙ ap (λ n. little_bytes 4 n) (sym number ∙ sym long) in
        let behind : drop 4 ys ≡ zs = drop-drop 4 at bytes in
        let rest : drop size zs ≡ drop next bytes = drop-drop size (at + 4) bytes ∙ ap (λ n. drop n bytes) place in
        record {
          spelled = sym (take-append-drop 4 ys) ∙ ap (λ bs. bs ++ drop 4 ys) head ∙ ap (λ bs. little_bytes 4 (length x) ++ bs) (behind ∙ sym (take-append-drop size zs)
              ∙ ap (λ bs. bs ++ drop size zs) text ∙ ap (λ bs. x ++ bs) rest) ∙ sym (append_assoc (little_bytes 4 (length x)) x (drop next bytes));
        }

strings_at-held : (count : ℕ) (bytes : List ℕ) (at : ℕ) (xs : List (List ℕ)) → AreBytes bytes → strings_at count bytes at ≡ Ok xs →
    (rest : List ℕ) × (drop at bytes ≡ strings_bytes xs ++ rest)
unfolding strings_at
strings_at-held zero bytes at xs small h =
    let same : [] ≡ xs = cc in
    (drop at bytes, ap (λ (ys : List (List ℕ)). strings_bytes ys ++ drop at bytes) same)
strings_at-held (suc count) bytes at xs small h =
    let first = then_more-is (string_at bytes at) (strings_at count bytes) xs h in
    let more = onto-is first.0.0 (strings_at count bytes first.0.1) xs first.2 in
    let taken = string_at-taken bytes at first.0.0 first.0.1 small first.1 in
    let later = strings_at-held count bytes first.0.1 more.0 small more.1 in (
      later.0,
      taken.spelled ∙ ap (λ bs. string_bytes first.0.0 ++ bs) later.1 ∙ sym (append_assoc (string_bytes first.0.0) (strings_bytes more.0) later.0)
          ∙ ap (λ (ys : List (List ℕ)). strings_bytes ys ++ later.0) more.2,
    )

-- ---- Values of each type

pub values_in-held : (kind : Physical) (count : ℕ) (bytes : List ℕ) (vs : Values) → AreBytes bytes → values_in kind count bytes ≡ Ok vs → BeginsWith vs bytes
values_in-held physical.Boolean count bytes vs small h =
    let parts = made-is bools (bools_in bytes count) vs h in
    subst (λ (v : Values). BeginsWith v bytes) parts.2 (bools_in-held bytes count parts.0 parts.1)
values_in-held physical.Int32 count bytes vs small h =
    let parts = made-is i32s (i32s_in bytes count) vs h in
    subst (λ (v : Values). BeginsWith v bytes) parts.2 (drop (4 * count) bytes, i32s_in-held bytes count parts.0 small parts.1)
values_in-held physical.Int64 count bytes vs small h =
    let parts = made-is i64s (i64s_in bytes count) vs h in
    subst (λ (v : Values). BeginsWith v bytes) parts.2 (drop (8 * count) bytes, i64s_in-held bytes count parts.0 small parts.1)
values_in-held physical.ByteArray count bytes vs small h =
    let parts = made-is strings (strings_at count bytes 0) vs h in
    let held = strings_at-held count bytes 0 parts.0 small parts.1 in
    subst (λ (v : Values). BeginsWith v bytes) parts.2 (held.0, held.1)

-- values that the bytes begin with are read
pub values_in-of_held : (vs : Values) (bytes : List ℕ) → AreShort vs → AreInRange vs → BeginsWith vs bytes → values_in (kind_of vs) (count_of vs) bytes ≡ Ok vs
values_in-of_held (bools xs) bytes short fits held = ap (λ r. made bools r) (bools_in-of_held bytes xs held)
values_in-of_held (i32s xs) bytes short fits held = ap (λ bs. values_in physical.Int32 (length xs) bs) held.1 ∙ values_in-bytes (i32s xs) held.0 short fits
values_in-of_held (i64s xs) bytes short fits held = ap (λ bs. values_in physical.Int64 (length xs) bs) held.1 ∙ values_in-bytes (i64s xs) held.0 short fits
values_in-of_held (strings xs) bytes short fits held = ap (λ bs. values_in physical.ByteArray (length xs) bs) held.1 ∙ values_in-bytes (strings xs) held.0 short fits
