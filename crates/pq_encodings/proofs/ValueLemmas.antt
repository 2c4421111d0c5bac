-- Plain values that were read, and plain bytes that are read again.
use Rattle.std.proofs.Common.{◌≡◌, ℕ, ℤ, zero, suc, ◌+◌, ◌*◌, ◌/◌, ◌≤◌, inl, inr, List, [], ◌∷◌, length, take, drop, All, Result, Ok, Err, Bool, true, false, cond, refl, sym, ap, subst, ◌∙◌, arith, nat_lt}
use Rattle.std.proofs.lemmas.Bool.{cases_lt, le-ltb, lt-ltb}
use Rattle.std.proofs.lemmas.List.{length-take}
use Rattle.std.proofs.lemmas.List.Elements.{All-cons, All-nil}
use Rattle.std.proofs.lemmas.List.FromFn.{length-map-range_with_len}
use Rattle.byteorder.specs.Endian.{little_number}
use Rattle.pq_encodings.specs.declared.fault.EncFault.{EncFault}
use Rattle.pq_encodings.specs.declared.fault.EncFault.TheVariants as fault
use Rattle.pq_encodings.specs.declared.plain.Physical.{Physical}
use Rattle.pq_encodings.specs.declared.plain.Physical.TheVariants as physical
use Rattle.pq_encodings.specs.declared.strings.TheConstants.{MAX_STRING}
use Rattle.pq_encodings.specs.Plain.{bool_at, bools_in, bools_of, i32_at, i32s_in, i32s_of, i64_at, i64s_in, i64s_of, onto, string_at, strings_at, then_more}
use Rattle.pq_encodings.specs.Values.{AreShort, Values, bools, count_of, i32s, i64s, kind_of, made, strings, values_in}

-- ---- What was read is short, and as much as was wanted

-- the values of an answer of a list
pub made-is : {X : Type 0} (f : X → Values) (r : Result X EncFault) (vs : Values) → made f r ≡ Ok vs → (x : X) × (r ≡ Ok x) × (f x ≡ vs)
made-is f (Ok x) vs h =
    let same : f x ≡ vs = cc in (x, refl, same)
made-is f (Err e) vs h = cc

-- an answer behind a test that refuses
pub ok_behind : {X : Type 0} (t : Bool) (e : EncFault) (x y : X) → ◌≡◌ {A = Result X EncFault} (cond t (Err e) (Ok x)) (Ok y) → (t ≡ false) × (x ≡ y)
ok_behind true e x y h = cc
ok_behind false e x y h =
    let same : x ≡ y = cc in (refl, same)

pub record IsAsked (kind : Physical) (count : ℕ) (vs : Values) : Type 0 where
  pub same : kind_of vs ≡ kind
  pub short : AreShort vs
  pub size : count_of vs ≡ count

of_bools : (bytes : List ℕ) (count : ℕ) (xs : List Bool) → bools_in bytes count ≡ Ok xs → IsAsked physical.Boolean count (bools xs)
of_bools bytes count xs h =
    let parts = ok_behind (nat_lt (8 * length bytes) count) (fault.Short (length bytes)) (bools_of bytes count) xs h in
    record { same = refl; short = tt; size = sym (ap length parts.1) ∙ length-map-range_with_len (bool_at bytes) 0 count }

of_i32s : (bytes : List ℕ) (count : ℕ) (xs : List ℤ) → i32s_in bytes count ≡ Ok xs → IsAsked physical.Int32 count (i32s xs)
of_i32s bytes count xs h =
    let parts = ok_behind (nat_lt (length bytes / 4) count) (fault.Short (4 * (length bytes / 4))) (i32s_of bytes count) xs h in
    record { same = refl; short = tt; size = sym (ap length parts.1) ∙ length-map-range_with_len (i32_at bytes) 0 count }

of_i64s : (bytes : List ℕ) (count : ℕ) (xs : List ℤ) → i64s_in bytes count ≡ Ok xs → IsAsked physical.Int64 count (i64s xs)
of_i64s bytes count xs h =
    let parts = ok_behind (nat_lt (length bytes / 8) count) (fault.Short (8 * (length bytes / 8))) (i64s_of bytes count) xs h in
    record { same = refl; short = tt; size = sym (ap length parts.1) ∙ length-map-range_with_len (i64_at bytes) 0 count }

-- a byte string that was read is short
string_at-short : (bytes : List ℕ) (at : ℕ) (x : List ℕ) (next : ℕ) → string_at bytes at ≡ Ok (x, next) → length x ≤ MAX_STRING
string_at-short bytes at x next h =
    let size : ℕ = little_number 4 (drop at bytes) in
    elim (cases_lt (length bytes) (at + 4)) [
      | inl p ↦
          let cut : nat_lt (length bytes) (at + 4) ≡ true = lt-ltb (length bytes) (at + 4) p in
          absurd (string_fault (fault.Short at) (x, next) (rw cut at h))
      | inr p ↦
          let held : nat_lt (length bytes) (at + 4) ≡ false = le-ltb (length bytes) (at + 4) p in
          elim (cases_lt MAX_STRING size) [
            | inl q ↦
                let long : nat_lt MAX_STRING size ≡ true = lt-ltb MAX_STRING size q in
                absurd (string_fault (fault.LongCell at size) (x, next) (rw (held, long) at h))
            | inr q ↦
                let short : nat_lt MAX_STRING size ≡ false = le-ltb MAX_STRING size q in
                let parts = ok_behind (nat_lt (length bytes) (at + 4 + size)) (fault.Short at) (take size (drop (at + 4) bytes), at + 4 + size) (x, next) (rw (held, short) at h) in
                let same : take size (drop (at + 4) bytes) ≡ x = ap (λ (y : List ℕ × ℕ). y.0) parts.1 in
                omega (arith, ap length same, length-take size (drop (at + 4) bytes))
          ]
    ]
  where
    string_fault : (e : EncFault) (x : List ℕ × ℕ) → ◌≡◌ {A = Result (List ℕ × ℕ) EncFault} (Err e) (Ok x) → ⊥
    string_fault e x h = cc

pub onto-is : (x : List ℕ) (r : Result (List (List ℕ)) EncFault) (xs : List (List ℕ)) → onto x r ≡ Ok xs → (ys : List (List ℕ)) × (r ≡ Ok ys) × (x ∷ ys ≡ xs)
onto-is x (Ok ys) xs h =
    let same : x ∷ ys ≡ xs = cc in (ys, refl, same)
onto-is x (Err e) xs h = cc

pub then_more-is : (r : Result (List ℕ × ℕ) EncFault) (go : ℕ → Result (List (List ℕ)) EncFault) (xs : List (List ℕ)) → then_more r go ≡ Ok xs →
    (x : List ℕ × ℕ) × (r ≡ Ok x) × (onto x.0 (go x.1) ≡ Ok xs)
then_more-is (Ok x) go xs h = (x, refl, h)
then_more-is (Err e) go xs h = cc

pub record AreAsked (count : ℕ) (xs : List (List ℕ)) : Type 0 where
  pub short : All (λ x. length x ≤ MAX_STRING) xs
  pub size : length xs ≡ count

strings_at-asked : (count : ℕ) (bytes : List ℕ) (at : ℕ) (xs : List (List ℕ)) → strings_at count bytes at ≡ Ok xs → AreAsked count xs
unfolding strings_at
strings_at-asked zero bytes at xs h =
    let same : [] ≡ xs = cc in
    rw (← same) (record { short = All-nil (λ x. length x ≤ MAX_STRING); size = refl })
strings_at-asked (suc count) bytes at xs h =
    let first = then_more-is (string_at bytes at) (strings_at count bytes) xs h in
    let more = onto-is first.0.0 (strings_at count bytes first.0.1) xs first.2 in
    let rest = strings_at-asked count bytes first.0.1 more.0 more.1 in
    let here = string_at-short bytes at first.0.0 first.0.1 first.1 in
    rw (← more.2) (record { short = All-cons (λ x. length x ≤ MAX_STRING) first.0.0 more.0 here rest.short; size = omega (arith, rest.size) })

pub values_in-asked : (kind : Physical) (count : ℕ) (bytes : List ℕ) (vs : Values) → values_in kind count bytes ≡ Ok vs → IsAsked kind count vs
values_in-asked physical.Boolean count bytes vs h =
    let parts = made-is bools (bools_in bytes count) vs h in
    subst (λ (v : Values). IsAsked physical.Boolean count v) parts.2 (of_bools bytes count parts.0 parts.1)
values_in-asked physical.Int32 count bytes vs h =
    let parts = made-is i32s (i32s_in bytes count) vs h in
    subst (λ (v : Values). IsAsked physical.Int32 count v) parts.2 (of_i32s bytes count parts.0 parts.1)
values_in-asked physical.Int64 count bytes vs h =
    let parts = made-is i64s (i64s_in bytes count) vs h in
    subst (λ (v : Values). IsAsked physical.Int64 count v) parts.2 (of_i64s bytes count parts.0 parts.1)
values_in-asked physical.ByteArray count bytes vs h =
    let parts = made-is strings (strings_at count bytes 0) vs h in
    let asked = strings_at-asked count bytes 0 parts.0 parts.1 in
    subst (λ (v : Values). IsAsked physical.ByteArray count v) parts.2 (record { same = refl; short = asked.short; size = asked.size })
