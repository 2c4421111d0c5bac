-- Numbers and byte strings: what is read is a spelling, and each spelling is read.
use Rattle.std.proofs.Common.{◌≡◌, ℕ, ℤ, zero, suc, ◌+◌, ◌*◌, ◌%◌, ◌^◌, ◌<◌, ◌≤◌, true, false, ltb, List, [], ◌∷◌, ◌++◌, length, take, drop, Ok, Err, refl, sym, ap, ◌∙◌, arith, inl, inr}
use Rattle.std.proofs.lemmas.Bool.{ltb-false, le-ltb, ltb-true, lt-ltb}
use Rattle.std.proofs.lemmas.List.{take_at, drop_at, take-append-drop, length-append, length-take}
use Rattle.thrift_compact.specs.declared.fault.ThriftFault.TheVariants.{Short, TooWide}
use Rattle.answers.specs.Answers.{◌>>=◌}
use Rattle.thrift_compact.specs.Reading.{number_in, unsigned_in, signed_in, byte_in, bytes_in, binary_in}
use Rattle.thrift_compact.specs.Spelling.{IsNumber, IsUnsigned, from_zigzag, IsSigned, signed_byte, IsByte, IsBytes, IsBinary}
use Rattle.thrift_compact.proofs.Matching.{bind_ok, chosen, ok_is, failed, Takes, Matches, then_matches, guard_matches, as_matches, map_matches}

pub number_sound : (at most : ℕ) (bytes : List ℕ) (n : ℕ) (rest : List ℕ) → number_in at most bytes ≡ Ok (n, rest) → Takes (IsNumber most) bytes n rest
unfolding number_in
number_sound at zero bytes n rest e = failed (TooWide at) (n, rest) e
number_sound at (suc most) [] n rest e = failed (Short at) (n, rest) e
number_sound at (suc most) (b ∷ bs) n rest e =
    elim (chosen (ltb b 128) (Ok (b, bs)) (number_in at most bs >>= λ x. Ok (b % 128 + 128 * x.0, x.1)) (Ok (n, rest)) e) [
      | inl h ↦
          let p : (b, bs) ≡ (n, rest) = ok_is (b, bs) (n, rest) h.1 in
          let lt : b < 128 = ltb-true b 128 h.0 in
          record { front = b ∷ []; parts = ap (λ (q : ℕ × List ℕ). b ∷ q.1) p; spells = inl (lt, refl, sym (ap (λ (q : ℕ × List ℕ). q.0) p)) }
      | inr h ↦
          let s = bind_ok (number_in at most bs) (λ x. Ok (b % 128 + 128 * x.0, x.1)) (n, rest) h.1 in
          let le : 128 ≤ b = ltb-false b 128 h.0 in
          let p : (b % 128 + 128 * s.0.0, s.0.1) ≡ (n, rest) = ok_is (b % 128 + 128 * s.0.0, s.0.1) (n, rest) s.2 in
          let i = number_sound at most bs s.0.0 s.0.1 s.1 in
          record { front = b ∷ i.front; parts = ap (λ (q : List ℕ). b ∷ q) i.parts ∙ ap (λ (q : ℕ × List ℕ). b ∷ (i.front ++ q.1)) p; spells = inr (le, s.0.0, sym (ap (λ (q : ℕ × List ℕ). q.0) p), i.spells) }
    ]

pub number_complete : (at most : ℕ) (front rest : List ℕ) (n : ℕ) → IsNumber most front n → number_in at most (front ++ rest) ≡ Ok (n, rest)
unfolding number_in
number_complete at zero front rest n h = absurd h
number_complete at (suc most) [] rest n h = absurd h
number_complete at (suc most) (b ∷ bs) rest n (inl h) = rw (lt-ltb b 128 h.0, h.1, h.2) refl
number_complete at (suc most) (b ∷ bs) rest n (inr h) = rw (le-ltb b 128 h.0, number_complete at most bs rest h.1 h.3, h.2) refl

pub number_matches : (at most : ℕ) → Matches (number_in at most) (IsNumber most)
number_matches at most = record { sound = number_sound at most; complete = number_complete at most }

pub unsigned_matches : (at limit : ℕ) → Matches (unsigned_in at limit) (IsUnsigned limit)
unfolding unsigned_in
unsigned_matches at limit =
    as_matches (λ bytes. unsigned_in at limit bytes) (λ front n. IsNumber 10 front n × (ltb n limit ≡ true)) (IsUnsigned limit)
    (guard_matches (number_in at 10) (IsNumber 10) (λ n. ltb n limit) (TooWide at) (number_matches at 10))
    (λ front n h. (h.0, ltb-true n limit h.1)) (λ front n h. (h.0, lt-ltb n limit h.1))

pub signed_matches : (at limit : ℕ) → Matches (signed_in at limit) (IsSigned limit)
unfolding signed_in
signed_matches at limit = map_matches (unsigned_in at limit) (IsUnsigned limit) from_zigzag (unsigned_matches at limit)

bytes_sound : (at count : ℕ) (bytes text rest : List ℕ) → bytes_in at count bytes ≡ Ok (text, rest) → Takes (IsBytes count) bytes text rest
unfolding bytes_in
bytes_sound at count bytes text rest e =
    elim (chosen (ltb (length bytes) count) (Err (Short at)) (Ok (take count bytes, drop count bytes)) (Ok (text, rest)) e) [
      | inl h ↦ failed (Short at) (text, rest) h.1
      | inr h ↦
          let q : (take count bytes, drop count bytes) ≡ (text, rest) = ok_is (take count bytes, drop count bytes) (text, rest) h.1 in
          let text-is : take count bytes ≡ text = ap (λ (t : List ℕ × List ℕ). t.0) q in
          let rest-is : drop count bytes ≡ rest = ap (λ (t : List ℕ × List ℕ). t.1) q in
          let long : count ≤ length bytes = ltb-false (length bytes) count h.0 in
          record { front = text; parts = sym (take-append-drop count bytes) ∙ cc; spells = (refl, omega (arith, ap length text-is, length-take count bytes)) }
    ]

bytes_complete : (at count : ℕ) (front rest text : List ℕ) → IsBytes count front text → bytes_in at count (front ++ rest) ≡ Ok (text, rest)
unfolding bytes_in
bytes_complete at count front rest text (e, n) =
    let len : length front ≡ count = ap length e ∙ n in
    let long : ltb (length (front ++ rest)) count ≡ false = le-ltb _ _ (omega (arith, length-append front rest)) in
    rw (long, take_at front rest count len, drop_at front rest count len, e) refl

pub bytes_matches : (at count : ℕ) → Matches (bytes_in at count) (IsBytes count)
bytes_matches at count = record { sound = bytes_sound at count; complete = bytes_complete at count }

pub binary_matches : (at : ℕ) → Matches (binary_in at) IsBinary
unfolding binary_in
binary_matches at = then_matches (unsigned_in at (2 ^ 32)) (bytes_in at) (IsUnsigned (2 ^ 32)) IsBytes (unsigned_matches at (2 ^ 32)) (bytes_matches at)

byte_sound : (at : ℕ) (bytes : List ℕ) (z : ℤ) (rest : List ℕ) → byte_in at bytes ≡ Ok (z, rest) → Takes IsByte bytes z rest
unfolding byte_in
byte_sound at [] z rest e = failed (Short at) (z, rest) e
byte_sound at (b ∷ bs) z rest e =
    let q = ok_is (signed_byte b, bs) (z, rest) e in
    record { front = b ∷ []; parts = ap (λ (t : ℤ × List ℕ). b ∷ t.1) q; spells = (refl, ap (λ (t : ℤ × List ℕ). t.0) q) }

byte_complete : (at : ℕ) (front rest : List ℕ) (z : ℤ) → IsByte front z → byte_in at (front ++ rest) ≡ Ok (z, rest)
unfolding byte_in
byte_complete at [] rest z h = absurd h
byte_complete at (b ∷ bs) rest z h = rw (h.0, ← h.1) refl

pub byte_matches : (at : ℕ) → Matches (byte_in at) IsByte
byte_matches at = record { sound = byte_sound at; complete = byte_complete at }
