-- A number that is written reads back, and what is read as a number is its spelling.
use Rattle.std.proofs.Common.{◌≡◌, ℕ, ℤ, pos, negsuc, zero, suc, ◌+◌, ◌*◌, ◌/◌, ◌%◌, ◌^◌, ◌<◌, ◌≤◌, ◌==◌, if◌then◌else◌, List, [], ◌∷◌, ◌++◌, length, take, drop, Some, None, false, inl, inr, refl, sym, ap, ◌∙◌, append_assoc, arith, nat_lt}
use Rattle.std.specs.List.{slice_index}
use Rattle.std.proofs.lemmas.List.{length-append, take-append-drop, length-take-le}
use Rattle.std.proofs.Math.Seq.{take-append_seam, drop-append_seam}
use Rattle.std.proofs.lemmas.Bool.{cases_Bool, cases_lt, le-ltb, lt-ltb}
use Rattle.std.proofs.lemmas.Bool.Decides.{nat_tests}
use Rattle.std.proofs.Math.Nat.{pow-succ', one-le-pow}
use Rattle.thrift_compact.proofs.WriterLemmas.{from_zigzag-to_zigzag, to_zigzag-from_zigzag}
use Rattle.thrift_compact.specs.Shortest.{number_spelling, unsigned_spelling, signed_spelling, to_zigzag, binary_spelling}
use Rattle.thrift_compact.specs.Spelling.{from_zigzag}
use Rattle.inline_rows.specs.Reading.{Item, ◌>>=◌, number_in, unsigned_in, signed_in, split_in, binary_in}

-- ---- what is written reads back

fewer : (m n : ℕ) → n < 128 ^ suc (suc m) → n / 128 < 128 ^ suc m
fewer m n lt = let p : 128 ^ suc (suc m) ≡ 128 * 128 ^ suc m = pow-succ' 128 (suc m) in omega arith

number_back : (m n : ℕ) (rest : List ℕ) → n < 128 ^ suc m → number_in (suc m) (number_spelling (suc m) n ++ rest) ≡ Some (n, rest)
unfolding number_in number_spelling
number_back zero n rest lt = let small : n < 128 = omega arith in rw (lt-ltb n 128 small) (rw (lt-ltb n 128 small) refl)
number_back (suc m) n rest lt =
    elim (cases_lt n 128) [
      | inl small ↦ rw (lt-ltb n 128 small) (rw (lt-ltb n 128 small) refl)
      | inr big ↦
          let high : nat_lt (128 + n % 128) 128 ≡ false = grind (arith, nat_tests) in
          let some : (n / 128 == 0) ≡ false = grind (arith, nat_tests) in
          let value : (128 + n % 128) % 128 + 128 * (n / 128) ≡ n = omega arith in
          rw (le-ltb n 128 big) (rw (high, number_back m (n / 128) rest (fewer m n lt), some, value) refl)
    ]

pub unsigned_back : (limit n : ℕ) (rest : List ℕ) → n < limit → limit ≤ 2 ^ 64 → unsigned_in limit (unsigned_spelling n ++ rest) ≡ Some (n, rest)
unfolding unsigned_in
unsigned_back limit n rest lt le = rw (number_back 9 n rest (omega arith), lt-ltb n limit lt) refl

pub signed_back : (limit : ℕ) (z : ℤ) (rest : List ℕ) → to_zigzag z < limit → limit ≤ 2 ^ 64 → signed_in limit (signed_spelling z ++ rest) ≡ Some (z, rest)
signed_back limit z rest lt le = rw (unsigned_back limit (to_zigzag z) rest lt le, from_zigzag-to_zigzag z) refl

split_back : (text rest : List ℕ) → split_in (length text) (text ++ rest) ≡ Some (text, rest)
split_back text rest =
    let long : nat_lt (length (text ++ rest)) (length text) ≡ false = rw (length-append text rest) (grind (arith, nat_tests)) in
    rw (long, take-append_seam text rest, drop-append_seam text rest) refl

pub binary_back : (text rest : List ℕ) → length text < 2 ^ 64 → binary_in (binary_spelling text ++ rest) ≡ Some (text, rest)
binary_back text rest lt =
    rw (append_assoc (unsigned_spelling (length text)) text rest, unsigned_back (2 ^ 64) (length text) (text ++ rest) lt (omega arith)) (split_back text rest)

-- ---- what is read is spelled

abbrev pub AreBytes : List ℕ → Type 0
AreBytes bytes = (i : ℕ) → slice_index bytes i < 256

-- what an item that was read says of the bytes, and of itself
pub record IsRead {A : Type 0} (spelling : A → List ℕ) (Holds : A → Type 0) (bytes : List ℕ) (x : A) (rest : List ℕ) : Type 0 where
  pub spells : bytes ≡ spelling x ++ rest
  pub holds : Holds x
  pub behind : AreBytes rest

-- each item that is read from bytes is so
abbrev pub Reads : {A : Type 0} → (List ℕ → Item A) → (A → List ℕ) → (A → Type 0) → Type 0
Reads {A} read spelling Holds = (bytes : List ℕ) (x : A) (rest : List ℕ) → AreBytes bytes → read bytes ≡ Some (x, rest) → IsRead spelling Holds bytes x rest

abbrev pub first_or : {A : Type 0} → A → Item A → A
first_or other None = other
first_or other (Some x) = x.0

abbrev pub rest_or : {A : Type 0} → List ℕ → Item A → List ℕ
rest_or other None = other
rest_or other (Some x) = x.1

-- an item that is found
abbrev pub found : {A : Type 0} → A → List ℕ → Item A
found x rest = Some (x, rest)

pub some_parts : {A : Type 0} (a b : A) (x y : List ℕ) → found a x ≡ found b y → (a ≡ b) × (x ≡ y)
some_parts a b x y e = (ap (first_or a) e, ap (rest_or x) e)

-- a signed number from the number that stands for it
abbrev pub signed_pair : ℕ × List ℕ → Item ℤ
signed_pair x = Some (from_zigzag x.0, x.1)

-- a low group with the number of the groups behind it
abbrev pub grouped : ℕ → ℕ × List ℕ → Item ℕ
grouped b x = if x.0 == 0 then None else Some (b % 128 + 128 * x.0, x.1)

abbrev pub below : ℕ → ℕ × List ℕ → Item ℕ
below limit x = if nat_lt x.0 limit then Some x else None

-- a group and the groups behind it
group : (most b high : ℕ) (bytes rest : List ℕ) → 128 ≤ b → b < 256 → (high == 0) ≡ false → bytes ≡ number_spelling most high ++ rest
    → b ∷ bytes ≡ number_spelling (suc most) (b % 128 + 128 * high) ++ rest
unfolding number_spelling
group most b high bytes rest le lt some e =
    let n = b % 128 + 128 * high in
    let big : 128 ≤ b % 128 + 128 * high = grind (arith, nat_tests) in
    let head : 128 + (b % 128 + 128 * high) % 128 ≡ b = omega arith in
    let tail : (b % 128 + 128 * high) / 128 ≡ high = omega arith in
    rw (le-ltb n 128 big, head, tail, e) refl

number_more : (most b : ℕ) (bytes : List ℕ) (n : ℕ) (rest : List ℕ) → 128 ≤ b → b < 256 → AreBytes bytes
    → Reads (number_in most) (number_spelling most) (λ n. n < 128 ^ most)
    → (given : Item ℕ) → number_in most bytes ≡ given → (given >>= grouped b) ≡ Some (n, rest)
    → IsRead (number_spelling (suc most)) (λ n. n < 128 ^ suc most) (b ∷ bytes) n rest
number_more most b bytes n rest le lt are reads None f h = absurd (cc h)
number_more most b bytes n rest le lt are reads (Some (high, behind)) f h =
    elim (cases_Bool (high == 0)) [
      | inl zeros ↦ absurd (cc (rw zeros at h))
      | inr some ↦
          let is : found (b % 128 + 128 * high) behind ≡ found n rest = rw some at h in
          let parts = some_parts (b % 128 + 128 * high) n behind rest is in
          let value = parts.0 in
          let left = parts.1 in
          let read = reads bytes high behind are f in
          let power : 128 ^ suc most ≡ 128 * 128 ^ most = pow-succ' 128 most in
          record {
            spells = rw (← value, ← left) (group most b high bytes behind le lt some read.spells);
            holds = rw (← value) (omega (arith, power, read.holds));
            behind = rw (← left) read.behind;
          }
    ]

number_read : (most : ℕ) → Reads (number_in most) (number_spelling most) (λ n. n < 128 ^ most)
unfolding number_in number_spelling
number_read zero bytes n rest are e = absurd (cc e)
number_read (suc most) [] n rest are e = absurd (cc e)
number_read (suc most) (b ∷ bytes) n rest are e =
    elim (cases_lt b 128) [
      | inl small ↦
          let is : found b bytes ≡ found n rest = rw (lt-ltb b 128 small) at e in
          let parts = some_parts b n bytes rest is in
          let same : b ≡ n = parts.0 in
          let left : bytes ≡ rest = parts.1 in
          let power : 128 ^ suc most ≡ 128 * 128 ^ most = pow-succ' 128 most in
          record {
            spells = rw (← same, ← left) (rw (lt-ltb b 128 small) refl);
            holds = rw (← same) (omega (arith, power, one-le-pow most 128 (omega arith)));
            behind = rw (← left) (λ i. are (suc i));
          }
      | inr big ↦ number_more most b bytes n rest big (are 0) (λ i. are (suc i)) (number_read most) (number_in most bytes) refl (rw (le-ltb b 128 big) at e)
    ]

pub unsigned_read : (limit : ℕ) → Reads (unsigned_in limit) unsigned_spelling (λ n. n < limit)
unfolding unsigned_in
unsigned_read limit bytes n rest are e = go (number_in 10 bytes) refl e where
  go : (given : Item ℕ) → number_in 10 bytes ≡ given → (given >>= below limit) ≡ Some (n, rest)
      → IsRead unsigned_spelling (λ n. n < limit) bytes n rest
  go None f h = absurd (cc h)
  go (Some (m, behind)) f h =
      elim (cases_Bool (nat_lt m limit)) [
        | inr past ↦ absurd (cc (rw past at h))
        | inl within ↦
            let is : found m behind ≡ found n rest = rw within at h in
            let parts = some_parts m n behind rest is in
            let value : m ≡ n = parts.0 in
            let left : behind ≡ rest = parts.1 in
            let read = number_read 10 bytes m behind are f in
            record {
              spells = rw (← value, ← left) read.spells;
              holds = rw (← value) (grind (arith, nat_tests, within));
              behind = rw (← left) read.behind;
            }
      ]

pub signed_read : (limit : ℕ) → Reads (signed_in limit) signed_spelling (λ z. to_zigzag z < limit)
signed_read limit bytes z rest are e = go (unsigned_in limit bytes) refl e where
  go : (given : Item ℕ) → unsigned_in limit bytes ≡ given → (given >>= signed_pair) ≡ Some (z, rest)
      → IsRead signed_spelling (λ z. to_zigzag z < limit) bytes z rest
  go None f h = absurd (cc h)
  go (Some (m, behind)) f h =
      let parts = some_parts (from_zigzag m) z behind rest h in
      let value : from_zigzag m ≡ z = parts.0 in
      let left : behind ≡ rest = parts.1 in
      let back : to_zigzag z ≡ m = ap to_zigzag (sym value) ∙ to_zigzag-from_zigzag m in
      let read = unsigned_read limit bytes m behind are f in
      record {
        spells = rw (back, ← left) read.spells;
        holds = rw back read.holds;
        behind = rw (← left) read.behind;
      }

dropped : (n : ℕ) (bytes : List ℕ) → AreBytes bytes → AreBytes (drop n bytes)
dropped zero bytes are = are
dropped (suc n) [] are = are
dropped (suc n) (b ∷ bytes) are = dropped n bytes (λ i. are (suc i))

pub binary_read : Reads binary_in binary_spelling (λ text. length text < 2 ^ 64)
binary_read bytes text rest are e = go (unsigned_in (2 ^ 64) bytes) refl e where
  go : (given : Item ℕ) → unsigned_in (2 ^ 64) bytes ≡ given → (given >>= λ x. split_in x.0 x.1) ≡ Some (text, rest)
      → IsRead binary_spelling (λ text. length text < 2 ^ 64) bytes text rest
  go None f h = absurd (cc h)
  go (Some (count, behind)) f h =
      elim (cases_Bool (nat_lt (length behind) count)) [
        | inl short ↦ absurd (cc (rw short at h))
        | inr long ↦
            let is : found (take count behind) (drop count behind) ≡ found text rest = rw long at h in
            let parts = some_parts (take count behind) text (drop count behind) rest is in
            let taken : take count behind ≡ text = parts.0 in
            let left : drop count behind ≡ rest = parts.1 in
            let enough : count ≤ length behind = grind (arith, nat_tests, long) in
            let size : length text ≡ count = rw (← taken) (length-take-le count behind enough) in
            let read = unsigned_read (2 ^ 64) bytes count behind are f in
            let whole : behind ≡ text ++ rest = sym (take-append-drop count behind) ∙ rw (taken, left) refl in
            record {
              spells = read.spells ∙ rw (size, whole) (sym (append_assoc (unsigned_spelling count) text rest));
              holds = rw size read.holds;
              behind = rw (← left) (dropped count behind read.behind);
            }
      ]
