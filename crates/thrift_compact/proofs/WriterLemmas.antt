-- What is written spells its item, no spelling is shorter, and it reads back.
use Rattle.std.proofs.Common.{◌≡◌, ℕ, ℤ, pos, negsuc, zero, suc, ◌+◌, ◌-◌, ◌*◌, ◌/◌, ◌%◌, ◌^◌, ◌+ℤ◌, ◌-ℤ◌, ◌<ℤ◌, ◌<◌, ◌≤◌, List, [], ◌∷◌, ◌++◌, length, Some, None, refl, sym, ap, subst, ◌∙◌, append_assoc, ltb, true, false, lit≤, arith, inl, inr}
use Rattle.std.specs.Prelude.{nat_lt, if◌then◌else◌, unsigned_abs, int_le, FitsSigned}
use Rattle.std.proofs.lemmas.Bool.{cases_Bool, le-ltb, lt-ltb, cases_lt}
use Rattle.std.specs.Int.{w16, w32, w64}
use Rattle.std.proofs.lemmas.Int.{ints}
use Rattle.std.proofs.lemmas.List.{append-nil, length-append}
use Rattle.std.proofs.Math.Nat.{pow-succ'}
use Rattle.thrift_compact.specs.Spelling.{IsNumber, IsUnsigned, from_zigzag, IsSigned, IsBinary, IsType, IsListHeader, IsField, IsFieldHeader}
use Rattle.thrift_compact.specs.Shortest.{number_spelling, unsigned_spelling, to_zigzag, signed_spelling, binary_spelling, list_spelling, field_spelling, IsShortest, Appends}

-- ---- the loop that writes a number

pub number_step : (count i n : ℕ) → i < count
    → number_spelling (count - i) n ≡ (if nat_lt n 128 then n ∷ [] else (128 + n % 128) ∷ number_spelling (count - (i + 1)) (n / 128))
unfolding number_spelling
number_step count i n lt =
    let k : count - i ≡ suc (count - (i + 1)) = omega arith in
    rw k refl

pub number_done : (count i n : ℕ) → count ≤ i → number_spelling (count - i) n ≡ []
unfolding number_spelling
number_done count i n le =
    let k : count - i ≡ 0 = omega arith in
    rw k refl

pub more_bytes : (items : List ℕ) (count i n : ℕ) (total : List ℕ) → i < count → 128 ≤ n → items ++ number_spelling (count - i) n ≡ total
    → (items ++ (128 + n % 128) ∷ []) ++ number_spelling (count - (i + 1)) (n / 128) ≡ total
more_bytes items count i n total lt le h =
    let t : ltb n 128 ≡ false = le-ltb n 128 le in
    append_assoc items ((128 + n % 128) ∷ []) (number_spelling (count - (i + 1)) (n / 128))
    ∙ ap (λ (x : List ℕ). items ++ x) (sym (number_step count i n lt ∙ rw t refl)) ∙ h

pub no_more : (items : List ℕ) (count i n : ℕ) (total : List ℕ) → count ≤ i → items ++ number_spelling (count - i) n ≡ total → items ≡ total
no_more items count i n total le h = sym (append-nil items) ∙ ap (λ (x : List ℕ). items ++ x) (sym (number_done count i n le)) ∙ h

pub ruleset number_turn = (number_step, number_done)

-- ---- numbers

-- what is left after seven bits
fewer : (m n : ℕ) → n < 128 ^ suc (suc m) → n / 128 < 128 ^ suc m
fewer m n lt = let p : 128 ^ suc (suc m) ≡ 128 * 128 ^ suc m = pow-succ' 128 (suc m) in omega arith

-- a number that fits is spelled
number_spelled : (m n : ℕ) → n < 128 ^ suc m → IsNumber (suc m) (number_spelling (suc m) n) n
unfolding number_spelling
number_spelled zero n lt = let small : n < 128 = omega arith in rw (lt-ltb n 128 small) (inl (small, refl, refl))
number_spelled (suc m) n lt =
    elim (cases_lt n 128) [
      | inl small ↦ rw (lt-ltb n 128 small) (inl (small, refl, refl))
      | inr big ↦ rw (le-ltb n 128 big) (inr (omega arith, n / 128, omega arith, number_spelled m (n / 128) (fewer m n lt)))
    ]

-- and no spelling is shorter
number_least : (m k n : ℕ) (bytes : List ℕ) → IsNumber k bytes n → length (number_spelling m n) ≤ length bytes
unfolding number_spelling
number_least zero k n bytes h = omega arith
number_least (suc m) zero n bytes h = absurd h
number_least (suc m) (suc k) n [] h = absurd h
number_least (suc m) (suc k) n (b ∷ bs) (inl h) =
    let small : n < 128 = omega (arith, h.0, h.2) in
    rw (lt-ltb n 128 small) (omega arith)
number_least (suc m) (suc k) n (b ∷ bs) (inr h) =
    elim (cases_lt n 128) [
      | inl small ↦ rw (lt-ltb n 128 small) (omega arith)
      | inr big ↦
          let high : n / 128 ≡ h.1 = omega (arith, h.2) in
          let rest = number_least m k h.1 bs h.3 in
          rw (le-ltb n 128 big, high) (omega (arith, rest))
    ]

pub unsigned_shortest : (limit n : ℕ) → n < limit → limit ≤ 2 ^ 64 → IsShortest (IsUnsigned limit) (unsigned_spelling n) n
unsigned_shortest limit n lt le = record {
  spells = (number_spelled 9 n (omega arith), lt);
  least = λ other s. number_least 10 10 n other s.0;
}

pub from_zigzag-to_zigzag : (z : ℤ) → from_zigzag (to_zigzag z) ≡ z
from_zigzag-to_zigzag (pos n) = grind (arith)
from_zigzag-to_zigzag (negsuc n) = grind (arith)

pub to_zigzag-from_zigzag : (n : ℕ) → to_zigzag (from_zigzag n) ≡ n
to_zigzag-from_zigzag n = grind (arith)

pub signed_shortest : (limit : ℕ) (z : ℤ) → to_zigzag z < limit → limit ≤ 2 ^ 64 → IsShortest (IsSigned limit) (signed_spelling z) z
signed_shortest limit z lt le =
    let short = unsigned_shortest limit (to_zigzag z) lt le in
    record {
      spells = (to_zigzag z, from_zigzag-to_zigzag z, short.spells);
      least = λ other s. short.least other (subst (λ (n : ℕ). IsUnsigned limit other n) (sym (to_zigzag-from_zigzag s.0) ∙ ap to_zigzag s.1) s.2);
    }

-- ranges, as the limits of zigzag numbers
pub zigzag_16 : (z : ℤ) → FitsSigned w16 z → to_zigzag z < 2 ^ 16
zigzag_16 (pos n) fits = omega (arith, ints)
zigzag_16 (negsuc n) fits = omega (arith, ints)

pub zigzag_32 : (z : ℤ) → FitsSigned w32 z → to_zigzag z < 2 ^ 32
zigzag_32 (pos n) fits = omega (arith, ints)
zigzag_32 (negsuc n) fits = omega (arith, ints)

pub zigzag_64 : (z : ℤ) → FitsSigned w64 z → to_zigzag z < 2 ^ 64
zigzag_64 (pos n) fits = omega (arith, ints)
zigzag_64 (negsuc n) fits = omega (arith, ints)

below_16 : (z : ℤ) → FitsSigned w16 z → z <ℤ pos 32768
below_16 z fits = omega (arith, ints)

-- ---- byte strings

pub binary_shortest : (text : List ℕ) → length text < 2 ^ 32 → IsShortest IsBinary (binary_spelling text) text
binary_shortest text lt =
    let short = unsigned_shortest (2 ^ 32) (length text) lt (lit≤ tt) in
    record {
      spells = (length text, unsigned_spelling (length text), text, refl, short.spells, (refl, refl));
      least = λ other s. binary_least text other short s;
    }
  where
    binary_least : (text other : List ℕ) → IsShortest (IsUnsigned (2 ^ 32)) (unsigned_spelling (length text)) (length text) → IsBinary other text
        → length (binary_spelling text) ≤ length other
    binary_least text other short (n, a, b, parts, number, (same, count)) =
        let shorter = short.least a (subst (λ (k : ℕ). IsUnsigned (2 ^ 32) a k) (sym count) number) in
        omega (arith, shorter, ap length parts, ap length same, length-append a b, length-append (unsigned_spelling (length text)) text)

-- ---- headers

list_spelled : (ty size : ℕ) → IsType ty → size < 2 ^ 32 → IsListHeader (list_spelling ty size) (ty, size)
unfolding list_spelling
list_spelled ty size good lt =
    elim (cases_lt size 15) [
      | inl few ↦
          let t : (16 * size + ty) % 16 ≡ ty = omega arith in
          let s : (16 * size + ty) / 16 % 16 ≡ size = omega arith in
          rw (lt-ltb size 15 few) (rw (t, s) (refl, good, inr (omega arith, refl, refl)))
      | inr many ↦
          let t : (240 + ty) % 16 ≡ ty = omega arith in
          let s : (240 + ty) / 16 % 16 ≡ 15 = omega arith in
          rw (le-ltb size 15 many) (rw (t, s) (refl, good, inl (refl, (unsigned_shortest (2 ^ 32) size lt (lit≤ tt)).spells)))
    ]

list_least : (ty size : ℕ) (other : List ℕ) → size < 2 ^ 32 → IsListHeader other (ty, size) → length (list_spelling ty size) ≤ length other
unfolding list_spelling
list_least ty size [] lt h = absurd h
list_least ty size (b ∷ bs) lt (is, good, inl h) =
    elim (cases_lt size 15) [
      | inl few ↦ rw (lt-ltb size 15 few) (omega arith)
      | inr many ↦ rw (le-ltb size 15 many) (omega (arith, (unsigned_shortest (2 ^ 32) size lt (lit≤ tt)).least bs h.1))
    ]
list_least ty size (b ∷ bs) lt (is, good, inr h) =
    let few : size < 15 = omega (arith, h.0, h.1) in
    rw (lt-ltb size 15 few) (omega arith)

pub list_shortest : (ty size : ℕ) → IsType ty → size < 2 ^ 32 → IsShortest IsListHeader (list_spelling ty size) (ty, size)
list_shortest ty size good lt = record { spells = list_spelled ty size good lt; least = λ other s. list_least ty size other lt s }

step_is : (last id : ℤ) → last <ℤ id → id ≡ last +ℤ pos (unsigned_abs (id -ℤ last))
step_is last id lt = omega (arith, ints)

near : (last id : ℤ) → last <ℤ id → int_le id (last +ℤ pos 15) ≡ true → (0 < unsigned_abs (id -ℤ last)) × (unsigned_abs (id -ℤ last) < 16)
near last id lt le = (grind (arith, ints), grind (arith, ints))

-- a step that a header byte holds
step_near : (last id : ℤ) (step : ℕ) → id ≡ last +ℤ pos step → step < 16 → int_le id (last +ℤ pos 15) ≡ true
step_near last id step is small = grind (arith, ints)

field_spelled : (last id : ℤ) (ty : ℕ) → last <ℤ id → IsType ty → id <ℤ pos 32768 → to_zigzag id < 2 ^ 16 → IsField last (field_spelling last id ty) (id, ty)
unfolding field_spelling
field_spelled last id ty lt good fits wide =
    elim (cases_Bool (int_le id (last +ℤ pos 15))) [
      | inl le ↦
          let n = near last id lt le in
          let t : (16 * unsigned_abs (id -ℤ last) + ty) % 16 ≡ ty = omega arith in
          let s : (16 * unsigned_abs (id -ℤ last) + ty) / 16 % 16 ≡ unsigned_abs (id -ℤ last) = omega arith in
          let same : id ≡ last +ℤ pos (unsigned_abs (id -ℤ last)) = step_is last id lt in
          rw le (rw (t, s) (refl, good, inr (omega arith, refl, same, subst (λ (z : ℤ). z <ℤ pos 32768) same fits)))
      | inr far ↦
          let t : ty % 16 ≡ ty = omega arith in
          let s : ty / 16 % 16 ≡ 0 = omega arith in
          rw far (rw (t, s) (refl, good, inl (refl, (signed_shortest (2 ^ 16) id wide (lit≤ tt)).spells)))
    ]

field_least : (last id : ℤ) (ty : ℕ) (other : List ℕ) → to_zigzag id < 2 ^ 16 → IsField last other (id, ty) → length (field_spelling last id ty) ≤ length other
unfolding field_spelling
field_least last id ty [] wide h = absurd h
field_least last id ty (b ∷ bs) wide (is, good, inl h) =
    elim (cases_Bool (int_le id (last +ℤ pos 15))) [
      | inl le ↦ rw le (omega arith)
      | inr far ↦ rw far (omega (arith, (signed_shortest (2 ^ 16) id wide (lit≤ tt)).least bs h.1))
    ]
field_least last id ty (b ∷ bs) wide (is, good, inr h) =
    let small : b / 16 % 16 < 16 = omega arith in
    rw (step_near last id (b / 16 % 16) h.2 small) (omega arith)

pub field_shortest : (last id : ℤ) (ty : ℕ) → last <ℤ id → IsType ty → FitsSigned w16 id
    → IsShortest (IsFieldHeader last) (field_spelling last id ty) (Some (id, ty))
field_shortest last id ty lt good fits =
    record {
      spells = field_spelled last id ty lt good (below_16 id fits) (zigzag_16 id fits);
      least = λ other s. field_least last id ty other (zigzag_16 id fits) s;
    }

pub stop_shortest : (last : ℤ) → IsShortest (IsFieldHeader last) (0 ∷ []) None
stop_shortest last = record { spells = refl; least = λ other s. omega (arith, ap length s) }

-- ---- what the calls say

appends : {A : Type 0} (S : List ℕ → A → Type 0) (old new back : List ℕ) (x : A) → new ≡ old ++ back → IsShortest S back x → Appends S old new x
unfolding Appends
appends S old new back x parts short = (back, parts, short)

pub appends_signed : (old new : List ℕ) (z : ℤ) → new ≡ old ++ signed_spelling z → to_zigzag z < 2 ^ 64 → Appends (IsSigned (2 ^ 64)) old new z
appends_signed old new z parts lt = appends (IsSigned (2 ^ 64)) old new (signed_spelling z) z parts (signed_shortest (2 ^ 64) z lt (lit≤ tt))

pub appends_binary : (old new text : List ℕ) → new ≡ old ++ binary_spelling text → length text < 2 ^ 32 → Appends IsBinary old new text
appends_binary old new text parts lt = appends IsBinary old new (binary_spelling text) text parts (binary_shortest text lt)

pub appends_list : (old new : List ℕ) (ty size : ℕ) → new ≡ old ++ list_spelling ty size → 0 < ty → ty < 13 → size < 2 ^ 32
    → Appends IsListHeader old new (ty, size)
appends_list old new ty size parts some known lt =
    appends IsListHeader old new (list_spelling ty size) (ty, size) parts (list_shortest ty size (some, known) lt)

pub appends_field : (old new : List ℕ) (last id : ℤ) (ty : ℕ) → new ≡ old ++ field_spelling last id ty → last <ℤ id → 0 < ty → ty < 13
    → FitsSigned w16 id → Appends (IsFieldHeader last) old new (Some (id, ty))
appends_field old new last id ty parts lt some known fits =
    appends (IsFieldHeader last) old new (field_spelling last id ty) (Some (id, ty)) parts (field_shortest last id ty lt (some, known) fits)

pub appends_stop : (old new : List ℕ) (last : ℤ) → new ≡ old ++ 0 ∷ [] → Appends (IsFieldHeader last) old new None
appends_stop old new last parts = appends (IsFieldHeader last) old new (0 ∷ []) None parts (stop_shortest last)
