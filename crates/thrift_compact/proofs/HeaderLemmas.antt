-- Headers: what is read is a spelling, and each spelling is read.
use Rattle.std.proofs.Common.{◌≡◌, ℕ, ℤ, pos, zero, suc, ◌^◌, ◌<◌, ◌≢◌, ◌⊎◌, ◌+ℤ◌, ◌<ℤ◌, Bool, true, false, cond, eqb, List, [], ◌∷◌, ◌++◌, length, Option, Some, None, Ok, refl, sym, ap, subst, arith, inl, inr}
use Rattle.std.specs.Prelude.{int_lt}
use Rattle.std.proofs.lemmas.Bool.{cases_lt, le-ltb, lt-ltb, eqb-true}
use Rattle.std.proofs.lemmas.Int.{ints}
use Rattle.thrift_compact.specs.declared.fault.ThriftFault.TheVariants.{Short, BadType, TooWide}
use Rattle.thrift_compact.specs.Reading.{Read, unsigned_in, signed_in, is_type, list_header_in, field_header_in, entry_types_in, map_header_in}
use Rattle.thrift_compact.specs.Spelling.{high_bits, low_bits, IsUnsigned, IsSigned, Then, IsType, IsListHeader, IsEntryTypes, IsField, IsFieldHeader}
use Rattle.thrift_compact.proofs.Matching.{ok_is, failed, Takes, Matches, then_matches, map_matches}
use Rattle.thrift_compact.proofs.ScalarLemmas.{unsigned_matches, signed_matches}

-- ---- tests and what they mean

type_is : (ty : ℕ) → is_type ty ≡ true → IsType ty
type_is ty h = elim (cases_lt 0 ty) [
  | inl some ↦ elim (cases_lt ty 13) [
    | inl known ↦ (some, known)
    | inr past ↦ absurd (let bad : is_type ty ≡ false = rw (lt-ltb 0 ty some, le-ltb ty 13 past) refl in cc)
  ]
  | inr none ↦ absurd (let bad : is_type ty ≡ false = rw (le-ltb 0 ty none) refl in cc)
]

pub type_passes : (ty : ℕ) → IsType ty → is_type ty ≡ true
type_passes ty h = rw (lt-ltb 0 ty h.0, lt-ltb ty 13 h.1) refl

int_lt_is : (x y : ℤ) → int_lt x y ≡ true → x <ℤ y
int_lt_is x y h = grind (arith, ints)

pub int_lt_passes : (x y : ℤ) → x <ℤ y → int_lt x y ≡ true
int_lt_passes x y h = grind (arith, ints)

-- ifs one after the other, in a reader that gives a value
took : {A B : Type 0} (p : Bool) (r q : Read B) (x : B × List ℕ) → (p ≡ true → r ≡ Ok x → A) → (p ≡ false → q ≡ Ok x → A) → cond p r q ≡ Ok x → A
took true r q x f g e = f refl e
took false r q x f g e = g refl e

list_header_sound : (at : ℕ) (bytes : List ℕ) (header : ℕ × ℕ) (rest : List ℕ) → list_header_in at bytes ≡ Ok (header, rest) → Takes IsListHeader bytes header rest
unfolding list_header_in
list_header_sound at [] header rest e = failed (Short at) (header, rest) e
list_header_sound at (b ∷ bs) header rest e =
    took (is_type (low_bits b)) _ _ (header, rest)
    (λ good. took (eqb (high_bits b) 15) _ _ (header, rest)
    (λ p long.
    let m = map_matches (unsigned_in at (2 ^ 32)) (IsUnsigned (2 ^ 32)) (λ n. (low_bits b, n)) (unsigned_matches at (2 ^ 32)) in
    let i = m.sound bs header rest long in
    record {
      front = b ∷ i.front;
      parts = ap (λ (t : List ℕ). b ∷ t) i.parts;
      spells = (ap (λ (t : ℕ × ℕ). t.0) (sym i.spells.1), type_is _ good, inl (eqb-true (high_bits b) 15 p, subst (λ (n : ℕ). IsUnsigned (2 ^ 32) i.front n) (ap (λ (t : ℕ × ℕ). t.1) i.spells.1) i.spells.2));
    })
    (λ p short.
    let q = ok_is ((low_bits b, high_bits b), bs) (header, rest) short in
    record {
      front = b ∷ [];
      parts = ap (λ (t : (ℕ × ℕ) × List ℕ). b ∷ t.1) q;
      spells = (ap (λ (t : (ℕ × ℕ) × List ℕ). t.0.0) (sym q), type_is _ good, inr (grind arith, ap (λ (t : (ℕ × ℕ) × List ℕ). t.0.1) (sym q), refl));
    }))
    (λ bad fault. failed (BadType at (low_bits b)) (header, rest) fault) e

list_header_complete : (at : ℕ) (front rest : List ℕ) (header : ℕ × ℕ) → IsListHeader front header → list_header_in at (front ++ rest) ≡ Ok (header, rest)
unfolding list_header_in
list_header_complete at [] rest header h = absurd h
list_header_complete at (b ∷ bs) rest header (ty, good, inl h) =
    rw (type_passes _ good, h.0, (unsigned_matches at (2 ^ 32)).complete bs rest header.1 h.1, ← ty) refl
list_header_complete at (b ∷ bs) rest header (ty, good, inr h) =
    let p : eqb (high_bits b) 15 ≡ false = let ne : high_bits b ≢ 15 = h.0 in grind arith in
    rw (type_passes _ good, p, h.2, ← ty, ← h.1) refl

pub list_header_matches : (at : ℕ) → Matches (list_header_in at) IsListHeader
list_header_matches at = record { sound = list_header_sound at; complete = list_header_complete at }

abbrev pub MapTypes : ℕ → List ℕ → ℕ × ℕ × ℕ → Type 0
MapTypes n front m = ((n ≡ 0) × (front ≡ []) × (m ≡ (0, 0, 0))) ⊎ ((n ≢ 0) × (m.2 ≡ n) × IsEntryTypes front (m.0, m.1))

types_sound : (at n : ℕ) (bytes : List ℕ) (m : ℕ × ℕ × ℕ) (rest : List ℕ) → n ≢ 0 → entry_types_in at n bytes ≡ Ok (m, rest) → Takes (MapTypes n) bytes m rest
unfolding entry_types_in
types_sound at n [] m rest ne e = failed (Short at) (m, rest) e
types_sound at n (b ∷ bs) m rest ne e =
    took (is_type (high_bits b)) _ _ (m, rest)
    (λ good. took (is_type (low_bits b)) _ _ (m, rest)
    (λ fine read.
    let q = ok_is ((high_bits b, low_bits b, n), bs) (m, rest) read in
    record {
      front = b ∷ [];
      parts = ap (λ (t : (ℕ × ℕ × ℕ) × List ℕ). b ∷ t.1) q;
      spells = inr (ne, ap (λ (t : (ℕ × ℕ × ℕ) × List ℕ). t.0.2) (sym q), (refl, ap (λ (t : (ℕ × ℕ × ℕ) × List ℕ). t.0.0) (sym q), ap (λ (t : (ℕ × ℕ × ℕ) × List ℕ). t.0.1) (sym q), type_is _ good, type_is _ fine));
    })
    (λ bad fault. failed (BadType at (low_bits b)) (m, rest) fault))
    (λ bad fault. failed (BadType at (high_bits b)) (m, rest) fault) e

types_complete : (at n : ℕ) (front rest : List ℕ) (m : ℕ × ℕ × ℕ) → m.2 ≡ n → IsEntryTypes front (m.0, m.1) → entry_types_in at n (front ++ rest) ≡ Ok (m, rest)
unfolding entry_types_in
types_complete at n [] rest m e h = absurd h
types_complete at n (b ∷ bs) rest m e h = rw (type_passes _ h.3, type_passes _ h.4, h.0, ← h.1, ← h.2, ← e) refl

abbrev pub types_or_none : ℕ → ℕ → List ℕ → Read (ℕ × ℕ × ℕ)
types_or_none at n bytes = cond (eqb n 0) (Ok ((0, 0, 0), bytes)) (entry_types_in at n bytes)

map_types : (at n : ℕ) → Matches (types_or_none at n) (MapTypes n)
map_types at n = record {
  sound = λ bytes m rest. took (eqb n 0) _ _ (m, rest)
      (λ p empty.
      let q = ok_is ((0, 0, 0), bytes) (m, rest) empty in
      record { front = []; parts = ap (λ (t : (ℕ × ℕ × ℕ) × List ℕ). t.1) q; spells = inl (eqb-true n 0 p, refl, ap (λ (t : (ℕ × ℕ × ℕ) × List ℕ). t.0) (sym q)) })
      (λ p full. types_sound at n bytes m rest (grind arith) full);
  complete = back at n;
}
  where
    back : (at n : ℕ) (front rest : List ℕ) (m : ℕ × ℕ × ℕ) → MapTypes n front m → types_or_none at n (front ++ rest) ≡ Ok (m, rest)
    back at n front rest m (inl h) = rw (h.0, h.1, h.2) refl
    back at n front rest m (inr h) =
        let p : eqb n 0 ≡ false = let ne : n ≢ 0 = h.0 in grind arith in
        rw p (types_complete at n front rest m h.1 h.2)

pub map_header_matches : (at : ℕ) → Matches (map_header_in at) (Then (IsUnsigned (2 ^ 32)) MapTypes)
unfolding map_header_in
map_header_matches at = then_matches (unsigned_in at (2 ^ 32)) (types_or_none at) (IsUnsigned (2 ^ 32)) MapTypes (unsigned_matches at (2 ^ 32)) (map_types at)

field_header_sound : (at : ℕ) (last : ℤ) (bytes : List ℕ) (header : Option (ℤ × ℕ)) (rest : List ℕ) → field_header_in at last bytes ≡ Ok (header, rest) → Takes (IsFieldHeader last) bytes header rest
unfolding field_header_in
field_header_sound at last [] header rest e = failed (Short at) (header, rest) e
field_header_sound at last (b ∷ bs) header rest e =
    took (eqb b 0) _ _ (header, rest)
    (λ p end.
    let q = ok_is (nothing, bs) (header, rest) end in
    let zero : b ≡ 0 = eqb-true b 0 p in
    record { front = b ∷ []; parts = ap (λ (t : Option (ℤ × ℕ) × List ℕ). b ∷ t.1) q; spells = subst (λ (h : Option (ℤ × ℕ)). IsFieldHeader last (b ∷ []) h) (ap (λ (t : Option (ℤ × ℕ) × List ℕ). t.0) q) (ap (λ (n : ℕ). n ∷ []) zero) })
    (λ p. took (is_type (low_bits b)) _ _ (header, rest)
    (λ good. took (eqb (high_bits b) 0) _ _ (header, rest)
    (λ far long.
    let m = map_matches (signed_in at (2 ^ 16)) (IsSigned (2 ^ 16)) (λ id. some (id, low_bits b)) (signed_matches at (2 ^ 16)) in
    let i = m.sound bs header rest long in
    record {
      front = b ∷ i.front;
      parts = ap (λ (t : List ℕ). b ∷ t) i.parts;
      spells = subst (λ (h : Option (ℤ × ℕ)). IsFieldHeader last (b ∷ i.front) h) i.spells.1 (refl, type_is _ good, inl (eqb-true (high_bits b) 0 far, i.spells.2));
    })
    (λ near. took (int_lt (last +ℤ pos (high_bits b)) (pos 32768)) _ _ (header, rest)
    (λ fits short.
    let q = ok_is (some (last +ℤ pos (high_bits b), low_bits b), bs) (header, rest) short in
    record {
      front = b ∷ [];
      parts = ap (λ (t : Option (ℤ × ℕ) × List ℕ). b ∷ t.1) q;
      spells = subst (λ (h : Option (ℤ × ℕ)). IsFieldHeader last (b ∷ []) h) (ap (λ (t : Option (ℤ × ℕ) × List ℕ). t.0) q) (refl, type_is _ good, inr (grind arith, refl, refl, int_lt_is _ _ fits));
    })
    (λ wide fault. failed (TooWide at) (header, rest) fault)))
    (λ bad fault. failed (BadType at (low_bits b)) (header, rest) fault)) e
  where
    nothing : Option (ℤ × ℕ)
    nothing = None

    some : ℤ × ℕ → Option (ℤ × ℕ)
    some f = Some f

-- a byte that holds a type isn't 0
not_stop : (b : ℕ) → IsType (low_bits b) → eqb b 0 ≡ false
not_stop zero h = absurd (omega (arith, h.0))
not_stop (suc b) h = let ne : suc b ≢ 0 = omega arith in grind arith

field_header_complete : (at : ℕ) (last : ℤ) (front rest : List ℕ) (header : Option (ℤ × ℕ)) → IsFieldHeader last front header → field_header_in at last (front ++ rest) ≡ Ok (header, rest)
unfolding field_header_in
field_header_complete at last front rest None h = rw h refl
field_header_complete at last [] rest (Some field) h = absurd h
field_header_complete at last (b ∷ bs) rest (Some field) (ty, good, inl h) =
    rw (not_stop b good, type_passes _ good, h.0, (signed_matches at (2 ^ 16)).complete bs rest field.0 h.1, ← ty) refl
field_header_complete at last (b ∷ bs) rest (Some field) (ty, good, inr h) =
    let p : eqb (high_bits b) 0 ≡ false = let ne : high_bits b ≢ 0 = h.0 in grind arith in
    rw (not_stop b good, type_passes _ good, p, int_lt_passes _ _ h.3, h.1, ← h.2, ← ty) refl

pub field_header_matches : (at : ℕ) (last : ℤ) → Matches (field_header_in at last) (IsFieldHeader last)
field_header_matches at last = record { sound = field_header_sound at last; complete = field_header_complete at last }

-- a header takes a byte
pub field_long : (last : ℤ) (front : List ℕ) (f : ℤ × ℕ) → IsField last front f → 0 < length front
field_long last [] f h = absurd h
field_long last (b ∷ bs) f h = omega arith
