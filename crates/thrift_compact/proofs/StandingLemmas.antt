-- A fault other than `Short` stands, whatever bytes follow.
use Rattle.std.proofs.Common.{◌≡◌, ℕ, ℤ, pos, zero, suc, ◌+ℤ◌, ◌^◌, ◌+◌, ◌≤◌, ◌⊎◌, Bool, true, false, cond, ltb, eqb, List, [], ◌∷◌, ◌++◌, length, take, drop, Option, Some, None, Result, Ok, Err, refl, ap, subst, ◌∙◌, append_assoc, arith, inl, inr}
use Rattle.std.specs.Prelude.{int_lt}
use Rattle.std.proofs.lemmas.List.{length-append}
use Rattle.thrift_compact.specs.declared.fault.ThriftFault.{ThriftFault}
use Rattle.thrift_compact.specs.declared.fault.ThriftFault.TheVariants.{Short, BadType, TooDeep, TooWide}
use Rattle.thrift_compact.specs.Spelling.{signed_byte, high_bits, low_bits, IsNumber, IsUnsigned, IsSigned, IsFieldHeader, IsListHeader, Then}
use Rattle.thrift_compact.specs.Trees.{Tree, IsValue, IsElement}
use Rattle.answers.specs.Answers.{◌>>=◌}
use Rattle.thrift_compact.specs.Reading.{Read, Rest, rest_of, start_of, is_type, is_flag, is_nested, number_in, unsigned_in, signed_in, byte_in, bytes_in, binary_in, list_header_in, field_header_in, entry_types_in, map_header_in, after_plain, after_each, after_element, after_entry, after_fields, after_nested, after_value}
use Rattle.thrift_compact.specs.Laws.{IsShort, FaultsStand, ValueFaultsStand}
use Rattle.thrift_compact.proofs.SkippingLemmas.{after_field}
use Rattle.thrift_compact.proofs.Matching.{done, bind_ok, Matches}
use Rattle.thrift_compact.proofs.ScalarLemmas.{number_matches, unsigned_matches, signed_matches}
use Rattle.thrift_compact.proofs.HeaderLemmas.{MapTypes, map_header_matches, list_header_matches, field_header_matches}
use Rattle.thrift_compact.proofs.ValueLemmas.{Passes, element_passes, value_passes}

-- where r is a fault other than `Short`, so is r', and the same
abbrev pub Stands : {A : Type 0} → Result A ThriftFault → Result A ThriftFault → Type 0
Stands r r' = (fault : ThriftFault) → r ≡ Err fault → IsShort fault ⊎ (r' ≡ Err fault)

abbrev refused : {A : Type 0} → ThriftFault → Result A ThriftFault
refused fault = Err fault

ok_stands : {A : Type 0} (x : A) (r' : Result A ThriftFault) → Stands (done x) r'
ok_stands x r' fault e = absurd cc

short_stands : {A : Type 0} (at : ℕ) (r' : Result A ThriftFault) → Stands (refused (Short at)) r'
short_stands at r' fault e = let same : Short at ≡ fault = cc in inl (subst IsShort same tt)

err_stands : {A : Type 0} (d : ThriftFault) → Stands {A = A} (refused d) (refused d)
err_stands d fault e = inr e

cond_stands : {A : Type 0} (b : Bool) (r q r' q' : Result A ThriftFault) → Stands r r' → Stands q q' → Stands (cond b r q) (cond b r' q')
cond_stands true r q r' q' f g = f
cond_stands false r q r' q' f g = g

bind_stands : {A B : Type 0} (r r' : Result A ThriftFault) (f f' : A → Result B ThriftFault) → Stands r r'
    → ((x : A) → r ≡ Ok x → (y : A) × (r' ≡ Ok y) × Stands (f x) (f' y)) → Stands (r >>= f) (r' >>= f')
bind_stands (Ok x) r' f f' p q fault e =
    let next = q x refl in
    rw next.1 (next.2 fault e)
bind_stands (Err d) r' f f' p q fault e =
    elim (p fault (let same : d ≡ fault = cc in ap refused same)) [ inl short ↦ inl short | inr same ↦ inr (rw same refl) ]

-- what was read is read also where more bytes follow
grown : {A : Type 0} (R : List ℕ → Read A) (S : List ℕ → A → Type 0) → Matches R S → (bytes more : List ℕ) (x : A × List ℕ)
    → R bytes ≡ Ok x → R (bytes ++ more) ≡ Ok (x.0, x.1 ++ more)
grown R S m bytes more x e =
    let i = m.sound bytes x.0 x.1 e in
    ap R (ap (λ (z : List ℕ). z ++ more) i.parts ∙ append_assoc i.front x.1 more) ∙ m.complete i.front (x.1 ++ more) x.0 i.spells

-- ---- numbers and byte strings

number_stands : (at most : ℕ) (bytes more : List ℕ) → Stands (number_in at most bytes) (number_in at most (bytes ++ more))
unfolding number_in
number_stands at zero bytes more = err_stands (TooWide at)
number_stands at (suc most) [] more = short_stands at _
number_stands at (suc most) (b ∷ bs) more =
    cond_stands (ltb b 128) _ _ _ _ (ok_stands (b, bs) _)
    (bind_stands (number_in at most bs) (number_in at most (bs ++ more)) _ _ (number_stands at most bs more)
    (λ x e. ((x.0, x.1 ++ more), grown (number_in at most) (IsNumber most) (number_matches at most) bs more x e, ok_stands _ _)))

unsigned_stands : (at limit : ℕ) (bytes more : List ℕ) → Stands (unsigned_in at limit bytes) (unsigned_in at limit (bytes ++ more))
unfolding unsigned_in
unsigned_stands at limit bytes more =
    bind_stands (number_in at 10 bytes) (number_in at 10 (bytes ++ more)) _ _ (number_stands at 10 bytes more)
    (λ x e. (
      (x.0, x.1 ++ more),
      grown (number_in at 10) (IsNumber 10) (number_matches at 10) bytes more x e,
      cond_stands (ltb x.0 limit) _ _ _ _ (ok_stands x _) (err_stands (TooWide at)),
    ))

signed_stands : (at limit : ℕ) (bytes more : List ℕ) → Stands (signed_in at limit bytes) (signed_in at limit (bytes ++ more))
unfolding signed_in
signed_stands at limit bytes more =
    bind_stands (unsigned_in at limit bytes) (unsigned_in at limit (bytes ++ more)) _ _ (unsigned_stands at limit bytes more)
    (λ x e. ((x.0, x.1 ++ more), grown (unsigned_in at limit) (IsUnsigned limit) (unsigned_matches at limit) bytes more x e, ok_stands _ _))

byte_stands : (at : ℕ) (bytes more : List ℕ) → Stands (byte_in at bytes) (byte_in at (bytes ++ more))
unfolding byte_in
byte_stands at [] more = short_stands at _
byte_stands at (b ∷ bs) more = ok_stands (signed_byte b, bs) _

short_or_ok : {A : Type 0} (b : Bool) (at : ℕ) (x : A) (r' : Result A ThriftFault) → Stands (cond b (refused (Short at)) (done x)) r'
short_or_ok true at x r' = short_stands at r'
short_or_ok false at x r' = ok_stands x r'

bytes_stands : (at count : ℕ) (bytes more : List ℕ) (r' : Read (List ℕ)) → Stands (bytes_in at count bytes) r'
unfolding bytes_in
bytes_stands at count bytes more r' = short_or_ok (ltb (length bytes) count) at (take count bytes, drop count bytes) r'

binary_stands : (at : ℕ) (bytes more : List ℕ) → Stands (binary_in at bytes) (binary_in at (bytes ++ more))
unfolding binary_in
binary_stands at bytes more =
    bind_stands (unsigned_in at (2 ^ 32) bytes) (unsigned_in at (2 ^ 32) (bytes ++ more)) _ _ (unsigned_stands at (2 ^ 32) bytes more)
    (λ x e. (
      (x.0, x.1 ++ more),
      grown (unsigned_in at (2 ^ 32)) (IsUnsigned (2 ^ 32)) (unsigned_matches at (2 ^ 32)) bytes more x e,
      bytes_stands at x.0 x.1 more _,
    ))

-- ---- headers

list_header_stands : (at : ℕ) (bytes more : List ℕ) → Stands (list_header_in at bytes) (list_header_in at (bytes ++ more))
unfolding list_header_in
list_header_stands at [] more = short_stands at _
list_header_stands at (b ∷ bs) more =
    cond_stands (is_type (low_bits b)) _ _ _ _
    (cond_stands (eqb (high_bits b) 15) _ _ _ _
    (bind_stands (unsigned_in at (2 ^ 32) bs) (unsigned_in at (2 ^ 32) (bs ++ more)) _ _ (unsigned_stands at (2 ^ 32) bs more)
    (λ x e. ((x.0, x.1 ++ more), grown (unsigned_in at (2 ^ 32)) (IsUnsigned (2 ^ 32)) (unsigned_matches at (2 ^ 32)) bs more x e, ok_stands _ _)))
    (ok_stands _ _))
    (err_stands (BadType at (low_bits b)))

field_header_stands : (at : ℕ) (last : ℤ) (bytes more : List ℕ) → Stands (field_header_in at last bytes) (field_header_in at last (bytes ++ more))
unfolding field_header_in
field_header_stands at last [] more = short_stands at _
field_header_stands at last (b ∷ bs) more =
    cond_stands (eqb b 0) _ _ _ _ (ok_stands _ _)
    (cond_stands (is_type (low_bits b)) _ _ _ _
    (cond_stands (eqb (high_bits b) 0) _ _ _ _
    (bind_stands (signed_in at (2 ^ 16) bs) (signed_in at (2 ^ 16) (bs ++ more)) _ _ (signed_stands at (2 ^ 16) bs more)
    (λ x e. ((x.0, x.1 ++ more), grown (signed_in at (2 ^ 16)) (IsSigned (2 ^ 16)) (signed_matches at (2 ^ 16)) bs more x e, ok_stands _ _)))
    (cond_stands (int_lt (last +ℤ pos (high_bits b)) (pos 32768)) _ _ _ _ (ok_stands _ _) (err_stands (TooWide at))))
    (err_stands (BadType at (low_bits b))))

entry_types_stand : (at n : ℕ) (bytes more : List ℕ) → Stands (entry_types_in at n bytes) (entry_types_in at n (bytes ++ more))
unfolding entry_types_in
entry_types_stand at n [] more = short_stands at _
entry_types_stand at n (b ∷ bs) more =
    cond_stands (is_type (high_bits b)) _ _ _ _
    (cond_stands (is_type (low_bits b)) _ _ _ _ (ok_stands _ _) (err_stands (BadType at (low_bits b))))
    (err_stands (BadType at (high_bits b)))

map_header_stands : (at : ℕ) (bytes more : List ℕ) → Stands (map_header_in at bytes) (map_header_in at (bytes ++ more))
unfolding map_header_in
map_header_stands at bytes more =
    bind_stands (unsigned_in at (2 ^ 32) bytes) (unsigned_in at (2 ^ 32) (bytes ++ more)) _ _ (unsigned_stands at (2 ^ 32) bytes more)
    (λ x e. (
      (x.0, x.1 ++ more),
      grown (unsigned_in at (2 ^ 32)) (IsUnsigned (2 ^ 32)) (unsigned_matches at (2 ^ 32)) bytes more x e,
      cond_stands (eqb x.0 0) _ _ _ _ (ok_stands _ _) (entry_types_stand at x.0 x.1 more),
    ))

-- ---- values, of bytes that end at the offset `end`

rest_stands : {A : Type 0} (r r' : Read A) → Stands r r' → Stands (rest_of r) (rest_of r')
rest_stands (Ok x) r' p fault e = absurd cc
rest_stands (Err d) r' p fault e =
    elim (p fault (let same : d ≡ fault = cc in ap refused same)) [ inl short ↦ inl short | inr same ↦ inr (rw same refl) ]

plain_stands : (at ty : ℕ) (bytes more : List ℕ) → Stands (after_plain at ty bytes) (after_plain at ty (bytes ++ more))
unfolding after_plain
plain_stands at ty bytes more =
    cond_stands (is_flag ty) _ _ _ _ (ok_stands bytes _)
    (cond_stands (eqb ty 3) _ _ _ _ (rest_stands _ _ (bytes_stands at 1 bytes more _))
    (cond_stands (eqb ty 4) _ _ _ _ (rest_stands _ _ (signed_stands at (2 ^ 16) bytes more))
    (cond_stands (eqb ty 5) _ _ _ _ (rest_stands _ _ (signed_stands at (2 ^ 32) bytes more))
    (cond_stands (eqb ty 6) _ _ _ _ (rest_stands _ _ (signed_stands at (2 ^ 64) bytes more))
    (cond_stands (eqb ty 7) _ _ _ _ (rest_stands _ _ (bytes_stands at 8 bytes more _))
    (cond_stands (eqb ty 8) _ _ _ _ (rest_stands _ _ (binary_stands at bytes more))
    (err_stands (BadType at ty))))))))

start_of-append : (end : ℕ) (bytes more : List ℕ) → length bytes ≤ end → start_of (end + length more) (bytes ++ more) ≡ start_of end bytes
start_of-append end bytes more le = omega (arith, length-append bytes more)

-- what was passed over is passed over also where more bytes follow, and leaves no more bytes than there were
abbrev Grows : List ℕ → (List ℕ → Rest) → (List ℕ → Rest) → Type 0
Grows more R R' = (bytes rest : List ℕ) → R bytes ≡ Ok rest → (R' (bytes ++ more) ≡ Ok (rest ++ more)) × (length rest ≤ length bytes)

passes_grow : {A : Type 0} (more : List ℕ) (R R' : List ℕ → Rest) (S : List ℕ → A → Type 0) → Passes R S → Passes R' S → Grows more R R'
passes_grow more R R' S m m' bytes rest e =
    let i = m.sound bytes rest e in (
      ap R' (ap (λ (z : List ℕ). z ++ more) i.parts ∙ append_assoc i.front rest more) ∙ m'.complete i.front (rest ++ more) i.value i.spells,
      omega (arith, ap length i.parts, length-append i.front rest),
    )

-- the faults of what passes over stand, of bytes up to this offset
abbrev Standing : ℕ → List ℕ → (List ℕ → Rest) → (List ℕ → Rest) → Type 0
Standing end more R R' = (bytes : List ℕ) → length bytes ≤ end → Stands (R bytes) (R' (bytes ++ more))

then_standing : (end : ℕ) (more : List ℕ) (R R' F F' : List ℕ → Rest) → Grows more R R' → Standing end more R R' → Standing end more F F'
    → Standing end more (λ bytes. R bytes >>= F) (λ bytes. R' bytes >>= F')
then_standing end more R R' F F' grows r f bytes le =
    bind_stands (R bytes) (R' (bytes ++ more)) F F' (r bytes le)
    (λ rest e. let next = grows bytes rest e in (rest ++ more, next.0, f rest (omega (arith, next.1))))

then_grows : (more : List ℕ) (R R' F F' : List ℕ → Rest) → Grows more R R' → Grows more F F' → Grows more (λ bytes. R bytes >>= F) (λ bytes. R' bytes >>= F')
then_grows more R R' F F' r f bytes rest e =
    let s = bind_ok (R bytes) F rest e in
    let first = r bytes s.0 s.1 in
    let second = f s.0 rest s.2 in
    (rw first.0 second.0, omega (arith, first.1, second.1))

each_standing : (end : ℕ) (more : List ℕ) (R R' : List ℕ → Rest) → Grows more R R' → Standing end more R R' → (n : ℕ)
    → Standing end more (after_each R n) (after_each R' n)
unfolding after_each
each_standing end more R R' grows r zero bytes le = ok_stands bytes _
each_standing end more R R' grows r (suc n) bytes le =
    then_standing end more R R' (after_each R n) (after_each R' n) grows r (each_standing end more R R' grows r n) bytes le

module _ (end : ℕ) (more : List ℕ) (value value' : ℕ → List ℕ → Rest) (V : ℕ → List ℕ → Tree → Type 0)
    (m : (ty : ℕ) → Passes (value ty) (V ty)) (m' : (ty : ℕ) → Passes (value' ty) (V ty)) (h : (ty : ℕ) → Standing end more (value ty) (value' ty)) where
  element_standing : (ty : ℕ) → Standing end more (after_element end value ty) (after_element (end + length more) value' ty)
  unfolding after_element
  element_standing ty bytes le =
      cond_stands (is_flag ty) _ _ _ _ (rest_stands _ _ (bytes_stands (start_of end bytes) 1 bytes more _)) (h ty bytes le)

  element_grows : (ty : ℕ) → Grows more (after_element end value ty) (after_element (end + length more) value' ty)
  element_grows ty = passes_grow more (after_element end value ty) (after_element (end + length more) value' ty) (IsElement V ty)
      (element_passes end value V m ty) (element_passes (end + length more) value' V m' ty)

  entry_standing : (key ty : ℕ) → Standing end more (after_entry end value key ty) (after_entry (end + length more) value' key ty)
  unfolding after_entry
  entry_standing key ty bytes le =
      then_standing end more (after_element end value key) (after_element (end + length more) value' key)
      (after_element end value ty) (after_element (end + length more) value' ty) (element_grows key) (element_standing key) (element_standing ty) bytes le

  entry_grows : (key ty : ℕ) → Grows more (after_entry end value key ty) (after_entry (end + length more) value' key ty)
  unfolding after_entry
  entry_grows key ty bytes rest e =
      then_grows more (after_element end value key) (after_element (end + length more) value' key)
      (after_element end value ty) (after_element (end + length more) value' ty) (element_grows key) (element_grows ty) bytes rest e

  field_standing : (most most' : ℕ)
      → ((last : ℤ) → Standing end more (after_fields end value most last) (after_fields (end + length more) value' most' last))
      → (header : Option (ℤ × ℕ)) (bytes : List ℕ) → length bytes ≤ end
      → Stands (after_field end value most (header, bytes)) (after_field (end + length more) value' most' (header, bytes ++ more))
  field_standing most most' again None bytes le = ok_stands bytes _
  field_standing most most' again (Some f) bytes le =
      then_standing end more (value f.1) (value' f.1) (after_fields end value most f.0) (after_fields (end + length more) value' most' f.0)
      (passes_grow more (value f.1) (value' f.1) (V f.1) (m f.1) (m' f.1)) (h f.1) (again f.0) bytes le

  fields_standing : (most most' : ℕ) → most ≤ most' → (last : ℤ)
      → Standing end more (after_fields end value most last) (after_fields (end + length more) value' most' last)
  unfolding after_fields
  fields_standing zero most' small last bytes le = short_stands (start_of end bytes) _
  fields_standing (suc most) zero small last bytes le = absurd (omega arith)
  fields_standing (suc most) (suc most') small last bytes le =
      let at = start_of end bytes in
      let same : start_of (end + length more) (bytes ++ more) ≡ start_of end bytes = start_of-append end bytes more le in
      rw same (bind_stands (field_header_in (start_of end bytes) last bytes) (field_header_in (start_of end bytes) last (bytes ++ more))
      (after_field end value most) (after_field (end + length more) value' most') (field_header_stands (start_of end bytes) last bytes more)
      (λ x e.
      let i = (field_header_matches (start_of end bytes) last).sound bytes x.0 x.1 e in (
        (x.0, x.1 ++ more),
        grown (field_header_in (start_of end bytes) last) (IsFieldHeader last) (field_header_matches (start_of end bytes) last) bytes more x e,
        field_standing most most' (fields_standing most most' (omega arith)) x.0 x.1 (omega (arith, ap length i.parts, length-append i.front x.1)),
      )))

  nested_standing : (ty : ℕ) → Standing end more (after_nested end value ty) (after_nested (end + length more) value' ty)
  unfolding after_nested
  nested_standing ty bytes le =
      let same : start_of (end + length more) (bytes ++ more) ≡ start_of end bytes = start_of-append end bytes more le in
      rw same (cond_stands (eqb ty 12) _ _ _ _
      (fields_standing (length bytes) (length (bytes ++ more)) (omega (arith, length-append bytes more)) (pos 0) bytes le)
      (cond_stands (eqb ty 11) _ _ _ _
      (bind_stands (map_header_in (start_of end bytes) bytes) (map_header_in (start_of end bytes) (bytes ++ more)) _ _
      (map_header_stands (start_of end bytes) bytes more) (λ x e. of_map x e))
      (bind_stands (list_header_in (start_of end bytes) bytes) (list_header_in (start_of end bytes) (bytes ++ more)) _ _
      (list_header_stands (start_of end bytes) bytes more) (λ x e. of_list x e))))
    where
      of_map : (x : (ℕ × ℕ × ℕ) × List ℕ) → map_header_in (start_of end bytes) bytes ≡ Ok x
          → (y : (ℕ × ℕ × ℕ) × List ℕ) × (map_header_in (start_of end bytes) (bytes ++ more) ≡ Ok y)
          × Stands (after_each (after_entry end value x.0.0 x.0.1) x.0.2 x.1) (after_each (after_entry (end + length more) value' y.0.0 y.0.1) y.0.2 y.1)
      of_map x e =
          let i = (map_header_matches (start_of end bytes)).sound bytes x.0 x.1 e in (
            (x.0, x.1 ++ more),
            grown (map_header_in (start_of end bytes)) (Then (IsUnsigned (2 ^ 32)) MapTypes) (map_header_matches (start_of end bytes)) bytes more x e,
            each_standing end more (after_entry end value x.0.0 x.0.1) (after_entry (end + length more) value' x.0.0 x.0.1)
                (entry_grows x.0.0 x.0.1) (entry_standing x.0.0 x.0.1) x.0.2 x.1 (omega (arith, ap length i.parts, length-append i.front x.1)),
          )

      of_list : (x : (ℕ × ℕ) × List ℕ) → list_header_in (start_of end bytes) bytes ≡ Ok x
          → (y : (ℕ × ℕ) × List ℕ) × (list_header_in (start_of end bytes) (bytes ++ more) ≡ Ok y)
          × Stands (after_each (after_element end value x.0.0) x.0.1 x.1) (after_each (after_element (end + length more) value' y.0.0) y.0.1 y.1)
      of_list x e =
          let i = (list_header_matches (start_of end bytes)).sound bytes x.0 x.1 e in (
            (x.0, x.1 ++ more),
            grown (list_header_in (start_of end bytes)) IsListHeader (list_header_matches (start_of end bytes)) bytes more x e,
            each_standing end more (after_element end value x.0.0) (after_element (end + length more) value' x.0.0)
                (element_grows x.0.0) (element_standing x.0.0) x.0.1 x.1 (omega (arith, ap length i.parts, length-append i.front x.1)),
          )

value_standing : (end : ℕ) (more : List ℕ) (depth ty : ℕ) → Standing end more (after_value end depth ty) (after_value (end + length more) depth ty)
unfolding after_value
value_standing end more zero ty bytes le =
    let same : start_of (end + length more) (bytes ++ more) ≡ start_of end bytes = start_of-append end bytes more le in
    rw same (cond_stands (is_nested ty) _ _ _ _ (err_stands (TooDeep (start_of end bytes))) (plain_stands (start_of end bytes) ty bytes more))
value_standing end more (suc depth) ty bytes le =
    let same : start_of (end + length more) (bytes ++ more) ≡ start_of end bytes = start_of-append end bytes more le in
    rw same (cond_stands (is_nested ty) _ _ _ _
    (nested_standing end more (after_value end depth) (after_value (end + length more) depth) (IsValue depth)
    (value_passes end depth) (value_passes (end + length more) depth) (value_standing end more depth) ty bytes le)
    (plain_stands (start_of end bytes) ty bytes more))

-- ---- the laws

pub signed_faults_stand : (at limit : ℕ) → FaultsStand (signed_in at limit)
signed_faults_stand = signed_stands

pub byte_faults_stand : (at : ℕ) → FaultsStand (byte_in at)
byte_faults_stand = byte_stands

pub binary_faults_stand : (at : ℕ) → FaultsStand (binary_in at)
binary_faults_stand = binary_stands

pub list_header_faults_stand : (at : ℕ) → FaultsStand (list_header_in at)
list_header_faults_stand = list_header_stands

pub field_header_faults_stand : (at : ℕ) (last : ℤ) → FaultsStand (field_header_in at last)
field_header_faults_stand = field_header_stands

pub value_faults_stand : (depth ty : ℕ) → ValueFaultsStand depth ty
value_faults_stand depth ty end bytes more fault le = value_standing end more depth ty bytes le fault
