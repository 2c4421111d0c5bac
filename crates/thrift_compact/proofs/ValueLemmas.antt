-- Values: what is passed over is a value, and each value is passed over.
use Rattle.std.proofs.Common.{◌≡◌, ℕ, ℤ, pos, zero, suc, ◌^◌, ◌<◌, ◌≤◌, ◌≢◌, ◌⊎◌, Bool, true, false, cond, eqb, ◌||◌, List, [], ◌∷◌, ◌++◌, length, Option, Some, None, Ok, Err, refl, sym, ap, subst, ◌∙◌, append_assoc, arith, inl, inr}
use Rattle.std.proofs.lemmas.Bool.{eqb-true}
use Rattle.std.proofs.lemmas.List.{length-append, append-nil}
use Rattle.thrift_compact.specs.declared.fault.ThriftFault.TheVariants.{Short, BadType, TooDeep}
use Rattle.answers.specs.Answers.{◌>>=◌}
use Rattle.thrift_compact.specs.Reading.{Read, Rest, rest_of, start_of, signed_in, bytes_in, binary_in, after_plain, is_nested, list_header_in, field_header_in, after_each, map_header_in, after_element, after_entry, after_fields, after_nested, after_value}
use Rattle.thrift_compact.specs.Spelling.{IsUnsigned, IsSigned, Then, IsBytes, IsBinary, IsFieldHeader}
use Rattle.thrift_compact.specs.Trees.{Tree, Flag, Byte, Int16, Int32, Int64, Double, Binary, Elements, Entries, Fields, TreeList, Nil, Cons, FieldList, Stop, Field, IsPlain, IsSequence, IsEntries, IsElement, IsFields, IsMap, IsNested, IsValue}
use Rattle.thrift_compact.proofs.SkippingLemmas.{after_field}
use Rattle.thrift_compact.proofs.Matching.{bind_ok, ok_is, failed, Takes, Matches, done}
use Rattle.thrift_compact.proofs.ScalarLemmas.{signed_matches, bytes_matches, binary_matches}
use Rattle.thrift_compact.proofs.HeaderLemmas.{list_header_matches, MapTypes, map_header_matches, field_header_matches, field_long}

-- the bytes begin with a spelling of some x, and rest follows it
pub record Passed {A : Type 0} (S : List ℕ → A → Type 0) (bytes rest : List ℕ) : Type 0 where
  pub value : A
  pub front : List ℕ
  pub parts : bytes ≡ front ++ rest
  pub spells : S front value

pub record Passes {A : Type 0} (R : List ℕ → Rest) (S : List ℕ → A → Type 0) : Type 0 where
  pub sound : (bytes rest : List ℕ) → R bytes ≡ Ok rest → Passed S bytes rest
  pub complete : (front rest : List ℕ) (x : A) → S front x → R (front ++ rest) ≡ Ok rest

rest_ok : {A : Type 0} (r : Read A) (rest : List ℕ) → rest_of r ≡ Ok rest → (x : A) × (r ≡ Ok (x, rest))
rest_ok (Ok x) rest e = (x.0, ap (λ (t : List ℕ). Ok (x.0, t)) (ok_is x.1 rest e))
rest_ok (Err f) rest e = failed f rest e

text_of_byte : (bytes t : List ℕ) → IsBytes 1 bytes t → (b : ℕ) × (t ≡ b ∷ [])
text_of_byte bytes [] h = absurd (omega (arith, h.1))
text_of_byte bytes (b ∷ []) h = (b, refl)
text_of_byte bytes (b ∷ c ∷ t) h = absurd (omega (arith, h.1))

-- an item that is read and passed over, seen as a tree
seen : {A B : Type 0} (R : List ℕ → Read A) (S : List ℕ → A → Type 0) (T : List ℕ → B → Type 0)
    → Matches R S → ((front : List ℕ) (x : A) → S front x → (y : B) × T front y) → (bytes rest : List ℕ) → rest_of (R bytes) ≡ Ok rest → Passed T bytes rest
seen R S T m to bytes rest e =
    let s = rest_ok (R bytes) rest e in
    let i = m.sound bytes s.0 rest s.1 in
    let t = to i.front s.0 i.spells in
    record { value = t.0; front = i.front; parts = i.parts; spells = t.1 }

again : {A : Type 0} (R : List ℕ → Read A) (S : List ℕ → A → Type 0) → Matches R S → (front rest : List ℕ) (x : A) → S front x → rest_of (R (front ++ rest)) ≡ Ok rest
again R S m front rest x s = rw (m.complete front rest x s) refl

plain_complete : (at ty : ℕ) (front rest : List ℕ) (tree : Tree) → IsPlain ty front tree → after_plain at ty (front ++ rest) ≡ Ok rest
unfolding after_plain
plain_complete at ty front rest (Flag v) h = elim h.2 [ inl e ↦ rw (h.0, e, h.1) refl | inr e ↦ rw (h.0, e, h.1) refl ]
plain_complete at ty front rest (Byte b) h = rw h.0 (again (bytes_in at 1) (IsBytes 1) (bytes_matches at 1) front rest (b ∷ []) h.1)
plain_complete at ty front rest (Int16 z) h = rw h.0 (again (signed_in at (2 ^ 16)) (IsSigned (2 ^ 16)) (signed_matches at (2 ^ 16)) front rest z h.1)
plain_complete at ty front rest (Int32 z) h = rw h.0 (again (signed_in at (2 ^ 32)) (IsSigned (2 ^ 32)) (signed_matches at (2 ^ 32)) front rest z h.1)
plain_complete at ty front rest (Int64 z) h = rw h.0 (again (signed_in at (2 ^ 64)) (IsSigned (2 ^ 64)) (signed_matches at (2 ^ 64)) front rest z h.1)
plain_complete at ty front rest (Double t) h = rw h.0 (again (bytes_in at 8) (IsBytes 8) (bytes_matches at 8) front rest t h.1)
plain_complete at ty front rest (Binary t) h = rw h.0 (again (binary_in at) IsBinary (binary_matches at) front rest t h.1)
plain_complete at ty front rest (Elements t z) h = absurd h
plain_complete at ty front rest (Entries z) h = absurd h
plain_complete at ty front rest (Fields z) h = absurd h

-- the types of plain values
pub plain_type : (ty : ℕ) (front : List ℕ) (tree : Tree) → IsPlain ty front tree → (0 < ty) × (ty < 9)
plain_type ty front (Flag v) h = elim h.2 [ inl e ↦ (omega (arith, h.0, e), omega (arith, h.0, e)) | inr e ↦ (omega (arith, h.0, e), omega (arith, h.0, e)) ]
plain_type ty front (Byte b) h = (omega (arith, h.0), omega (arith, h.0))
plain_type ty front (Int16 z) h = (omega (arith, h.0), omega (arith, h.0))
plain_type ty front (Int32 z) h = (omega (arith, h.0), omega (arith, h.0))
plain_type ty front (Int64 z) h = (omega (arith, h.0), omega (arith, h.0))
plain_type ty front (Double t) h = (omega (arith, h.0), omega (arith, h.0))
plain_type ty front (Binary t) h = (omega (arith, h.0), omega (arith, h.0))
plain_type ty front (Elements t z) h = absurd h
plain_type ty front (Entries z) h = absurd h
plain_type ty front (Fields z) h = absurd h

-- ifs one after the other: whichever is taken gives a value, if the bytes are passed over
taken : {A : Type 0} (p : Bool) (r q : Rest) (rest : List ℕ) → (p ≡ true → r ≡ Ok rest → A) → (p ≡ false → q ≡ Ok rest → A) → cond p r q ≡ Ok rest → A
taken true r q rest f g e = f refl e
taken false r q rest f g e = g refl e

is_flag : (ty : ℕ) → (eqb ty 1 || eqb ty 2) ≡ true → (ty ≡ 1) ⊎ (ty ≡ 2)
is_flag ty h = grind (arith, eqb-true)

plain_sound : (at ty : ℕ) (bytes rest : List ℕ) → after_plain at ty bytes ≡ Ok rest → Passed (IsPlain ty) bytes rest
unfolding after_plain
plain_sound at ty bytes rest =
    taken (eqb ty 1 || eqb ty 2) _ _ rest (λ p e. flag p e)
    (λ n1. taken (eqb ty 3) _ _ rest (λ p e. seen (bytes_in at 1) (IsBytes 1) (IsPlain ty) (bytes_matches at 1) (λ front x s. let b = text_of_byte front x s in (Byte b.0, (eqb-true ty 3 p, subst (IsBytes 1 front) b.1 s))) bytes rest e)
    (λ n2. taken (eqb ty 4) _ _ rest (λ p e. seen (signed_in at (2 ^ 16)) (IsSigned (2 ^ 16)) (IsPlain ty) (signed_matches at (2 ^ 16)) (λ front x s. (Int16 x, (eqb-true ty 4 p, s))) bytes rest e)
    (λ n3. taken (eqb ty 5) _ _ rest (λ p e. seen (signed_in at (2 ^ 32)) (IsSigned (2 ^ 32)) (IsPlain ty) (signed_matches at (2 ^ 32)) (λ front x s. (Int32 x, (eqb-true ty 5 p, s))) bytes rest e)
    (λ n4. taken (eqb ty 6) _ _ rest (λ p e. seen (signed_in at (2 ^ 64)) (IsSigned (2 ^ 64)) (IsPlain ty) (signed_matches at (2 ^ 64)) (λ front x s. (Int64 x, (eqb-true ty 6 p, s))) bytes rest e)
    (λ n5. taken (eqb ty 7) _ _ rest (λ p e. seen (bytes_in at 8) (IsBytes 8) (IsPlain ty) (bytes_matches at 8) (λ front x s. (Double x, (eqb-true ty 7 p, s))) bytes rest e)
    (λ n6. taken (eqb ty 8) _ _ rest (λ p e. seen (binary_in at) IsBinary (IsPlain ty) (binary_matches at) (λ front x s. (Binary x, (eqb-true ty 8 p, s))) bytes rest e)
    (λ n7 e. failed (BadType at ty) rest e)))))))
  where
    flag : (eqb ty 1 || eqb ty 2) ≡ true → done bytes ≡ Ok rest → Passed (IsPlain ty) bytes rest
    flag p e = record { value = Flag ty; front = []; parts = ok_is bytes rest e; spells = (refl, refl, is_flag ty p) }

pub plain_passes : (at ty : ℕ) → Passes (after_plain at ty) (IsPlain ty)
plain_passes at ty = record { sound = plain_sound at ty; complete = plain_complete at ty }

-- ---- one after the other

sequence_sound : (step : List ℕ → Rest) (S : List ℕ → Tree → Type 0) → Passes step S → (n : ℕ) (bytes rest : List ℕ) → after_each step n bytes ≡ Ok rest → Passed (IsSequence S n) bytes rest
unfolding after_each
sequence_sound step S m zero bytes rest e = record { value = Nil; front = []; parts = ok_is bytes rest e; spells = refl }
sequence_sound step S m (suc n) bytes rest e =
    let s = bind_ok (step bytes) (after_each step n) rest e in
    let i = m.sound bytes s.0 s.1 in
    let j = sequence_sound step S m n s.0 rest s.2 in
    record {
      value = Cons i.value j.value;
      front = i.front ++ j.front;
      parts = i.parts ∙ ap (λ (t : List ℕ). i.front ++ t) j.parts ∙ sym (append_assoc i.front j.front rest);
      spells = (i.front, j.front, refl, i.spells, j.spells);
    }

sequence_complete : (step : List ℕ → Rest) (S : List ℕ → Tree → Type 0) → Passes step S → (n : ℕ) (front rest : List ℕ) (trees : TreeList) → IsSequence S n front trees → after_each step n (front ++ rest) ≡ Ok rest
unfolding after_each
sequence_complete step S m zero front rest Nil h = rw h refl
sequence_complete step S m zero front rest (Cons t ts) h = absurd h
sequence_complete step S m (suc n) front rest Nil h = absurd h
sequence_complete step S m (suc n) front rest (Cons t ts) (a, b, parts, s, u) =
    let regrouped : front ++ rest ≡ a ++ (b ++ rest) = ap (λ (p : List ℕ). p ++ rest) parts ∙ append_assoc a b rest in
    let one : step (front ++ rest) ≡ Ok (b ++ rest) = ap step regrouped ∙ m.complete a (b ++ rest) t s in
    rw one (sequence_complete step S m n b rest ts u)

pub sequence_passes : (step : List ℕ → Rest) (S : List ℕ → Tree → Type 0) → Passes step S → (n : ℕ) → Passes (after_each step n) (IsSequence S n)
sequence_passes step S m n = record { sound = sequence_sound step S m n; complete = sequence_complete step S m n }

-- ---- elements

flag_values : (ty b : ℕ) → ((ty ≡ 1) ⊎ (ty ≡ 2)) → (eqb ty 1 || eqb ty 2) ≡ true
flag_values ty b (inl h) = rw h refl
flag_values ty b (inr h) = rw h refl

no_flag : (ty : ℕ) → (eqb ty 1 || eqb ty 2) ≡ false → (ty ≢ 1) × (ty ≢ 2)
no_flag ty h = (λ e. grind (arith), λ e. grind (arith))

not_flag : (ty : ℕ) → ty ≢ 1 → ty ≢ 2 → (eqb ty 1 || eqb ty 2) ≡ false
not_flag ty h k = grind arith

element_sound : (end : ℕ) (value : ℕ → List ℕ → Rest) (V : ℕ → List ℕ → Tree → Type 0) → ((ty : ℕ) → Passes (value ty) (V ty)) → (ty : ℕ) (bytes rest : List ℕ)
    → after_element end value ty bytes ≡ Ok rest → Passed (IsElement V ty) bytes rest
unfolding after_element
element_sound end value V m ty bytes rest e =
    taken (eqb ty 1 || eqb ty 2) _ _ rest
    (λ p one. seen (bytes_in (start_of end bytes) 1) (IsBytes 1) (IsElement V ty) (bytes_matches (start_of end bytes) 1)
    (λ front x s. let b = text_of_byte front x s in (Flag b.0, inl (is_flag ty p, (b.0, refl, s.0 ∙ b.1)))) bytes rest one)
    (λ p other.
    let i = (m ty).sound bytes rest other in
    let ne = no_flag ty p in
    record { value = i.value; front = i.front; parts = i.parts; spells = inr (ne.0, ne.1, i.spells) }) e

element_complete : (end : ℕ) (value : ℕ → List ℕ → Rest) (V : ℕ → List ℕ → Tree → Type 0) → ((ty : ℕ) → Passes (value ty) (V ty)) → (ty : ℕ) (front rest : List ℕ) (tree : Tree)
    → IsElement V ty front tree → after_element end value ty (front ++ rest) ≡ Ok rest
unfolding after_element
element_complete end value V m ty front rest tree (inl (flag, (b, is, bytes))) =
    rw (flag_values ty b flag) (again (bytes_in (start_of end (front ++ rest)) 1) (IsBytes 1) (bytes_matches (start_of end (front ++ rest)) 1) front rest (b ∷ []) (bytes, refl))
element_complete end value V m ty front rest tree (inr (no1, no2, v)) =
    rw (not_flag ty no1 no2) ((m ty).complete front rest tree v)

pub element_passes : (end : ℕ) (value : ℕ → List ℕ → Rest) (V : ℕ → List ℕ → Tree → Type 0) → ((ty : ℕ) → Passes (value ty) (V ty)) → (ty : ℕ) → Passes (after_element end value ty) (IsElement V ty)
element_passes end value V m ty = record { sound = element_sound end value V m ty; complete = element_complete end value V m ty }

-- ---- maps

entry_parts : (end : ℕ) (value : ℕ → List ℕ → Rest) (V : ℕ → List ℕ → Tree → Type 0) → ((ty : ℕ) → Passes (value ty) (V ty)) → (key ty n : ℕ) (bytes rest : List ℕ)
    → after_each (after_entry end value key ty) n bytes ≡ Ok rest → Passed (IsEntries (IsElement V key) (IsElement V ty) n) bytes rest
unfolding after_each after_entry
entry_parts end value V m key ty zero bytes rest e = record { value = Nil; front = []; parts = ok_is bytes rest e; spells = refl }
entry_parts end value V m key ty (suc n) bytes rest e =
    let s = bind_ok (after_element end value key bytes >>= after_element end value ty) (after_each (after_entry end value key ty) n) rest e in
    let t = bind_ok (after_element end value key bytes) (after_element end value ty) s.0 s.1 in
    let i = (element_passes end value V m key).sound bytes t.0 t.1 in
    let j = (element_passes end value V m ty).sound t.0 s.0 t.2 in
    let k = entry_parts end value V m key ty n s.0 rest s.2 in
    record {
      value = Cons i.value (Cons j.value k.value);
      front = i.front ++ (j.front ++ k.front);
      parts = i.parts ∙ ap (λ (u : List ℕ). i.front ++ u) (j.parts ∙ ap (λ (u : List ℕ). j.front ++ u) k.parts) ∙ simp append_assoc;
      spells = (i.front, j.front, k.front, refl, i.spells, j.spells, k.spells);
    }

entry_again : (end : ℕ) (value : ℕ → List ℕ → Rest) (V : ℕ → List ℕ → Tree → Type 0) → ((ty : ℕ) → Passes (value ty) (V ty)) → (key ty n : ℕ) (front rest : List ℕ) (trees : TreeList)
    → IsEntries (IsElement V key) (IsElement V ty) n front trees → after_each (after_entry end value key ty) n (front ++ rest) ≡ Ok rest
unfolding after_each after_entry
entry_again end value V m key ty zero front rest Nil h = rw h refl
entry_again end value V m key ty zero front rest (Cons t ts) h = absurd h
entry_again end value V m key ty (suc n) front rest Nil h = absurd h
entry_again end value V m key ty (suc n) front rest (Cons t Nil) h = absurd h
entry_again end value V m key ty (suc n) front rest (Cons t (Cons u ts)) (a, b, c, parts, s, v, w) =
    let regrouped : front ++ rest ≡ a ++ (b ++ (c ++ rest)) = ap (λ (p : List ℕ). p ++ rest) parts ∙ simp append_assoc in
    let one : after_element end value key (front ++ rest) ≡ Ok (b ++ (c ++ rest)) = ap (after_element end value key) regrouped ∙ (element_passes end value V m key).complete a (b ++ (c ++ rest)) t s in
    let two : after_element end value ty (b ++ (c ++ rest)) ≡ Ok (c ++ rest) = (element_passes end value V m ty).complete b (c ++ rest) u v in
    rw (one, two) (entry_again end value V m key ty n c rest ts w)

-- ---- fields

fields_next : (end most : ℕ) (value : ℕ → List ℕ → Rest) (V : ℕ → List ℕ → Tree → Type 0) → ((ty : ℕ) → Passes (value ty) (V ty))
    → ((last : ℤ) (bytes rest : List ℕ) → after_fields end value most last bytes ≡ Ok rest → Passed (IsFields V last) bytes rest)
    → (last : ℤ) (bytes : List ℕ) (header : Option (ℤ × ℕ)) (mid rest : List ℕ) → Takes (IsFieldHeader last) bytes header mid
    → after_field end value most (header, mid) ≡ Ok rest → Passed (IsFields V last) bytes rest
fields_next end most value V m again last bytes None mid rest i e =
    record { value = Stop; front = i.front; parts = i.parts ∙ ap (λ (u : List ℕ). i.front ++ u) (ok_is mid rest e); spells = i.spells }
fields_next end most value V m again last bytes (Some f) mid rest i e =
    let s = bind_ok (value f.1 mid) (after_fields end value most f.0) rest e in
    let j = (m f.1).sound mid s.0 s.1 in
    let k = again f.0 s.0 rest s.2 in
    record {
      value = Field f.0 f.1 j.value k.value;
      front = i.front ++ (j.front ++ k.front);
      parts = i.parts ∙ ap (λ (u : List ℕ). i.front ++ u) (j.parts ∙ ap (λ (u : List ℕ). j.front ++ u) k.parts) ∙ simp append_assoc;
      spells = (i.front, j.front, k.front, refl, i.spells, j.spells, k.spells);
    }

fields_sound : (end : ℕ) (value : ℕ → List ℕ → Rest) (V : ℕ → List ℕ → Tree → Type 0) → ((ty : ℕ) → Passes (value ty) (V ty)) → (most : ℕ)
    (last : ℤ) (bytes rest : List ℕ) → after_fields end value most last bytes ≡ Ok rest → Passed (IsFields V last) bytes rest
unfolding after_fields
fields_sound end value V m zero last bytes rest e = failed (Short (start_of end bytes)) rest e
fields_sound end value V m (suc most) last bytes rest e =
    let s = bind_ok (field_header_in (start_of end bytes) last bytes) (after_field end value most) rest e in
    fields_next end most value V m (fields_sound end value V m most) last bytes s.0.0 s.0.1 rest ((field_header_matches (start_of end bytes) last).sound bytes s.0.0 s.0.1 s.1) s.2

fields_again : (end : ℕ) (value : ℕ → List ℕ → Rest) (V : ℕ → List ℕ → Tree → Type 0) → ((ty : ℕ) → Passes (value ty) (V ty)) → (most : ℕ)
    (last : ℤ) (front rest : List ℕ) (fields : FieldList) → IsFields V last front fields → length front ≤ most → after_fields end value most last (front ++ rest) ≡ Ok rest
unfolding after_fields
fields_again end value V m zero last front rest Stop h le = absurd (omega (arith, ap length h))
fields_again end value V m zero last front rest (Field id ty tree fields) (a, b, c, parts, header, v, others) le =
    absurd (omega (arith, ap length parts, length-append a (b ++ c), field_long last a (id, ty) header))
fields_again end value V m (suc most) last front rest Stop h le =
    let one : field_header_in (start_of end (front ++ rest)) last (front ++ rest) ≡ Ok (None, rest) = (field_header_matches (start_of end (front ++ rest)) last).complete front rest None h in
    rw one refl
fields_again end value V m (suc most) last front rest (Field id ty tree fields) (a, b, c, parts, header, v, others) le =
    let regrouped : front ++ rest ≡ a ++ (b ++ (c ++ rest)) = ap (λ (p : List ℕ). p ++ rest) parts ∙ simp append_assoc in
    let shorter : length c ≤ most = omega (arith, ap length parts, length-append a (b ++ c), length-append b c, field_long last a (id, ty) header) in
    let one : field_header_in (start_of end (front ++ rest)) last (front ++ rest) ≡ Ok (Some (id, ty), b ++ (c ++ rest)) =
    ap (field_header_in (start_of end (front ++ rest)) last) regrouped ∙ (field_header_matches (start_of end (front ++ rest)) last).complete a (b ++ (c ++ rest)) (Some (id, ty)) header in
    let two : value ty (b ++ (c ++ rest)) ≡ Ok (c ++ rest) = (m ty).complete b (c ++ rest) tree v in
    rw (one, two) (fields_again end value V m most id c rest fields others shorter)

pairs_none : (S T : List ℕ → Tree → Type 0) (bytes : List ℕ) (trees : TreeList) → IsEntries S T 0 bytes trees → (bytes ≡ []) × (trees ≡ Nil)
pairs_none S T bytes Nil h = (h, refl)
pairs_none S T bytes (Cons t ts) h = absurd h

map_is : (V : ℕ → List ℕ → Tree → Type 0) (m : ℕ × ℕ × ℕ) (front c : List ℕ) (trees : TreeList) → Then (IsUnsigned (2 ^ 32)) MapTypes front m
    → IsEntries (IsElement V m.0) (IsElement V m.1) m.2 c trees → IsMap V (front ++ c) trees
map_is V m front c trees (n, a, b, parts, spelled, inl h) pairs =
    let zero : m.2 ≡ 0 = ap (λ (t : ℕ × ℕ × ℕ). t.2) h.2 in
    let end = pairs_none (IsElement V m.0) (IsElement V m.1) c trees (subst (λ (k : ℕ). IsEntries (IsElement V m.0) (IsElement V m.1) k c trees) zero pairs) in
    let same : front ++ c ≡ a = rw (parts, h.1, end.0) (append-nil (a ++ []) ∙ append-nil a) in
    inl (rw same (subst (λ (k : ℕ). IsUnsigned (2 ^ 32) a k) h.0 spelled), end.1)
map_is V m front c trees (n, a, b, parts, spelled, inr h) pairs =
    inr (m.2, m.0, m.1, a, b, c, ap (λ (t : List ℕ). t ++ c) parts ∙ append_assoc a b c, subst (λ (k : ℕ). k ≢ 0) (sym h.1) h.0, rw h.1 spelled, h.2, pairs)

-- ---- values

nested_sound : (end : ℕ) (value : ℕ → List ℕ → Rest) (V : ℕ → List ℕ → Tree → Type 0) → ((ty : ℕ) → Passes (value ty) (V ty)) → (ty : ℕ) (bytes rest : List ℕ)
    → is_nested ty ≡ true → after_nested end value ty bytes ≡ Ok rest → Passed (IsNested V ty) bytes rest
unfolding after_nested
nested_sound end value V m ty bytes rest nest =
    taken (eqb ty 12) _ _ rest
    (λ p e. let i = fields_sound end value V m (length bytes) (pos 0) bytes rest e in
    record { value = Fields i.value; front = i.front; parts = i.parts; spells = (eqb-true ty 12 p, i.spells) })
    (λ n12. taken (eqb ty 11) _ _ rest
    (λ p e. of_map (eqb-true ty 11 p) e)
    (λ n11 e. of_list (grind arith) e))
  where
    of_map : ty ≡ 11 → (map_header_in (start_of end bytes) bytes >>= λ m. after_each (after_entry end value m.0.0 m.0.1) m.0.2 m.1) ≡ Ok rest → Passed (IsNested V ty) bytes rest
    of_map is e =
        let s = bind_ok (map_header_in (start_of end bytes) bytes) (λ m. after_each (after_entry end value m.0.0 m.0.1) m.0.2 m.1) rest e in
        let i = (map_header_matches (start_of end bytes)).sound bytes s.0.0 s.0.1 s.1 in
        let j = entry_parts end value V m s.0.0.0 s.0.0.1 s.0.0.2 s.0.1 rest s.2 in
        record {
          value = Entries j.value;
          front = i.front ++ j.front;
          parts = i.parts ∙ ap (λ (t : List ℕ). i.front ++ t) j.parts ∙ sym (append_assoc i.front j.front rest);
          spells = (is, map_is V s.0.0 i.front j.front j.value i.spells j.spells);
        }

    of_list : (ty ≡ 9) ⊎ (ty ≡ 10) → (list_header_in (start_of end bytes) bytes >>= λ l. after_each (after_element end value l.0.0) l.0.1 l.1) ≡ Ok rest → Passed (IsNested V ty) bytes rest
    of_list is e =
        let s = bind_ok (list_header_in (start_of end bytes) bytes) (λ l. after_each (after_element end value l.0.0) l.0.1 l.1) rest e in
        let i = (list_header_matches (start_of end bytes)).sound bytes s.0.0 s.0.1 s.1 in
        let j = (sequence_passes (after_element end value s.0.0.0) (IsElement V s.0.0.0) (element_passes end value V m s.0.0.0) s.0.0.1).sound s.0.1 rest s.2 in
        record {
          value = Elements ty j.value;
          front = i.front ++ j.front;
          parts = i.parts ∙ ap (λ (t : List ℕ). i.front ++ t) j.parts ∙ sym (append_assoc i.front j.front rest);
          spells = (refl, is, (s.0.0, i.front, j.front, refl, i.spells, j.spells));
        }

nested_complete : (end : ℕ) (value : ℕ → List ℕ → Rest) (V : ℕ → List ℕ → Tree → Type 0) → ((ty : ℕ) → Passes (value ty) (V ty)) → (ty : ℕ) (front rest : List ℕ) (tree : Tree)
    → IsNested V ty front tree → after_nested end value ty (front ++ rest) ≡ Ok rest
unfolding after_nested after_each
nested_complete end value V m ty front rest (Fields fields) (is, h) =
    rw is (fields_again end value V m (length (front ++ rest)) (pos 0) front rest fields h (omega (arith, length-append front rest)))
nested_complete end value V m ty front rest (Entries trees) (is, inl h) =
    let one : map_header_in (start_of end (front ++ rest)) (front ++ rest) ≡ Ok ((0, 0, 0), rest) =
    (map_header_matches (start_of end (front ++ rest))).complete front rest (0, 0, 0) (0, front, [], sym (append-nil front), h.0, inl (refl, refl, refl)) in
    rw (is, one) refl
nested_complete end value V m ty front rest (Entries trees) (is, inr (n, key, vty, a, b, c, parts, ne, unsigned_in, types, pairs)) =
    let regrouped : front ++ rest ≡ (a ++ b) ++ (c ++ rest) = ap (λ (p : List ℕ). p ++ rest) parts ∙ simp append_assoc in
    let one : map_header_in (start_of end (front ++ rest)) (front ++ rest) ≡ Ok ((key, vty, n), c ++ rest) =
    ap (map_header_in (start_of end (front ++ rest))) regrouped ∙ (map_header_matches (start_of end (front ++ rest))).complete (a ++ b) (c ++ rest) (key, vty, n) (n, a, b, refl, unsigned_in, inr (ne, refl, types)) in
    rw (is, one) (entry_again end value V m key vty n c rest trees pairs)
nested_complete end value V m ty front rest (Elements t trees) (is, list, (header, a, b, parts, h, row)) =
    let regrouped : front ++ rest ≡ a ++ (b ++ rest) = ap (λ (p : List ℕ). p ++ rest) parts ∙ append_assoc a b rest in
    let one : list_header_in (start_of end (front ++ rest)) (front ++ rest) ≡ Ok (header, b ++ rest) =
    ap (list_header_in (start_of end (front ++ rest))) regrouped ∙ (list_header_matches (start_of end (front ++ rest))).complete a (b ++ rest) header h in
    let two = (sequence_passes (after_element end value header.0) (IsElement V header.0) (element_passes end value V m header.0) header.1).complete b rest trees row in
    elim list [ inl e ↦ rw (is, e, one) two | inr e ↦ rw (is, e, one) two ]
nested_complete end value V m ty front rest (Flag v) h = absurd h
nested_complete end value V m ty front rest (Byte v) h = absurd h
nested_complete end value V m ty front rest (Int16 v) h = absurd h
nested_complete end value V m ty front rest (Int32 v) h = absurd h
nested_complete end value V m ty front rest (Int64 v) h = absurd h
nested_complete end value V m ty front rest (Double v) h = absurd h
nested_complete end value V m ty front rest (Binary v) h = absurd h

pub nested_type : (V : ℕ → List ℕ → Tree → Type 0) (ty : ℕ) (front : List ℕ) (tree : Tree) → IsNested V ty front tree → is_nested ty ≡ true
nested_type V ty front (Fields fields) h = rw h.0 refl
nested_type V ty front (Entries trees) h = rw h.0 refl
nested_type V ty front (Elements t trees) h = elim h.1 [ inl e ↦ rw (h.0, e) refl | inr e ↦ rw (h.0, e) refl ]
nested_type V ty front (Flag v) h = absurd h
nested_type V ty front (Byte v) h = absurd h
nested_type V ty front (Int16 v) h = absurd h
nested_type V ty front (Int32 v) h = absurd h
nested_type V ty front (Int64 v) h = absurd h
nested_type V ty front (Double v) h = absurd h
nested_type V ty front (Binary v) h = absurd h

pub plain_is : (ty : ℕ) (front : List ℕ) (tree : Tree) → IsPlain ty front tree → is_nested ty ≡ false
plain_is ty front tree h = let t = plain_type ty front tree h in let a : ty < 9 = t.1 in grind arith

wider : {A : Type 0} (S T : List ℕ → A → Type 0) (bytes rest : List ℕ) → ((front : List ℕ) (x : A) → S front x → T front x) → Passed S bytes rest → Passed T bytes rest
wider S T bytes rest to p = record { value = p.value; front = p.front; parts = p.parts; spells = to p.front p.value p.spells }

flat_sound : (end ty : ℕ) (bytes rest : List ℕ) → after_value end 0 ty bytes ≡ Ok rest → Passed (IsPlain ty) bytes rest
unfolding after_value
flat_sound end ty bytes rest = taken (is_nested ty) _ _ rest (λ p e. failed (TooDeep (start_of end bytes)) rest e) (λ p e. plain_sound (start_of end bytes) ty bytes rest e)

flat_complete : (end ty : ℕ) (front rest : List ℕ) (tree : Tree) → IsPlain ty front tree → after_value end 0 ty (front ++ rest) ≡ Ok rest
unfolding after_value
flat_complete end ty front rest tree h = rw (plain_is ty front tree h) (plain_complete (start_of end (front ++ rest)) ty front rest tree h)

deep_sound : (end depth : ℕ) → ((ty : ℕ) → Passes (after_value end depth ty) (IsValue depth ty)) → (ty : ℕ) (bytes rest : List ℕ)
    → after_value end (suc depth) ty bytes ≡ Ok rest → Passed (IsValue (suc depth) ty) bytes rest
unfolding after_value
deep_sound end depth m ty bytes rest = taken (is_nested ty) _ _ rest
    (λ p e. wider (IsNested (IsValue depth) ty) (IsValue (suc depth) ty) bytes rest (λ front x s. inr s) (nested_sound end (after_value end depth) (IsValue depth) m ty bytes rest p e))
    (λ p e. wider (IsPlain ty) (IsValue (suc depth) ty) bytes rest (λ front x s. inl s) (plain_sound (start_of end bytes) ty bytes rest e))

deep_complete : (end depth : ℕ) → ((ty : ℕ) → Passes (after_value end depth ty) (IsValue depth ty)) → (ty : ℕ) (front rest : List ℕ) (tree : Tree)
    → IsValue (suc depth) ty front tree → after_value end (suc depth) ty (front ++ rest) ≡ Ok rest
unfolding after_value
deep_complete end depth m ty front rest tree (inl h) = rw (plain_is ty front tree h) (plain_complete (start_of end (front ++ rest)) ty front rest tree h)
deep_complete end depth m ty front rest tree (inr h) =
    rw (nested_type (IsValue depth) ty front tree h) (nested_complete end (after_value end depth) (IsValue depth) m ty front rest tree h)

-- what is passed over is a value, and each value is passed over
pub value_passes : (end depth ty : ℕ) → Passes (after_value end depth ty) (IsValue depth ty)
value_passes end zero ty = record { sound = flat_sound end ty; complete = flat_complete end ty }
value_passes end (suc depth) ty =
    record { sound = deep_sound end depth (value_passes end depth) ty; complete = deep_complete end depth (value_passes end depth) ty }
