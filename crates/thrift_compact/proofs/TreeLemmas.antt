-- A spelling of a value says one tree.
use Rattle.std.proofs.Common.{◌≡◌, ℕ, ℤ, pos, zero, suc, ◌^◌, ◌≤◌, ◌⊎◌, true, false, List, [], ◌∷◌, ◌++◌, Option, Some, refl, sym, ap, subst, ◌∙◌, append_assoc, arith, inl, inr}
use Rattle.std.proofs.lemmas.List.{append-nil}
use Rattle.thrift_compact.specs.Reading.{Rest, map_header_in, list_header_in, after_element, after_value, is_nested}
use Rattle.thrift_compact.specs.Spelling.{IsUnsigned, IsSigned, Then, IsBinary, IsListHeader, IsField, IsFieldHeader}
use Rattle.thrift_compact.specs.Trees.{Tree, Flag, Byte, Int16, Int32, Int64, Double, Binary, Elements, Entries, Fields, TreeList, Nil, Cons, Stop, Field, IsPlain, IsSequence, IsEntries, IsElement, IsFields, IsMap, IsNested, IsValue}
use Rattle.thrift_compact.specs.Laws.{NoneBeginsAnother, SaysOne}
use Rattle.thrift_compact.proofs.PrefixLemmas.{none_begins, says, passes_begin}
use Rattle.thrift_compact.proofs.ScalarLemmas.{signed_matches, binary_matches}
use Rattle.thrift_compact.proofs.HeaderLemmas.{list_header_matches, MapTypes, map_header_matches, field_header_matches}
use Rattle.thrift_compact.proofs.ValueLemmas.{Passes, element_passes, plain_is, nested_type, value_passes}

-- ---- values with no other inside them

-- the type of a plain value
abbrev plain_code : Tree → ℕ
plain_code (Flag code) = code
plain_code (Byte b) = 3
plain_code (Int16 z) = 4
plain_code (Int32 z) = 5
plain_code (Int64 z) = 6
plain_code (Double text) = 7
plain_code (Binary text) = 8
plain_code tree = 0

type_of_plain : (ty : ℕ) (bytes : List ℕ) (tree : Tree) → IsPlain ty bytes tree → ty ≡ plain_code tree
type_of_plain ty bytes (Flag code) h = h.0
type_of_plain ty bytes (Byte b) h = h.0
type_of_plain ty bytes (Int16 z) h = h.0
type_of_plain ty bytes (Int32 z) h = h.0
type_of_plain ty bytes (Int64 z) h = h.0
type_of_plain ty bytes (Double text) h = h.0
type_of_plain ty bytes (Binary text) h = h.0
type_of_plain ty bytes (Elements code trees) h = absurd h
type_of_plain ty bytes (Entries trees) h = absurd h
type_of_plain ty bytes (Fields fields) h = absurd h

flag_range : (code : ℕ) → (code ≡ 1) ⊎ (code ≡ 2) → (1 ≤ code) × (code ≤ 2)
flag_range code (inl h) = (omega arith, omega arith)
flag_range code (inr h) = (omega arith, omega arith)

flag_says : (ty : ℕ) (bytes : List ℕ) (code : ℕ) (t : Tree) → IsPlain ty bytes (Flag code) → IsPlain ty bytes t → Flag code ≡ t
flag_says ty bytes code (Flag other) p q = ap Flag (sym p.0 ∙ q.0)
flag_says ty bytes code t p q = absurd (let range = flag_range code p.2 in omega (arith, range.0, range.1, p.0, type_of_plain ty bytes t q))

byte_says : (ty : ℕ) (bytes : List ℕ) (b : ℕ) (t : Tree) → IsPlain ty bytes (Byte b) → IsPlain ty bytes t → Byte b ≡ t
byte_says ty bytes b (Byte c) p q = let same : b ∷ [] ≡ c ∷ [] = sym p.1.0 ∙ q.1.0 in cc
byte_says ty bytes b (Flag code) p q = absurd (omega (arith, (flag_range code q.2).1, p.0, q.0))
byte_says ty bytes b t p q = absurd (omega (arith, p.0, type_of_plain ty bytes t q))

signed_says : (limit : ℕ) → SaysOne (IsSigned limit)
signed_says limit = says _ (IsSigned limit) (signed_matches 0 limit)

i16_says : (ty : ℕ) (bytes : List ℕ) (y : ℤ) (t : Tree) → IsPlain ty bytes (Int16 y) → IsPlain ty bytes t → Int16 y ≡ t
i16_says ty bytes y (Int16 z) p q = ap Int16 (signed_says (2 ^ 16) bytes y z p.1 q.1)
i16_says ty bytes y (Flag code) p q = absurd (omega (arith, (flag_range code q.2).1, p.0, q.0))
i16_says ty bytes y t p q = absurd (omega (arith, p.0, type_of_plain ty bytes t q))

i32_says : (ty : ℕ) (bytes : List ℕ) (y : ℤ) (t : Tree) → IsPlain ty bytes (Int32 y) → IsPlain ty bytes t → Int32 y ≡ t
i32_says ty bytes y (Int32 z) p q = ap Int32 (signed_says (2 ^ 32) bytes y z p.1 q.1)
i32_says ty bytes y (Flag code) p q = absurd (omega (arith, (flag_range code q.2).1, p.0, q.0))
i32_says ty bytes y t p q = absurd (omega (arith, p.0, type_of_plain ty bytes t q))

i64_says : (ty : ℕ) (bytes : List ℕ) (y : ℤ) (t : Tree) → IsPlain ty bytes (Int64 y) → IsPlain ty bytes t → Int64 y ≡ t
i64_says ty bytes y (Int64 z) p q = ap Int64 (signed_says (2 ^ 64) bytes y z p.1 q.1)
i64_says ty bytes y (Flag code) p q = absurd (omega (arith, (flag_range code q.2).1, p.0, q.0))
i64_says ty bytes y t p q = absurd (omega (arith, p.0, type_of_plain ty bytes t q))

double_says : (ty : ℕ) (bytes text : List ℕ) (t : Tree) → IsPlain ty bytes (Double text) → IsPlain ty bytes t → Double text ≡ t
double_says ty bytes text (Double other) p q = ap Double (sym p.1.0 ∙ q.1.0)
double_says ty bytes text (Flag code) p q = absurd (omega (arith, (flag_range code q.2).1, p.0, q.0))
double_says ty bytes text t p q = absurd (omega (arith, p.0, type_of_plain ty bytes t q))

binary_says : (ty : ℕ) (bytes text : List ℕ) (t : Tree) → IsPlain ty bytes (Binary text) → IsPlain ty bytes t → Binary text ≡ t
binary_says ty bytes text (Binary other) p q = ap Binary (says _ IsBinary (binary_matches 0) bytes text other p.1 q.1)
binary_says ty bytes text (Flag code) p q = absurd (omega (arith, (flag_range code q.2).1, p.0, q.0))
binary_says ty bytes text t p q = absurd (omega (arith, p.0, type_of_plain ty bytes t q))

plain_says : (ty : ℕ) → SaysOne (IsPlain ty)
plain_says ty bytes (Flag code) t p q = flag_says ty bytes code t p q
plain_says ty bytes (Byte b) t p q = byte_says ty bytes b t p q
plain_says ty bytes (Int16 z) t p q = i16_says ty bytes z t p q
plain_says ty bytes (Int32 z) t p q = i32_says ty bytes z t p q
plain_says ty bytes (Int64 z) t p q = i64_says ty bytes z t p q
plain_says ty bytes (Double text) t p q = double_says ty bytes text t p q
plain_says ty bytes (Binary text) t p q = binary_says ty bytes text t p q
plain_says ty bytes (Elements code trees) t p q = absurd p
plain_says ty bytes (Entries trees) t p q = absurd p
plain_says ty bytes (Fields fields) t p q = absurd p

-- ---- values inside one another

sequence_says : (S : List ℕ → Tree → Type 0) → NoneBeginsAnother S → SaysOne S → (n : ℕ) → SaysOne (IsSequence S n)
sequence_says S begins one zero bytes Nil Nil p q = refl
sequence_says S begins one zero bytes Nil (Cons t ts) p q = absurd q
sequence_says S begins one zero bytes (Cons s ss) t p q = absurd p
sequence_says S begins one (suc n) bytes Nil t p q = absurd p
sequence_says S begins one (suc n) bytes (Cons s ss) Nil p q = absurd q
sequence_says S begins one (suc n) bytes (Cons s ss) (Cons t ts) (a, b, parts, first, rest) (c, d, parts', first', rest') =
    let split = begins a c b d s t first first' (sym parts ∙ parts') in
    let head : s ≡ t = one c s t (subst (λ (z : List ℕ). S z s) split.0 first) first' in
    let tail : ss ≡ ts = sequence_says S begins one n d ss ts (subst (λ (z : List ℕ). IsSequence S n z ss) split.1 rest) rest' in
    cc

entries_say : (S T : List ℕ → Tree → Type 0) → NoneBeginsAnother S → SaysOne S → NoneBeginsAnother T → SaysOne T → (n : ℕ) → SaysOne (IsEntries S T n)
entries_say S T begins one begins' one' zero bytes Nil Nil p q = refl
entries_say S T begins one begins' one' zero bytes Nil (Cons t ts) p q = absurd q
entries_say S T begins one begins' one' zero bytes (Cons s ss) t p q = absurd p
entries_say S T begins one begins' one' (suc n) bytes Nil t p q = absurd p
entries_say S T begins one begins' one' (suc n) bytes (Cons k Nil) t p q = absurd p
entries_say S T begins one begins' one' (suc n) bytes (Cons k (Cons s ss)) Nil p q = absurd q
entries_say S T begins one begins' one' (suc n) bytes (Cons k (Cons s ss)) (Cons l Nil) p q = absurd q
entries_say S T begins one begins' one' (suc n) bytes (Cons k (Cons s ss)) (Cons l (Cons t ts)) (a, b, c, parts, key, value, rest) (a', b', c', parts', key', value', rest') =
    let split = begins a a' (b ++ c) (b' ++ c') k l key key' (sym parts ∙ parts') in
    let keys : k ≡ l = one a' k l (subst (λ (z : List ℕ). S z k) split.0 key) key' in
    let next = begins' b b' c c' s t value value' split.1 in
    let values : s ≡ t = one' b' s t (subst (λ (z : List ℕ). T z s) next.0 value) value' in
    let tail : ss ≡ ts = entries_say S T begins one begins' one' n c' ss ts (subst (λ (z : List ℕ). IsEntries S T n z ss) next.1 rest) rest' in
    cc

element_says : (V : ℕ → List ℕ → Tree → Type 0) → ((ty : ℕ) → SaysOne (V ty)) → (ty : ℕ) → SaysOne (IsElement V ty)
element_says V one ty bytes s t (inl (flag, (c, is, at))) (inl (flag', (d, is', at'))) = let same : c ∷ [] ≡ d ∷ [] = sym at ∙ at' in cc
element_says V one ty bytes s t (inl (flag, byte)) (inr (no1, no2, v)) = elim flag [ inl e ↦ absurd (no1 e) | inr e ↦ absurd (no2 e) ]
element_says V one ty bytes s t (inr (no1, no2, v)) (inl (flag, byte)) = elim flag [ inl e ↦ absurd (no1 e) | inr e ↦ absurd (no2 e) ]
element_says V one ty bytes s t (inr (no1, no2, v)) (inr (no1', no2', w)) = one ty bytes s t v w

header_begins : (last : ℤ) → NoneBeginsAnother (IsFieldHeader last)
header_begins last = none_begins _ (IsFieldHeader last) (field_header_matches 0 last)

header_says : (last : ℤ) → SaysOne (IsFieldHeader last)
header_says last = says _ (IsFieldHeader last) (field_header_matches 0 last)

stop_or_field : (last : ℤ) (a b : List ℕ) (field : ℤ × ℕ) → IsField last a field → 0 ∷ [] ≡ a ++ b → ⊥
stop_or_field last [] b field h e = h
stop_or_field last (c ∷ a) b field h e = let zero_is : 0 ≡ c = cc in omega (arith, h.1.0)

abbrev some : ℤ × ℕ → Option (ℤ × ℕ)
some field = Some field

some_is : (x y : ℤ × ℕ) → some x ≡ some y → x ≡ y
some_is x y e = cc

fields_say : (V : ℕ → List ℕ → Tree → Type 0) → ((ty : ℕ) → NoneBeginsAnother (V ty)) → ((ty : ℕ) → SaysOne (V ty)) → (last : ℤ) → SaysOne (IsFields V last)
fields_say V begins one last bytes Stop Stop p q = refl
fields_say V begins one last bytes Stop (Field id ty t ts) p (a, b, c, parts, header, value, rest) =
    absurd (stop_or_field last a (b ++ c) (id, ty) header (sym p ∙ parts))
fields_say V begins one last bytes (Field id ty t ts) Stop (a, b, c, parts, header, value, rest) q =
    absurd (stop_or_field last a (b ++ c) (id, ty) header (sym q ∙ parts))
fields_say V begins one last bytes (Field id ty s ss) (Field id' ty' t ts) (a, b, c, parts, header, value, rest) (a', b', c', parts', header', value', rest') =
    let split = header_begins last a a' (b ++ c) (b' ++ c') (Some (id, ty)) (Some (id', ty')) header header' (sym parts ∙ parts') in
    let same = header_says last a' (Some (id, ty)) (Some (id', ty')) (subst (λ (z : List ℕ). IsField last z (id, ty)) split.0 header) header' in
    let pair : (id, ty) ≡ (id', ty') = some_is (id, ty) (id', ty') same in
    let ids : id ≡ id' = ap (λ (z : ℤ × ℕ). z.0) pair in
    let types : ty ≡ ty' = ap (λ (z : ℤ × ℕ). z.1) pair in
    let typed : V ty' b s = subst (λ (k : ℕ). V k b s) types value in
    let next = begins ty' b b' c c' s t typed value' split.1 in
    let values : s ≡ t = one ty' b' s t (subst (λ (z : List ℕ). V ty' z s) next.0 typed) value' in
    let moved : IsFields V id' c' ss = subst (λ (z : List ℕ). IsFields V id' z ss) next.1 (subst (λ (k : ℤ). IsFields V k c ss) ids rest) in
    let tail : ss ≡ ts = fields_say V begins one id' c' ss ts moved rest' in
    cc

-- a map's header and entries
record MapParts (V : ℕ → List ℕ → Tree → Type 0) (bytes : List ℕ) (trees : TreeList) : Type 0 where
  header : ℕ × ℕ × ℕ
  front : List ℕ
  rest : List ℕ
  parts : bytes ≡ front ++ rest
  spelled : Then (IsUnsigned (2 ^ 32)) MapTypes front header
  entries : IsEntries (IsElement V header.0) (IsElement V header.1) header.2 rest trees

map_parts : (V : ℕ → List ℕ → Tree → Type 0) (bytes : List ℕ) (trees : TreeList) → IsMap V bytes trees → MapParts V bytes trees
map_parts V bytes trees (inl (size, is)) = record {
  header = (0, 0, 0);
  front = bytes;
  rest = [];
  parts = sym (append-nil bytes);
  spelled = (0, bytes, [], sym (append-nil bytes), size, inl (refl, refl, refl));
  entries = subst (λ (ts : TreeList). IsEntries (IsElement V 0) (IsElement V 0) 0 [] ts) (sym is) refl;
}
map_parts V bytes trees (inr (n, key, ty, a, b, c, parts, some, size, types, entries)) = record {
  header = (key, ty, n);
  front = a ++ b;
  rest = c;
  parts = parts ∙ sym (append_assoc a b c);
  spelled = (n, a, b, refl, size, inr (some, refl, types));
  entries = entries;
}

-- what follows is given that values say one tree
module _ (value : ℕ → List ℕ → Rest) (V : ℕ → List ℕ → Tree → Type 0) (m : (ty : ℕ) → Passes (value ty) (V ty)) (one : (ty : ℕ) → SaysOne (V ty)) where
  element_begins : (ty : ℕ) → NoneBeginsAnother (IsElement V ty)
  element_begins ty = passes_begin (after_element 0 value ty) (IsElement V ty) (element_passes 0 value V m ty)

  map_says : SaysOne (IsMap V)
  map_says bytes s t p q =
      let i = map_parts V bytes s p in
      let j = map_parts V bytes t q in
      let split = none_begins (map_header_in 0) (Then (IsUnsigned (2 ^ 32)) MapTypes) (map_header_matches 0) i.front j.front i.rest j.rest i.header j.header i.spelled j.spelled (sym i.parts ∙ j.parts) in
      let same : i.header ≡ j.header = says (map_header_in 0) (Then (IsUnsigned (2 ^ 32)) MapTypes) (map_header_matches 0) j.front i.header j.header
      (subst (λ (z : List ℕ). Then (IsUnsigned (2 ^ 32)) MapTypes z i.header) split.0 i.spelled) j.spelled in
      let moved = subst (λ (z : List ℕ). IsEntries (IsElement V i.header.0) (IsElement V i.header.1) i.header.2 z s) split.1 i.entries in
      let like = subst (λ (h : ℕ × ℕ × ℕ). IsEntries (IsElement V h.0) (IsElement V h.1) h.2 j.rest s) same moved in
      entries_say (IsElement V j.header.0) (IsElement V j.header.1) (element_begins j.header.0) (element_says V one j.header.0)
      (element_begins j.header.1) (element_says V one j.header.1) j.header.2 j.rest s t like j.entries

  list_says : SaysOne (Then IsListHeader (λ header. IsSequence (IsElement V header.0) header.1))
  list_says bytes s t (h, a, b, parts, header, row) (h', a', b', parts', header', row') =
      let split = none_begins (list_header_in 0) IsListHeader (list_header_matches 0) a a' b b' h h' header header' (sym parts ∙ parts') in
      let same : h ≡ h' = says (list_header_in 0) IsListHeader (list_header_matches 0) a' h h' (subst (λ (z : List ℕ). IsListHeader z h) split.0 header) header' in
      let moved = subst (λ (z : List ℕ). IsSequence (IsElement V h.0) h.1 z s) split.1 row in
      let like = subst (λ (k : ℕ × ℕ). IsSequence (IsElement V k.0) k.1 b' s) same moved in
      sequence_says (IsElement V h'.0) (element_begins h'.0) (element_says V one h'.0) h'.1 b' s t like row'

  value_begins : (ty : ℕ) → NoneBeginsAnother (V ty)
  value_begins ty = passes_begin (value ty) (V ty) (m ty)

  elements_say : (ty : ℕ) (bytes : List ℕ) (code : ℕ) (trees : TreeList) (t : Tree)
      → IsNested V ty bytes (Elements code trees) → IsNested V ty bytes t → Elements code trees ≡ t
  elements_say ty bytes code ss (Elements code' ts) p q =
      let codes : code ≡ code' = sym p.0 ∙ q.0 in
      let trees : ss ≡ ts = list_says bytes ss ts p.2 q.2 in
      cc
  elements_say ty bytes code ss (Entries ts) p q = absurd (elim p.1 [ inl e ↦ omega (arith, e, p.0, q.0) | inr e ↦ omega (arith, e, p.0, q.0) ])
  elements_say ty bytes code ss (Fields ts) p q = absurd (elim p.1 [ inl e ↦ omega (arith, e, p.0, q.0) | inr e ↦ omega (arith, e, p.0, q.0) ])
  elements_say ty bytes code ss t p q = absurd q

  nested_says : (ty : ℕ) → SaysOne (IsNested V ty)
  nested_says ty bytes (Elements code ss) t p q = elements_say ty bytes code ss t p q
  nested_says ty bytes s (Elements code ts) p q = sym (elements_say ty bytes code ts s q p)
  nested_says ty bytes (Entries ss) (Entries ts) p q = ap Entries (map_says bytes ss ts p.1 q.1)
  nested_says ty bytes (Fields ss) (Fields ts) p q = ap Fields (fields_say V value_begins one (pos 0) bytes ss ts p.1 q.1)
  nested_says ty bytes (Entries ss) (Fields ts) p q = absurd (omega (arith, p.0, q.0))
  nested_says ty bytes (Fields ss) (Entries ts) p q = absurd (omega (arith, p.0, q.0))
  nested_says ty bytes (Entries ss) t p q = absurd q
  nested_says ty bytes (Fields ss) t p q = absurd q
  nested_says ty bytes s t p q = absurd p

not_both : (ty : ℕ) → is_nested ty ≡ true → is_nested ty ≡ false → ⊥
not_both ty nested plain = cc

pub value_says : (depth ty : ℕ) → SaysOne (IsValue depth ty)
value_says zero ty bytes s t p q = plain_says ty bytes s t p q
value_says (suc depth) ty bytes s t (inl p) (inl q) = plain_says ty bytes s t p q
value_says (suc depth) ty bytes s t (inl p) (inr q) = absurd (not_both ty (nested_type (IsValue depth) ty bytes t q) (plain_is ty bytes s p))
value_says (suc depth) ty bytes s t (inr p) (inl q) = absurd (not_both ty (nested_type (IsValue depth) ty bytes s p) (plain_is ty bytes t q))
value_says (suc depth) ty bytes s t (inr p) (inr q) = nested_says (after_value 0 depth) (IsValue depth) (value_passes 0 depth) (value_says depth) ty bytes s t p q
