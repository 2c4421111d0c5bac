-- The field ids of a footer's columns are numbers of 32 bits.
use Rattle.std.proofs.Common.{◌≡◌, ℕ, ℤ, pos, negsuc, ◌/◌, ◌%◌, ◌^◌, ◌<◌, ◌<ℤ◌, zero, suc, List, [], ◌∷◌, length, Option, Some, None, Result, Ok, Err, Bool, true, false, refl, subst, arith}
use Rattle.std.specs.Prelude.{All, nat_lt, ◌==◌, ◌&&◌, if◌then◌else◌}
use Rattle.std.proofs.lemmas.Bool.{ltb-true}
use Rattle.std.proofs.lemmas.Int.{ints}
use Rattle.std.proofs.lemmas.List.Elements.{All-cons, All-nil}
use Rattle.thrift_compact.specs.declared.fault.ThriftFault.{ThriftFault}
use Rattle.thrift_compact.specs.declared.fault.ThriftFault.TheVariants as thrift
use Rattle.thrift_compact.specs.declared.types.TheConstants.{I32, I64, BINARY, LIST, STRUCT}
use Rattle.answers.specs.Answers.{◌>>=◌}
use Rattle.answers.proofs.AnswerLemmas.{ok_same}
use Rattle.thrift_compact.specs.Reading.{Read, start_of, number_in, unsigned_in, signed_in, binary_in, begins_list_of, after_value, field_header_in, list_header_in}
use Rattle.thrift_compact.specs.Spelling.{from_zigzag}
use Rattle.thrift_compact.specs.Reading.{count_in}
use Rattle.thrift_compact.specs.Structs.{is_field, unknown, struct_in, struct_of, row_in, structs_of}
use Rattle.pq_meta.specs.declared.drafts.ElementDraft.{ElementDraft}
use Rattle.pq_meta.specs.declared.drafts.FooterDraft.{FooterDraft}
use Rattle.pq_meta.specs.Drafts.{int_in, long_count_in, logical_part, no_logical, element_part, no_element, group_part, no_group, footer_part, no_footer}

-- ---- what is true of each value that is read

abbrev EachRead : {A : Type 0} → (A → Type 0) → Result A ThriftFault → Type 0
EachRead {A = A} P read = (x : A) → read ≡ Ok x → P x

read_ok : {A : Type 0} (P : A → Type 0) (x : A) → P x → EachRead P (Ok x)
read_ok P x have y h = subst P (ok_same x y h) have

read_if : {A : Type 0} (P : A → Type 0) (b : Bool) (one other : Result A ThriftFault) → EachRead P one → EachRead P other → EachRead P (if b then one else other)
read_if P true one other first second = first
read_if P false one other first second = second

read_next : {A B : Type 0} (P : B → Type 0) (read : Result A ThriftFault) (next : A → Result B ThriftFault) → ((a : A) → read ≡ Ok a → EachRead P (next a)) → EachRead P (read >>= next)
read_next P (Ok a) next each = each a refl
read_next P (Err e) next each = λ x h. cc

-- ---- structs and lists of structs

-- the same of a draft and the bytes behind it
abbrev Keeps : {D : Type 0} → (D → Type 0) → (D → ℤ → ℕ → List ℕ → Read D) → Type 0
Keeps {D = D} P part = (draft : D) (id : ℤ) (ty : ℕ) (bytes : List ℕ) → P draft → EachRead (λ (x : D × List ℕ). P x.0) (part draft id ty bytes)

behind_keeps : {D : Type 0} (P : D → Type 0) (end : ℕ) (part : D → ℤ → ℕ → List ℕ → Read D) (most : ℕ) (draft : D) (header : Option (ℤ × ℕ)) (rest : List ℕ)
    → Keeps P part → ((last : ℤ) (draft : D) (bytes : List ℕ) → P draft → EachRead (λ (x : D × List ℕ). P x.0) (struct_in end part most last draft bytes)) → P draft
    → EachRead (λ (x : D × List ℕ). P x.0) (elim header [ None ↦ Ok (draft, rest) | Some f ↦ part draft f.0 f.1 rest >>= λ x. struct_in end part most f.0 x.0 x.1 ])
behind_keeps {D = D} P end part most draft None rest keep later have = read_ok (λ (x : D × List ℕ). P x.0) (draft, rest) have
behind_keeps {D = D} P end part most draft (Some f) rest keep later have =
    read_next (λ (x : D × List ℕ). P x.0) (part draft f.0 f.1 rest) (λ x. struct_in end part most f.0 x.0 x.1)
    (λ x read. later f.0 x.0 x.1 (keep draft f.0 f.1 rest have x read))

struct_keeps : {D : Type 0} (P : D → Type 0) (end : ℕ) (part : D → ℤ → ℕ → List ℕ → Read D) (most : ℕ) → Keeps P part → (last : ℤ) (draft : D) (bytes : List ℕ) → P draft
    → EachRead (λ (x : D × List ℕ). P x.0) (struct_in end part most last draft bytes)
unfolding struct_in
struct_keeps P end part zero keep last draft bytes have = λ x h. cc
struct_keeps {D = D} P end part (suc most) keep last draft bytes have =
    read_next (λ (x : D × List ℕ). P x.0) (field_header_in (start_of end bytes) last bytes) _
    (λ header read. behind_keeps P end part most draft header.0 header.1 keep (struct_keeps P end part most keep) have)

struct_gives : {D : Type 0} (P : D → Type 0) (part : ℕ → D → ℤ → ℕ → List ℕ → Read D) (empty : D) → ((end : ℕ) → Keeps P (part end)) → P empty → (end : ℕ) (bytes : List ℕ)
    → EachRead (λ (x : D × List ℕ). P x.0) (struct_of part empty end bytes)
unfolding struct_of
struct_gives P part empty keep have end bytes = struct_keeps P end (part end) (length bytes) (keep end) (pos 0) empty bytes have

row_read_each : {A : Type 0} (P : A → Type 0) (item : List ℕ → Read A) → ((bytes : List ℕ) → EachRead (λ (x : A × List ℕ). P x.0) (item bytes)) → (n : ℕ) (bytes : List ℕ)
    → EachRead (λ (x : List A × List ℕ). All P x.0) (row_in item n bytes)
unfolding row_in
row_read_each {A = A} P item each zero bytes = read_ok (λ (x : List A × List ℕ). All P x.0) ([], bytes) (All-nil P)
row_read_each {A = A} P item each (suc n) bytes =
    read_next (λ (x : List A × List ℕ). All P x.0) (item bytes) _ (λ first read.
    read_next (λ (x : List A × List ℕ). All P x.0) (row_in item n first.1) _ (λ others read'.
    read_ok (λ (x : List A × List ℕ). All P x.0) (first.0 ∷ others.0, others.1)
    (All-cons P first.0 others.0 (each bytes first read) (row_read_each P item each n first.1 others read'))))

structs_give : {D : Type 0} (P : D → Type 0) (part : ℕ → D → ℤ → ℕ → List ℕ → Read D) (empty : D) → ((end : ℕ) → Keeps P (part end)) → P empty → (end : ℕ) (bytes : List ℕ)
    → EachRead (λ (x : List D × List ℕ). All P x.0) (structs_of part empty end bytes)
unfolding structs_of
structs_give {D = D} P part empty keep have end bytes =
    read_next (λ (x : List D × List ℕ). All P x.0) (list_header_in (start_of end bytes) bytes) _
    (λ list read. row_read_each P (struct_of part empty end) (struct_gives P part empty keep have end) list.0.1 list.1)

-- ---- numbers of 32 bits

zigzag_range : (n : ℕ) → n < 2 ^ 32 → from_zigzag n <ℤ pos 2147483648
zigzag_range n lt =
    let even : pos (n / 2) <ℤ pos 2147483648 = omega (arith, ints) in
    let odd : negsuc (n / 2) <ℤ pos 2147483648 = omega (arith, ints) in
    elim (n % 2 == 0) as (λ b. (if b then pos (n / 2) else negsuc (n / 2)) <ℤ pos 2147483648) [ true ↦ even | false ↦ odd ]

below_limit : (b : Bool) (x y : ℕ × List ℕ) (e : ThriftFault) → (if b then Ok x else Err e) ≡ Ok y → (b ≡ true) × (x ≡ y)
below_limit true x y e h = (refl, ok_same x y h)
below_limit false x y e h = cc

unsigned_range : (at limit : ℕ) (bytes : List ℕ) → EachRead (λ (x : ℕ × List ℕ). x.0 < limit) (unsigned_in at limit bytes)
unfolding unsigned_in
unsigned_range at limit bytes =
    read_next (λ (x : ℕ × List ℕ). x.0 < limit) (number_in at 10 bytes) _ (λ x read y h.
    let same = below_limit (nat_lt x.0 limit) x y (thrift.TooWide at) h in
    subst (λ (z : ℕ × List ℕ). z.0 < limit) same.1 (ltb-true x.0 limit same.0))

int_range : (end : ℕ) (bytes : List ℕ) → EachRead (λ (x : ℤ × List ℕ). x.0 <ℤ pos 2147483648) (int_in end bytes)
unfolding signed_in
int_range end bytes =
    read_next (λ (x : ℤ × List ℕ). x.0 <ℤ pos 2147483648) (unsigned_in (start_of end bytes) (2 ^ 32) bytes) _ (λ x read.
    read_ok (λ (z : ℤ × List ℕ). z.0 <ℤ pos 2147483648) (from_zigzag x.0, x.1) (zigzag_range x.0 (unsigned_range (start_of end bytes) (2 ^ 32) bytes x read)))

-- ---- the schema

-- a field id, if there is one, is a number of 32 bits
pub record HasShortId (element : ElementDraft) : Type 0 where
  pub short : (id : ℤ) → element.field ≡ Some id → id <ℤ pos 2147483648

abbrev IdRead : ElementDraft × List ℕ → Type 0
IdRead x = HasShortId x.0

as_it_was : {A : Type 0} (read : Read A) (change : A → ElementDraft) → ((a : A) → HasShortId (change a)) → EachRead IdRead (read >>= λ x. Ok (change x.0, x.1))
as_it_was read change have = read_next IdRead read (λ x. Ok (change x.0, x.1)) (λ x h. read_ok IdRead (change x.0, x.1) (have x.0))

passed_over : (end : ℕ) (draft : ElementDraft) (ty : ℕ) (bytes : List ℕ) → HasShortId draft → EachRead IdRead (unknown end draft ty bytes)
passed_over end draft ty bytes have = read_next IdRead (after_value end 16 ty bytes) (λ rest. Ok (draft, rest)) (λ rest h. read_ok IdRead (draft, rest) have)

field_read : (end : ℕ) (draft : ElementDraft) (bytes : List ℕ) → EachRead IdRead (int_in end bytes >>= λ x. Ok (record draft { field = Some x.0 }, x.1))
field_read end draft bytes =
    read_next IdRead (int_in end bytes) (λ x. Ok (record draft { field = Some x.0 }, x.1)) (λ x read.
    read_ok IdRead (record draft { field = Some x.0 }, x.1) (record { short = λ id is. let same : x.0 ≡ id = cc in let P : ℤ → Type 0 = λ n. n <ℤ pos 2147483648 in subst P same (int_range end bytes x read) }))

element_keeps : (end : ℕ) → Keeps HasShortId (element_part end)
unfolding element_part
element_keeps end draft id ty bytes have =
    read_if IdRead (is_field 1 I32 id ty) _ _ (as_it_was (int_in end bytes) (λ a. record draft { physical = Some a }) (λ a. record { short = have.short })) (
    read_if IdRead (is_field 3 I32 id ty) _ _ (as_it_was (int_in end bytes) (λ a. record draft { repetition = Some a }) (λ a. record { short = have.short })) (
    read_if IdRead (is_field 4 BINARY id ty) _ _ (as_it_was (binary_in (start_of end bytes) bytes) (λ a. record draft { name = Some a }) (λ a. record { short = have.short })) (
    read_if IdRead (is_field 5 I32 id ty) _ _ (as_it_was (count_in (start_of end bytes) (2 ^ 32) bytes) (λ a. record draft { num_children = Some a }) (λ a. record { short = have.short })) (
    read_if IdRead (is_field 6 I32 id ty) _ _ (as_it_was (int_in end bytes) (λ a. record draft { converted = Some a }) (λ a. record { short = have.short })) (
    read_if IdRead (is_field 9 I32 id ty) _ _ (field_read end draft bytes) (
    read_if IdRead (is_field 10 STRUCT id ty) _ _ (as_it_was (struct_of logical_part no_logical end bytes) (λ a. record draft { logical = Some a }) (λ a. record { short = have.short }))
    (passed_over end draft ty bytes have)))))))

-- ---- the footer

pub record HasShortIds (footer : FooterDraft) : Type 0 where
  pub short : (schema : List ElementDraft) → footer.schema ≡ Some schema → All HasShortId schema

abbrev IdsRead : FooterDraft × List ℕ → Type 0
IdsRead x = HasShortIds x.0

schema_read : (end : ℕ) (draft : FooterDraft) (bytes : List ℕ) → EachRead IdsRead (structs_of element_part no_element end bytes >>= λ x. Ok (record draft { schema = Some x.0 }, x.1))
schema_read end draft bytes =
    let none : HasShortId no_element = record { short = λ id is. cc } in
    read_next IdsRead (structs_of element_part no_element end bytes) (λ x. Ok (record draft { schema = Some x.0 }, x.1)) (λ x read.
    read_ok IdsRead (record draft { schema = Some x.0 }, x.1) (record {
      short = λ schema is.
          let same : x.0 ≡ schema = cc in
          subst (λ (s : List ElementDraft). All HasShortId s) same (structs_give HasShortId element_part no_element element_keeps none end bytes x read);
    }))

other_read : {A : Type 0} (read : Read A) (change : A → FooterDraft) → ((a : A) → HasShortIds (change a)) → EachRead IdsRead (read >>= λ x. Ok (change x.0, x.1))
other_read read change have = read_next IdsRead read (λ x. Ok (change x.0, x.1)) (λ x h. read_ok IdsRead (change x.0, x.1) (have x.0))

footer_keeps : (end : ℕ) → Keeps HasShortIds (footer_part end)
unfolding footer_part
footer_keeps end draft id ty bytes have =
    read_if IdsRead (is_field 1 I32 id ty) _ _ (other_read (int_in end bytes) (λ a. record draft { version = Some a }) (λ a. record { short = have.short })) (
    read_if IdsRead (is_field 2 LIST id ty && begins_list_of STRUCT bytes) _ _ (schema_read end draft bytes) (
    read_if IdsRead (is_field 3 I64 id ty) _ _ (other_read (long_count_in end bytes) (λ a. record draft { num_rows = Some a }) (λ a. record { short = have.short })) (
    read_if IdsRead (is_field 4 LIST id ty && begins_list_of STRUCT bytes) _ _ (other_read (structs_of group_part no_group end bytes) (λ a. record draft { groups = Some a }) (λ a. record { short = have.short }))
    (read_next IdsRead (after_value end 16 ty bytes) (λ rest. Ok (draft, rest)) (λ rest h. read_ok IdsRead (draft, rest) have)))))

pub footer_ids : (end : ℕ) (bytes : List ℕ) (x : FooterDraft × List ℕ) → struct_of footer_part no_footer end bytes ≡ Ok x → HasShortIds x.0
footer_ids end bytes = struct_gives HasShortIds footer_part no_footer footer_keeps (record { short = λ schema is. cc }) end bytes
