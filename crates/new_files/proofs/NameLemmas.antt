-- Names that are read again.
use Rattle.std.proofs.Common.{◌≡◌, ◌<◌, ◌-◌, ◌^◌, ℕ, zero, suc, List, ◌++◌, length, length-append, take, drop, All, Some, Bool, true, false, inl, inr, refl, sym, ap, subst, ◌∙◌, arith}
use Rattle.std.specs.Int.{byte_at, bytes_high_first, from_be_bytes, to_be_bytes, w128}
use Rattle.std.proofs.lemmas.List.{drop_at, take_at}
use Rattle.std.proofs.lemmas.List.Elements.{All-cons, All-nil}
use Rattle.std.proofs.lemmas.Option.{same_Some}
use Rattle.uuid.specs.Text.{lower, parsed}
use Rattle.uuid.proofs.RoundTrips.{parses_hyphenated}
use Rattle.uuid.proofs.TextLemmas.{by_index_length}
use Rattle.uuid.proofs.OrderLemmas.{from_be_bytes-to_be_bytes_16}
use Rattle.new_files.specs.Names.{IsOwn, IsUuid, ending, name_of, uuid_of}

small_byte : (i n : ℕ) → byte_at i n < 256
small_byte zero n = omega arith
small_byte (suc i) n = omega arith

small_bytes : (k n : ℕ) → All (λ b. b < 256) (bytes_high_first k n)
small_bytes zero n = All-nil (λ b. b < 256)
small_bytes (suc k) n = All-cons (λ b. b < 256) (byte_at k n) (bytes_high_first k n) (small_byte k n) (small_bytes k n)

-- the uuid of a number parses to the number's bytes
pub parses : (text : List ℕ) (own : IsUuid text) → Some (to_be_bytes w128 own.number) ≡ parsed text
parses text own =
    subst (λ (t : List ℕ). Some (to_be_bytes w128 own.number) ≡ parsed t) (sym own.spells)
    (parses_hyphenated lower (to_be_bytes w128 own.number) (inl refl) refl (small_bytes 16 own.number))

-- what is written again is the text
pub again : (text id : List ℕ) (own : IsUuid text) → Some id ≡ parsed text → uuid_of (from_be_bytes w128 id) ≡ text
again text id own read =
    let bytes : id ≡ to_be_bytes w128 own.number = same_Some _ _ (read ∙ sym (parses text own)) in
    ap (λ (b : List ℕ). uuid_of (from_be_bytes w128 b)) bytes ∙ ap uuid_of (from_be_bytes-to_be_bytes_16 own.number own.small) ∙ sym own.spells

pub ends : (name front end : List ℕ) → name ≡ front ++ end → drop (length name - length end) name ≡ end
ends name front end e =
    let long : length name - length end ≡ length front = omega (arith, ap length e, length-append front end) in
    ap (λ n. drop n name) long ∙ ap (drop (length front)) e ∙ drop_at front end (length front) refl

-- ---- different names

pub uuid_length : (number : ℕ) → length (uuid_of number) ≡ 36
uuid_length number = by_index_length 36 _

-- one uuid is that of one number
same_number : (a b : ℕ) → a < 2 ^ 128 → b < 2 ^ 128 → uuid_of a ≡ uuid_of b → a ≡ b
same_number a b small_a small_b same =
    let is_a : IsUuid (uuid_of a) = record { number = a; small = small_a; spells = refl } in
    let is_b : IsUuid (uuid_of a) = record { number = b; small = small_b; spells = same } in
    let bytes : to_be_bytes w128 a ≡ to_be_bytes w128 b = same_Some _ _ (parses (uuid_of a) is_a ∙ sym (parses (uuid_of a) is_b)) in
    sym (from_be_bytes-to_be_bytes_16 a small_a) ∙ ap (from_be_bytes w128) bytes ∙ from_be_bytes-to_be_bytes_16 b small_b

same_ending : (a b : Bool) → ending a ≡ ending b → a ≡ b
same_ending true true same = refl
same_ending false false same = refl
same_ending true false same = absurd (let lengths : length (ending true) ≡ length (ending false) = ap length same in omega arith)
same_ending false true same = absurd (let lengths : length (ending false) ≡ length (ending true) = ap length same in omega arith)

-- one name is that of one number with one ending
pub names_differ : (a b : ℕ) (deletes other : Bool) → a < 2 ^ 128 → b < 2 ^ 128 → name_of a deletes ≡ name_of b other → (a ≡ b) × (deletes ≡ other)
names_differ a b deletes other small_a small_b same = (
  same_number a b small_a small_b
      (sym (take_at (uuid_of a) (ending deletes) 36 (uuid_length a)) ∙ ap (take 36) same ∙ take_at (uuid_of b) (ending other) 36 (uuid_length b)),
  same_ending deletes other
      (sym (drop_at (uuid_of a) (ending deletes) 36 (uuid_length a)) ∙ ap (drop 36) same ∙ drop_at (uuid_of b) (ending other) 36 (uuid_length b)),
)

-- the name of a number has the own form
pub is_own : (number : ℕ) (deletes : Bool) → number < 2 ^ 128 → IsOwn (name_of number deletes)
is_own number false small = inl (record { number = number; small = small; spells = refl })
is_own number true small = inr (record { number = number; small = small; spells = refl })
