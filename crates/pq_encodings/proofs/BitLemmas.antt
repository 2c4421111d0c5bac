-- A word's bits are the bytes' bits, and packed numbers follow one another.
use Rattle.std.proofs.Common.{◌≡◌, ℕ, zero, suc, ◌+◌, ◌-◌, ◌*◌, ◌/◌, ◌%◌, ◌^◌, ◌<◌, ◌≤◌, inl, inr, List, [], ◌∷◌, ◌++◌, length, drop, get_or, refl, sym, ap, ◌∙◌, arith, map, append_assoc}
use Rattle.std.specs.Int.{bit_at}
use Rattle.std.specs.List.{range_with_len}
use Rattle.std.proofs.lemmas.Bool.{cases_lt}
use Rattle.std.proofs.lemmas.List.{append-nil, get_or-drop}
use Rattle.std.proofs.lemmas.List.FromFn.{map-range_with_len_more}
use Rattle.std.proofs.lemmas.Nat.{mod-pow-add, shr-shr, mul-le, one_shl}
use Rattle.std.proofs.lemmas.Nat.Bits.{bit_at_cat_low, bit_at_cat_high}
use Rattle.byteorder.specs.Endian.{little_from, little_number}
use Rattle.pq_encodings.specs.Bits.{bit_of, number_of_bits, packed_number, packed_numbers}

-- ---- The bits of a word

-- the low bits of a number are a number of bits
pub low_bits : (v w : ℕ) → v % 2 ^ w ≡ number_of_bits w (bit_at v)
unfolding number_of_bits
low_bits v zero = grind arith
low_bits v (suc w) =
    let e : suc w ≡ 1 + w = omega arith in
    ap (λ m. v % 2 ^ m) e ∙ mod-pow-add v 1 w ∙ ap (λ r. bit_at v w * 2 ^ w + r) (low_bits v w)

pub same_bits : (w : ℕ) (f g : ℕ → ℕ) → ((j : ℕ) → j < w → f j ≡ g j) → number_of_bits w f ≡ number_of_bits w g
unfolding number_of_bits
same_bits zero f g same = refl
same_bits (suc w) f g same =
    let here : f w ≡ g w = same w (omega arith) in
    let rest : number_of_bits w f ≡ number_of_bits w g = same_bits w f g (λ j h. same j (omega arith)) in
    cc

same_place : (xs : List ℕ) (i k b d : ℕ) → i ≡ k → b ≡ d → bit_at (get_or xs i 0) b ≡ bit_at (get_or xs k 0) d
same_place xs i k b d p q = cc

-- bit b of the number of n bytes
bit_of_bytes : (n i : ℕ) (xs : List ℕ) → ((k : ℕ) → get_or xs k 0 < 256) → (b : ℕ) → b < 8 * n →
    bit_at (little_from i n xs) b ≡ bit_at (get_or xs (i + b / 8) 0) (b % 8)
bit_of_bytes zero i xs small b h = absurd (omega arith)
bit_of_bytes (suc n) i xs small b h =
    let low : ℕ = get_or xs i 0 in
    let high : ℕ = little_from (suc i) n xs in
    let turned : low + 256 * high ≡ high * 2 ^ 8 + low = omega arith in
    elim (cases_lt b 8) [
      | inl p ↦
          ap (λ v. bit_at v b) turned ∙ bit_at_cat_low high 8 low b p
          ∙ same_place xs i (i + b / 8) b (b % 8) (omega arith) (omega arith)
      | inr q ↦
          ap (λ v. bit_at v b) turned ∙ bit_at_cat_high high 8 low b (small i) q
          ∙ bit_of_bytes n (suc i) xs small (b - 8) (omega arith)
          ∙ same_place xs (suc i + (b - 8) / 8) (i + b / 8) ((b - 8) % 8) (b % 8) (omega arith) (omega arith)
    ]

-- past the end there are zeros
pub same_number : (n i : ℕ) (xs ys : List ℕ) → ((k : ℕ) → get_or xs k 0 ≡ get_or ys k 0) → little_from i n xs ≡ little_from i n ys
same_number zero i xs ys same = refl
same_number (suc n) i xs ys same =
    let here : get_or xs i 0 ≡ get_or ys i 0 = same i in
    let rest : little_from (suc i) n xs ≡ little_from (suc i) n ys = same_number n (suc i) xs ys same in
    cc

-- what a shift and a mask take from a word are the bits from their place on
packed-of_word : (bytes : List ℕ) → ((k : ℕ) → get_or bytes k 0 < 256) → (shift width : ℕ) → shift + width ≤ 64 →
    little_number 8 bytes / 2 ^ shift % 2 ^ width ≡ packed_number width bytes shift
packed-of_word bytes small shift width h =
    let word : ℕ = little_number 8 bytes in
    low_bits (word / 2 ^ shift) width
    ∙ same_bits width (bit_at (word / 2 ^ shift)) (λ j. bit_of bytes (shift + j)) (λ j below.
    ap (λ v. v % 2) (shr-shr word shift j)
    ∙ bit_of_bytes 8 0 bytes small (shift + j) (omega arith)
    ∙ same_place bytes (0 + (shift + j) / 8) ((shift + j) / 8) ((shift + j) % 8) ((shift + j) % 8) (omega arith) refl)

-- bits behind whole bytes
packed-drop : (bytes : List ℕ) (at width first : ℕ) → packed_number width (drop at bytes) first ≡ packed_number width bytes (8 * at + first)
packed-drop bytes at width first =
    same_bits width (λ j. bit_of (drop at bytes) (first + j)) (λ j. bit_of bytes (8 * at + first + j)) (λ j below.
    ap (λ v. bit_at v ((first + j) % 8)) (get_or-drop at bytes ((first + j) / 8) 0)
    ∙ same_place bytes (at + (first + j) / 8) ((8 * at + first + j) / 8) ((first + j) % 8) ((8 * at + first + j) % 8) (omega arith) (omega arith))

small-drop : (bytes : List ℕ) (at : ℕ) → ((k : ℕ) → get_or bytes k 0 < 256) → (k : ℕ) → get_or (drop at bytes) k 0 < 256
small-drop bytes at small k = rw get_or-drop (small (at + k))

-- the power that the code computes
pub mod-one_shl : (v width : ℕ) → width ≤ 32 → v % (1 * 2 ^ width % 2 ^ 64) ≡ v % 2 ^ width
mod-one_shl v width h = ap (λ m. v % m) (one_shl width 64 (omega arith))

-- ---- Packed numbers by groups of eight

-- a number's place from its group's
pub place_in_group : (k width : ℕ) → 8 * ((k / 8) * width + ((k % 8) * width) / 8) + ((k % 8) * width) % 8 ≡ k * width
place_in_group k width =
    let parts : k ≡ 8 * (k / 8) + k % 8 = omega arith in
    let product : k * width ≡ (8 * (k / 8) + k % 8) * width = ap (λ n. n * width) parts in
    omega arith

-- number k, from the word in which it stands
pub packed-in_group : (bytes : List ℕ) → ((k : ℕ) → get_or bytes k 0 < 256) → (k width word : ℕ) → width ≤ 32 →
    word ≡ little_number 8 (drop ((k / 8) * width + ((k % 8) * width) / 8) bytes) →
    word / 2 ^ ((k % 8) * width % 8) % 2 ^ width ≡ packed_number width bytes (k * width)
packed-in_group bytes small k width word h e =
    let at : ℕ = (k / 8) * width + ((k % 8) * width) / 8 in
    let shift : ℕ = (k % 8) * width % 8 in
    ap (λ v. v / 2 ^ shift % 2 ^ width) e
    ∙ packed-of_word (drop at bytes) (small-drop bytes at small) shift width (omega arith)
    ∙ packed-drop bytes at width shift
    ∙ ap (λ first. packed_number width bytes first) (place_in_group k width)

-- number k of a group that lies in one word
pub packed-in_word : (bytes : List ℕ) → ((k : ℕ) → get_or bytes k 0 < 256) → (k width word : ℕ) → width ≤ 8 → k < 8 →
    word ≡ little_number 8 bytes →
    word / 2 ^ (k * width) % 2 ^ width ≡ packed_number width bytes (k * width)
packed-in_word bytes small k width word narrow h e =
    let most : k * width ≤ 7 * width = mul-le k width 7 width (omega arith) (omega arith) in
    ap (λ v. v / 2 ^ (k * width) % 2 ^ width) e
    ∙ packed-of_word bytes small (k * width) width (omega arith)

-- the number that begins with a bit, from the word at that bit's byte
pub packed-at_bit : (bytes : List ℕ) → ((k : ℕ) → get_or bytes k 0 < 256) → (first width word : ℕ) → width ≤ 32 →
    word ≡ little_number 8 (drop (first / 8) bytes) →
    word / 2 ^ (first % 8) % 2 ^ width ≡ packed_number width bytes first
packed-at_bit bytes small first width word h e =
    ap (λ v. v / 2 ^ (first % 8) % 2 ^ width) e
    ∙ packed-of_word (drop (first / 8) bytes) (small-drop bytes (first / 8) small) (first % 8) width (omega arith)
    ∙ packed-drop bytes (first / 8) width (first % 8)
    ∙ ap (λ n. packed_number width bytes n) (omega arith)

-- one number more
pub one_number_more : (width : ℕ) (bytes : List ℕ) (k v : ℕ) (old own new : List ℕ) → new ≡ own ++ v ∷ [] → v ≡ packed_number width bytes (k * width) →
    own ≡ old ++ packed_numbers width bytes k → new ≡ old ++ packed_numbers width bytes (k + 1)
one_number_more width bytes k v old own new pushed number so_far =
    let f : ℕ → ℕ = λ i. packed_number width bytes (i * width) in
    pushed ∙ ap (λ n. own ++ n ∷ []) number ∙ ap (λ xs. xs ++ f k ∷ []) so_far
    ∙ append_assoc old (map f (range_with_len 0 k)) (f k ∷ []) ∙ ap (λ xs. old ++ xs) (sym (map-range_with_len_more f 0 k k (omega arith)))

-- a list made from places, cut in two
map-range_with_len_add : {X : Type 0} → (f : ℕ → X) (a b : ℕ) →
    map f (range_with_len 0 (a + b)) ≡ map f (range_with_len 0 a) ++ map (λ j. f (a + j)) (range_with_len 0 b)
map-range_with_len_add f a zero =
    let e : a + 0 ≡ a = omega arith in
    ap (λ n. map f (range_with_len 0 n)) e ∙ sym (append-nil (map f (range_with_len 0 a)))
map-range_with_len_add f a (suc b) =
    let e : a + suc b ≡ (a + b) + 1 = omega arith in
    let one : suc b ≡ b + 1 = omega arith in
    ap (λ n. map f (range_with_len 0 n)) e
    ∙ map-range_with_len_more f 0 (a + b) (a + b) (omega arith)
    ∙ ap (λ xs. xs ++ f (a + b) ∷ []) (map-range_with_len_add f a b)
    ∙ append_assoc (map f (range_with_len 0 a)) (map (λ j. f (a + j)) (range_with_len 0 b)) (f (a + b) ∷ [])
    ∙ ap (λ xs. map f (range_with_len 0 a) ++ xs) (sym (map-range_with_len_more (λ j. f (a + j)) 0 b b (omega arith)))
    ∙ ap (λ n. map f (range_with_len 0 a) ++ map (λ j. f (a + j)) (range_with_len 0 n)) (sym one)

map_same : {X : Type 0} → (f g : ℕ → X) → ((k : ℕ) → f k ≡ g k) → (a n : ℕ) → map f (range_with_len a n) ≡ map g (range_with_len a n)
map_same f g same a zero = refl
map_same f g same a (suc n) =
    let here = same a in
    let rest = map_same f g same (a + 1) n in
    cc

-- the numbers of one group more
pub one_group_more : (xs bytes : List ℕ) (width g : ℕ) →
    (xs ++ packed_numbers width bytes (8 * g)) ++ packed_numbers width (drop (g * width) bytes) 8 ≡ xs ++ packed_numbers width bytes (8 * (g + 1))
one_group_more xs bytes width g =
    let f : ℕ → ℕ = λ k. packed_number width bytes (k * width) in
    let here : ℕ → ℕ = λ k. packed_number width (drop (g * width) bytes) (k * width) in
    let moved : (k : ℕ) → here k ≡ f (8 * g + k) = λ k.
    packed-drop bytes (g * width) width (k * width) ∙ ap (λ n. packed_number width bytes n) (omega arith) in
    append_assoc xs (map f (range_with_len 0 (8 * g))) (map here (range_with_len 0 8))
    ∙ ap (λ ys. xs ++ (map f (range_with_len 0 (8 * g)) ++ ys)) (map_same here (λ k. f (8 * g + k)) moved 0 8)
    ∙ ap (λ ys. xs ++ ys) (sym (map-range_with_len_add f (8 * g) 8))
    ∙ ap (λ n. xs ++ map f (range_with_len 0 n)) (omega arith)

-- what stands before the last number stands in the bytes
pub held_before : (k width count len : ℕ) → k ≤ count → count * width ≤ 8 * len → k * width ≤ 8 * len
held_before k width count len h held =
    let less : k * width ≤ count * width = mul-le k width count width (omega arith) (omega arith) in
    omega arith

pub group_within : (g width count len : ℕ) → 8 * g ≤ count → count * width ≤ 8 * len → g * width ≤ len
group_within g width count len h held =
    let less : 8 * g * width ≤ 8 * len = held_before (8 * g) width count len h held in
    omega arith

-- k of count numbers are appended, and there is room for the others
pub record Packs (width : ℕ) (bytes : List ℕ) (count k len cap : ℕ) (old new : List ℕ) : Type 0 where
  pub room : len + (count - k) ≤ cap
  pub longer : len ≡ length old + k
  pub items : new ≡ old ++ packed_numbers width bytes k

pub ruleset word_rules = (same_number)

pub ruleset power_rules = (mod-one_shl)
