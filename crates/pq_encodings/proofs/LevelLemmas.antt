-- The longest runs of equal values.
use Rattle.std.proofs.Common.{◌≡◌, ℕ, zero, suc, ◌+◌, ◌*◌, ◌<◌, ◌≤◌, List, [], ◌∷◌, ◌++◌, length, drop, get_or, Bool, true, false, cond, refl, sym, ap, ◌∙◌, arith, append_assoc, add-one, map, subst, inl, inr, drop-cons, ◌-◌, ◌^◌}
use Rattle.std.proofs.lemmas.List.{append-nil, drop_all}
use Rattle.std.proofs.lemmas.Bool.{cases_Bool}
use Rattle.std.specs.List.{flat_map}
use Rattle.std.specs.Prelude.{replicate}
use Rattle.byteorder.specs.Endian.{little_number}
use Rattle.pq_encodings.specs.Grammar.{HoldsRuns, IsHeader, repeated}
use Rattle.pq_encodings.specs.Varint.{varint_bytes}
use Rattle.pq_encodings.proofs.GrammarLemmas.{holds_nothing}
use Rattle.pq_encodings.proofs.VarintLemmas.{length-varint_bytes, varint_bytes-spelled}
use Rattle.pq_encodings.specs.Levels.{Run, StartsOther, level_of, same, onto_run, runs_of, run_bytes, level_bytes}

same_self : (x : Bool) → same x x ≡ true
same_self true = refl
same_self false = refl

onto_other_run : (x y : Bool) (rs : List Run) → same x y ≡ false → onto_run x (onto_run y rs) ≡ record { value = x; count = 1 } ∷ onto_run y rs
onto_other_run x y [] h = rw h refl
onto_other_run x y (r ∷ rs) h =
    let one : Run = record { value = x; count = 1 } in
    let next : Bool → List Run = λ b. cond b (record { value = y; count = r.count + 1 } ∷ rs) (record { value = y; count = 1 } ∷ r ∷ rs) in
    elim (same y r.value) as (λ b. onto_run x (next b) ≡ one ∷ next b) [ true ↦ rw h refl | false ↦ rw h refl ]

onto_other : (x : Bool) (rest : List Bool) → StartsOther x rest → onto_run x (runs_of rest) ≡ record { value = x; count = 1 } ∷ runs_of rest
unfolding runs_of
onto_other x [] h = refl
onto_other x (y ∷ ys) h = onto_other_run x y (runs_of ys) h

pub run-of_equal : (c : ℕ) (x : Bool) (rest : List Bool) → StartsOther x rest → runs_of (replicate (suc c) x ++ rest) ≡ record { value = x; count = c + 1 } ∷ runs_of rest
unfolding runs_of
run-of_equal zero x rest h = onto_other x rest h
run-of_equal (suc c) x rest h =
    ap (λ rs. onto_run x rs) (run-of_equal c x rest h) ∙ rw (same_self x) (ap (λ n. record { value = x; count = n } ∷ runs_of rest) (omega arith))

pub bytes-of_equal : (c : ℕ) (x : Bool) (rest : List Bool) → StartsOther x rest → level_bytes (replicate (suc c) x ++ rest) ≡ run_bytes (record { value = x; count = c + 1 }) ++ level_bytes rest
bytes-of_equal c x rest h = rw (run-of_equal c x rest h) refl

pub one_more_equal : (c : ℕ) (x : Bool) (rest : List Bool) → replicate c x ++ x ∷ rest ≡ replicate (suc c) x ++ rest
one_more_equal zero x rest = refl
one_more_equal (suc c) x rest = ap (λ ys. x ∷ ys) (one_more_equal c x rest)

-- what is kept: the bytes so far, the values counted, and those that are left
pub record Spells (levels : List Bool) (at count : ℕ) (out : List ℕ) : Type 0 where
  pub bytes : out ++ level_bytes (replicate count (get_or levels at false) ++ drop at levels) ≡ level_bytes levels
  pub few : count ≤ at
  pub last : length levels ≤ at → count ≡ 0

-- a value is taken
pub taken : (levels : List Bool) (at count : ℕ) → at < length levels → replicate count (get_or levels at false) ++ drop at levels ≡ replicate (suc count) (get_or levels at false) ++ drop (suc at) levels
taken levels at count h = ap (λ ys. replicate count (get_or levels at false) ++ ys) (drop-cons levels at false h) ∙ one_more_equal count (get_or levels at false) (drop (suc at) levels)

-- a run has ended
pub run_ended : (levels : List Bool) (at count : ℕ) (out new : List ℕ) → at < length levels → StartsOther (get_or levels at false) (drop (at + 1) levels) → Spells levels at count out
    → new ≡ out ++ run_bytes (record { value = get_or levels at false; count = count + 1 }) → Spells levels (at + 1) 0 new
run_ended levels at count out new lt other so_far e =
    let x : Bool = get_or levels at false in
    let next : suc at ≡ at + 1 = omega arith in
    let whole : level_bytes (replicate count x ++ drop at levels) ≡ run_bytes (record { value = x; count = count + 1 }) ++ level_bytes (drop (at + 1) levels) =
    ap (λ ys. level_bytes ys) (taken levels at count lt ∙ ap (λ n. replicate (suc count) x ++ drop n levels) next) ∙ bytes-of_equal count x (drop (at + 1) levels) other in
    record {
      bytes = ap (λ ys. ys ++ level_bytes (drop (at + 1) levels)) e
          ∙ append_assoc out (run_bytes (record { value = x; count = count + 1 })) (level_bytes (drop (at + 1) levels))
          ∙ ap (λ ys. out ++ ys) (sym whole)
          ∙ so_far.bytes;
      few = omega arith;
      last = λ h. refl;
    }

-- a run goes on
pub run_continues : (levels : List Bool) (at count : ℕ) (out : List ℕ) → at + 1 < length levels → get_or levels (at + 1) false ≡ get_or levels at false → Spells levels at count out
    → Spells levels (at + 1) (count + 1) out
run_continues levels at count out lt same so_far =
    let next : suc at ≡ at + 1 = omega arith in
    let more : suc count ≡ count + 1 = omega arith in
    record {
      bytes = rw same (ap (λ ys. out ++ level_bytes ys) (sym (taken levels at count (omega arith) ∙ ap (λ n. replicate (suc count) (get_or levels at false) ++ drop n levels) next ∙ ap (λ n. replicate n (get_or levels at false) ++ drop (at + 1) levels) more)) ∙ so_far.bytes);
      few = omega (arith, so_far.few);
      last = λ h. absurd (omega arith);
    }

pub all_spelled : (levels : List Bool) (at count : ℕ) (out : List ℕ) → length levels ≤ at → Spells levels at count out → out ≡ level_bytes levels
unfolding runs_of
all_spelled levels at count out h so_far =
    let none : count ≡ 0 = so_far.last h in
    let rest : drop at levels ≡ [] = drop_all at levels h in
    sym (append-nil out) ∙ sym (ap (λ n. out ++ level_bytes (replicate n (get_or levels at false) ++ drop at levels)) none ∙ ap (λ ys. out ++ level_bytes ys) rest) ∙ so_far.bytes

-- ---- The bytes hold the levels

abbrev total : List Run → ℕ
total [] = 0
total (r ∷ rs) = r.count + total rs

abbrev AreFull : List Run → Type 0
AreFull [] = Unit {0}
AreFull (r ∷ rs) = (0 < r.count) × AreFull rs

abbrev levels_of_run : Run → List ℕ
levels_of_run r = replicate r.count (level_of r.value)

run_header : (count : ℕ) → count < 2 ^ 63 → IsHeader (varint_bytes 9 (2 * count)) (2 * count)
run_header count fits =
    let small : 2 * count < 2 ^ (7 * 9 + 1) = omega arith in
    record { spelled = varint_bytes-spelled 9 (2 * count) small; few = omega (arith, length-varint_bytes 9 (2 * count)); fits = omega arith }

runs_held : (rs : List Run) (rest : List ℕ) → AreFull rs → total rs < 2 ^ 63 → HoldsRuns 1 (total rs) (flat_map run_bytes rs ++ rest) (flat_map levels_of_run rs)
runs_held [] rest full fits = holds_nothing 1 rest
runs_held (r ∷ rs) rest full fits =
    let header : List ℕ = varint_bytes 9 (2 * r.count) in
    let body : List ℕ = level_of r.value ∷ (flat_map run_bytes rs ++ rest) in
    let bytes : (header ++ level_of r.value ∷ []) ++ flat_map run_bytes rs ++ rest ≡ header ++ body =
    append_assoc (header ++ level_of r.value ∷ []) (flat_map run_bytes rs) rest ∙ append_assoc header (level_of r.value ∷ []) (flat_map run_bytes rs ++ rest) in
    let one : little_number 1 body ≡ level_of r.value = omega arith in
    let left : r.count + total rs - r.count ≡ total rs = omega arith in
    let onward : HoldsRuns 1 (r.count + total rs - r.count) (flat_map run_bytes rs ++ rest) (flat_map levels_of_run rs) = rw left (runs_held rs rest full.1 (omega arith)) in
    let all : HoldsRuns 1 (r.count + total rs) (header ++ body) (replicate r.count (little_number 1 body) ++ flat_map levels_of_run rs) =
    repeated r.count (r.count + total rs) header body (flat_map levels_of_run rs) (run_header r.count (omega arith)) full.0 (omega arith) (omega arith) onward in
    rw bytes (subst (λ (x : ℕ). HoldsRuns 1 (r.count + total rs) (header ++ body) (replicate r.count x ++ flat_map levels_of_run rs)) one all)

same_is : (x y : Bool) → same x y ≡ true → x ≡ y
same_is true true h = refl
same_is true false h = cc
same_is false true h = cc
same_is false false h = refl

-- one level before some runs
record Onto (b : Bool) (rs new : List Run) : Type 0 where
  pub full : AreFull new
  pub more : total new ≡ total rs + 1
  pub levels : flat_map levels_of_run new ≡ level_of b ∷ flat_map levels_of_run rs

onto_run-is : (b : Bool) (rs : List Run) → AreFull rs → Onto b rs (onto_run b rs)
onto_run-is b [] full = record { full = (omega arith, tt); more = omega arith; levels = refl }
onto_run-is b (r ∷ rs) full =
    elim (cases_Bool (same b r.value)) [
      | inl p ↦
          let value : b ≡ r.value = same_is b r.value p in
          let longer : replicate (r.count + 1) (level_of b) ++ flat_map levels_of_run rs ≡ level_of b ∷ (replicate r.count (level_of r.value) ++ flat_map levels_of_run rs) =
          rw (add-one, value) refl in
          rw p (record { full = (omega arith, full.1); more = omega arith; levels = longer })
      | inr p ↦ rw p (record { full = (omega arith, full); more = omega arith; levels = refl })
    ]

-- the runs of some levels
record Covers (bs : List Bool) (rs : List Run) : Type 0 where
  pub full : AreFull rs
  pub size : total rs ≡ length bs
  pub levels : flat_map levels_of_run rs ≡ map level_of bs

runs_of-covers : (bs : List Bool) → Covers bs (runs_of bs)
unfolding runs_of
runs_of-covers [] = record { full = tt; size = refl; levels = refl }
runs_of-covers (b ∷ bs) =
    let rest = runs_of-covers bs in
    let onto = onto_run-is b (runs_of bs) rest.full in
    record {
      full = onto.full;
      size = omega (arith, onto.more, rest.size);
      levels = onto.levels ∙ ap (λ xs. level_of b ∷ xs) rest.levels;
    }

pub level_bytes-held : (bs : List Bool) (rest : List ℕ) → length bs < 2 ^ 63 → HoldsRuns 1 (length bs) (level_bytes bs ++ rest) (map level_of bs)
level_bytes-held bs rest fits =
    let covers = runs_of-covers bs in
    rw (← covers.size, ← covers.levels) (runs_held (runs_of bs) rest covers.full (omega (arith, covers.size)))
