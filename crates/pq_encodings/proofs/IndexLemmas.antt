-- Indices against the size.
use Rattle.std.proofs.Common.{◌≡◌, ℕ, ◌+◌, ◌<◌, ◌≤◌, inl, inr, List, [], ◌∷◌, ◌++◌, length, drop, get_or, All, Result, Ok, Err, Option, Some, None, refl, sym, ap, subst, ◌∙◌, arith, nat_eq, nat_lt, Bool, MatchBool, false, true, cond}
use Rattle.std.proofs.Math.Dec.{eqb-suc-zero}
use Rattle.std.proofs.lemmas.Bool.{cases_lt, eq-eqb, le-ltb, lt-ltb, ltb-true}
use Rattle.std.proofs.lemmas.List.Elements.{All-cons, All-head, All-nil, All-tail}
use Rattle.pq_encodings.specs.declared.fault.EncFault.{EncFault}
use Rattle.pq_encodings.specs.declared.fault.EncFault.TheVariants as fault
use Rattle.answers.specs.Answers.{Fails}
use Rattle.answers.proofs.AnswerLemmas.{stands}
use Rattle.pq_encodings.specs.Faults.{is_memory}
use Rattle.pq_encodings.specs.Indices.{bad_index, checked, indices_in, or_else}
use Rattle.pq_encodings.specs.Runs.{HasFront, Reading, Reads, Stops, runs_from, runs_in}
use Rattle.pq_encodings.specs.Grammar.{HoldsIndices, HoldsRuns}
use Rattle.pq_encodings.proofs.GrammarLemmas.{all_of-is, held_count, holds_nothing, runs_in-held, runs_in-of_held}
use Rattle.pq_encodings.proofs.RunLemmas.{none_wanted}

-- a bad index among the first values is the first one of all
bad_index-more : (size at : ℕ) (xs ys : List ℕ) (e : EncFault) → bad_index size at xs ≡ Some e → bad_index size at (xs ++ ys) ≡ Some e
bad_index-more size at [] ys e h = cc
bad_index-more size at (x ∷ xs) ys e h =
    let here : EncFault = fault.BadIndex at x size in
    elim (nat_lt x size) as (λ t. cond t (bad_index size (at + 1) xs) (Some here) ≡ Some e → cond t (bad_index size (at + 1) (xs ++ ys)) (Some here) ≡ Some e)
    [ true ↦ bad_index-more size (at + 1) xs ys e | false ↦ λ k. k ] h

refuses : (size : ℕ) (kept : List ℕ) (e b : EncFault) (r : Reading) → Stops kept e r → bad_index size 0 kept ≡ Some b → checked size r ≡ Err b
refuses size kept e b r h bad =
    elim (is_memory e) as (λ c. MatchBool c (HasFront kept r) ((r.values ≡ kept) × (r.ended ≡ Some e)) → checked size r ≡ Err b)
    [ true ↦ λ is. rw (is.1, bad_index-more size 0 kept is.0 b bad) refl | false ↦ λ is. rw (is.0, bad) refl ] h

-- a bad index is answered, however the reading ended
pub refused : (size : ℕ) (kept : List ℕ) (read : Result (Unit {0}) EncFault) (b : EncFault) (r : Reading) → Reads kept read r → bad_index size 0 kept ≡ Some b → Fails is_memory b (checked size r)
refused size kept (Ok x) b r h bad = stands is_memory b (checked size r) (rw (h.0, bad) refl)
refused size kept (Err e) b r h bad = stands is_memory b (checked size r) (refuses size kept e b r h bad)

-- ---- The indices that the bytes hold

cond-none : (t : Bool) (o : Option EncFault) (e : EncFault) → cond t o (Some e) ≡ None → (t ≡ true) × (o ≡ None)
cond-none true o e h = (refl, h)
cond-none false o e h = cc

bad_index-none : (size at : ℕ) (xs : List ℕ) → bad_index size at xs ≡ None → All (λ x. x < size) xs
bad_index-none size at [] h = All-nil (λ x. x < size)
bad_index-none size at (x ∷ xs) h =
    let parts = cond-none (nat_lt x size) (bad_index size (at + 1) xs) (fault.BadIndex at x size) h in
    All-cons (λ x. x < size) x xs (ltb-true x size parts.0) (bad_index-none size (at + 1) xs parts.1)

bad_index-of_all : (size at : ℕ) (xs : List ℕ) → All (λ x. x < size) xs → bad_index size at xs ≡ None
bad_index-of_all size at [] below = refl
bad_index-of_all size at (x ∷ xs) below =
    let here : nat_lt x size ≡ true = lt-ltb x size (All-head (λ x. x < size) x xs below) in
    rw here (bad_index-of_all size (at + 1) xs (All-tail (λ x. x < size) x xs below))

or_else-none : (first later : Option EncFault) → or_else first later ≡ None → (first ≡ None) × (later ≡ None)
or_else-none None later h = (refl, h)
or_else-none (Some e) later h = cc

checked-is : (size : ℕ) (r : Reading) (xs : List ℕ) → checked size r ≡ Ok xs → (r.values ≡ xs) × (r.ended ≡ None) × (bad_index size 0 r.values ≡ None)
checked-is size r xs h =
    let parts = all_of-is r.values (or_else (bad_index size 0 r.values) r.ended) xs h in
    let both = or_else-none (bad_index size 0 r.values) r.ended parts.1 in
    (parts.0, both.1, both.0)

err-ok : (e : EncFault) (xs : List ℕ) → ◌≡◌ {A = Result (List ℕ) EncFault} (Err e) (Ok xs) → ⊥
err-ok e xs h = cc

ok-ok : (xs ys : List ℕ) → ◌≡◌ {A = Result (List ℕ) EncFault} (Ok xs) (Ok ys) → xs ≡ ys
ok-ok xs ys h = cc

-- none is wanted
held_none : (bytes : List ℕ) (size : ℕ) → HoldsIndices 0 size bytes []
held_none [] size = (refl, refl)
held_none (width ∷ bytes) size = (λ h. absurd (omega arith), holds_nothing width bytes, All-nil (λ x. x < size))

held_some : (width : ℕ) (bytes : List ℕ) (count size : ℕ) (xs : List ℕ) → width ≤ 32 → checked size (runs_from width bytes count 1) ≡ Ok xs → HoldsIndices count size (width ∷ bytes) xs
held_some width bytes count size xs h read =
    let r : Reading = runs_from width bytes count 1 in
    let parts = checked-is size r xs read in
    let runs : HoldsRuns width count bytes r.values = runs_in-held count width bytes count 1 (omega arith) parts.1 in
    let below : All (λ x. x < size) r.values = bad_index-none size 0 r.values parts.2 in
    (λ some. h, subst (λ (ys : List ℕ). HoldsRuns width count bytes ys) parts.0 runs, subst (λ (ys : List ℕ). All (λ x. x < size) ys) parts.0 below)

-- what is answered is held
pub indices_in-held : (bytes : List ℕ) (count size : ℕ) (xs : List ℕ) → indices_in bytes count size ≡ Ok xs → HoldsIndices count size bytes xs
indices_in-held bytes count size xs h =
    elim (cases_lt 0 count) [
      | inr p ↦
          let test : nat_eq count 0 ≡ true = eq-eqb count 0 (omega arith) in
          let zero_is : count ≡ 0 = omega arith in
          let empty : [] ≡ xs = ok-ok [] xs (rw test at h) in
          rw (zero_is, ← empty) (held_none bytes size)
      | inl p ↦
          let test : nat_eq count 0 ≡ false = grind arith in
          held_wanted bytes count size xs p (rw test at h)
    ]
  where
    held_wanted : (bytes : List ℕ) (count size : ℕ) (xs : List ℕ) → 0 < count →
        cond (nat_eq (length bytes) 0) (Err (fault.Short 0)) (cond (nat_lt 32 (get_or bytes 0 0)) (Err (fault.BadRun 0)) (checked size (runs_from (get_or bytes 0 0) (drop 1 bytes) count 1))) ≡ Ok xs →
        HoldsIndices count size bytes xs
    held_wanted [] count size xs p h = absurd (err-ok (fault.Short 0) xs h)
    held_wanted (width ∷ bytes) count size xs p h =
        let filled : nat_eq (length (width ∷ bytes)) 0 ≡ false = eqb-suc-zero (length bytes) in
        elim (cases_lt 32 width) [
          | inl q ↦
              let wide : nat_lt 32 width ≡ true = lt-ltb 32 width q in
              absurd (err-ok (fault.BadRun 0) xs (rw (filled, wide) at h))
          | inr q ↦
              let narrow : nat_lt 32 width ≡ false = le-ltb 32 width q in
              held_some width bytes count size xs q (rw (filled, narrow) at h)
        ]

holds_below : (count size : ℕ) (bytes xs : List ℕ) → HoldsIndices count size bytes xs → All (λ x. x < size) xs
holds_below count size [] xs held = rw held.1 (All-nil (λ x. x < size))
holds_below count size (width ∷ bytes) xs held = held.2

pub indices_in-below : (bytes : List ℕ) (count size : ℕ) (xs : List ℕ) → indices_in bytes count size ≡ Ok xs → All (λ x. x < size) xs
indices_in-below bytes count size xs h = holds_below count size bytes xs (indices_in-held bytes count size xs h)

-- what is held is answered
pub indices_in-of_held : (bytes : List ℕ) (count size : ℕ) (xs : List ℕ) → HoldsIndices count size bytes xs → indices_in bytes count size ≡ Ok xs
indices_in-of_held [] count size xs held = rw (held.0, held.1) refl
indices_in-of_held (width ∷ bytes) count size xs held =
    let read = runs_in-of_held held.1 count 1 (omega arith) in
    let all : bad_index size 0 xs ≡ None = bad_index-of_all size 0 xs held.2 in
    elim (cases_lt 0 count) [
      | inr p ↦
          let test : nat_eq count 0 ≡ true = eq-eqb count 0 (omega arith) in
          let zero_is : count ≡ 0 = omega arith in
          let values : xs ≡ [] = ap (λ r. r.values) (sym read) ∙ ap (λ (r : Reading). r.values) (ap (λ n. runs_in count width bytes n 1) zero_is ∙ none_wanted count width 1 bytes) in
          rw (test, values) refl
      | inl p ↦
          let test : nat_eq count 0 ≡ false = grind arith in
          let filled : nat_eq (length (width ∷ bytes)) 0 ≡ false = eqb-suc-zero (length bytes) in
          let narrow : nat_lt 32 width ≡ false = le-ltb 32 width (held.0 p) in
          rw (test, filled, narrow, read, all) refl
    ]

held_indices : (count size : ℕ) (bytes xs : List ℕ) → HoldsIndices count size bytes xs → length xs ≡ count
held_indices count size [] xs held = rw (held.0, held.1) refl
held_indices count size (width ∷ bytes) xs held = held_count held.1

-- as many as are wanted
pub indices_in-count : (count size : ℕ) (bytes xs : List ℕ) → indices_in bytes count size ≡ Ok xs → length xs ≡ count
indices_in-count count size bytes xs h = held_indices count size bytes xs (indices_in-held bytes count size xs h)
