-- The byte strings before the first fault, one after the other.
use Rattle.std.proofs.Common.{◌≡◌, ℕ, ◌+◌, ◌-◌, ◌<◌, ◌≤◌, suc, List, ◌++◌, ◌∷◌, [], sym, ◌∙◌, arith, append_assoc, Result, Ok, Err, IsErr, refl}
use Rattle.std.proofs.lemmas.List.{append-nil}
use Rattle.pq_encodings.specs.declared.fault.EncFault.{EncFault}
use Rattle.pq_encodings.specs.Plain.{string_at, strings_before, then_before}

pub front_read : (front : List (List ℕ)) (count turn at next : ℕ) (bytes x : List ℕ) (total : List (List ℕ)) → turn < count → string_at bytes at ≡ Ok (x, next)
    → front ++ strings_before (count - turn) bytes at ≡ total → (front ++ x ∷ []) ++ strings_before (count - (turn + 1)) bytes next ≡ total
unfolding strings_before
front_read front count turn at next bytes x total lt h so_far =
    let fuel : count - turn ≡ suc (count - (turn + 1)) = omega arith in
    let one : front ++ strings_before (count - turn) bytes at ≡ front ++ x ∷ strings_before (count - (turn + 1)) bytes next = rw (fuel, h) refl in
    append_assoc front (x ∷ []) (strings_before (count - (turn + 1)) bytes next) ∙ sym one ∙ so_far

ends : (found : Result (List ℕ × ℕ) EncFault) (go : ℕ → List (List ℕ)) → IsErr found → then_before found go ≡ []
ends (Ok x) go h = cc
ends (Err e) go h = refl

pub front_stops : (front : List (List ℕ)) (count turn at : ℕ) (bytes : List ℕ) (total : List (List ℕ)) → turn < count → IsErr (string_at bytes at)
    → front ++ strings_before (count - turn) bytes at ≡ total → front ≡ total
unfolding strings_before
front_stops front count turn at bytes total lt h so_far =
    let fuel : count - turn ≡ suc (count - (turn + 1)) = omega arith in
    let one : front ++ strings_before (count - turn) bytes at ≡ front = rw (fuel, ends (string_at bytes at) (strings_before (count - (turn + 1)) bytes) h) (append-nil front) in
    sym one ∙ so_far

pub front_done : (front : List (List ℕ)) (count turn at : ℕ) (bytes : List ℕ) (total : List (List ℕ)) → count ≤ turn
    → front ++ strings_before (count - turn) bytes at ≡ total → front ≡ total
unfolding strings_before
front_done front count turn at bytes total le so_far =
    let fuel : count - turn ≡ 0 = omega arith in
    let one : front ++ strings_before (count - turn) bytes at ≡ front = rw fuel (append-nil front) in
    sym one ∙ so_far
