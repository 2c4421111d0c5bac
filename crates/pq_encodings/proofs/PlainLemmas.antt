-- Plain values one after the other.
use Rattle.std.proofs.Common.{◌≡◌, ℕ, ◌+◌, List, ◌++◌, ◌∷◌, [], map, sym, ap, ◌∙◌, arith, append_assoc, take, length, get_or, true, false, ◌<◌, ◌≤◌, ◌-◌, suc, Result, Ok, Err, refl, Vec, Global, All}
use Rattle.pq_encodings.specs.declared.fault.EncFault.{EncFault}
use Rattle.pq_encodings.specs.declared.strings.TheConstants.{MAX_STRING}
use Rattle.pq_encodings.specs.Plain.{behind, onto, string_at, strings_at}
use Rattle.std.specs.Bool.{OnFalse}
use Rattle.answers.specs.Answers.{Fails}
use Rattle.pq_encodings.specs.Faults.{is_memory}
use Rattle.std.proofs.lemmas.List.{append-nil, get_or-map, length-map, take_more}
use Rattle.std.proofs.lemmas.Grind.{flat_map-append}
use Rattle.std.specs.List.{range_with_len, flat_map}
use Rattle.std.proofs.lemmas.Nat.Bits.{shr_and_one}
use Rattle.std.proofs.lemmas.List.FromFn.{map-range_with_len_more}

-- k of count values are pushed as P says, and there is room for the others
pub record Fills (count k len cap : ℕ) (P : Type 0) : Type 0 where
  pub room : len + (count - k) ≤ cap
  pub items : P

-- one more of a list made from places
pub one_more_place : {X : Type 0} → (f : ℕ → X) (k : ℕ) → map f (range_with_len 0 (k + 1)) ≡ map f (range_with_len 0 k) ++ f k ∷ []
one_more_place f k = map-range_with_len_more f 0 k k (omega arith)

-- one more piece
pub flat_more : {X A : Type 0} → (f : X → List A) (xs : List X) (i : ℕ) (d : X) → i < length xs → flat_map f (take (i + 1) xs) ≡ flat_map f (take i xs) ++ f (get_or xs i d)
flat_more f xs i d h =
    ap (λ ys. flat_map f ys) (take_more xs i d h) ∙ flat_map-append f (take i xs) (get_or xs i d ∷ [])
    ∙ ap (λ ys. flat_map f (take i xs) ++ ys) (append-nil (f (get_or xs i d)))

pub ruleset plain_rules = (one_more_place, flat_more)

pub ruleset bit_rules = (shr_and_one)

-- what holds of each byte string of a list holds of each Vec that keeps one
pub each_is_short : (vs : List (Vec ℕ Global)) (xs : List (List ℕ)) → map (λ (v : Vec ℕ Global). v.items) vs ≡ xs → All (λ x. length x ≤ MAX_STRING) xs →
    (k : ℕ) (d : Vec ℕ Global) → k < length vs → length (get_or vs k d).items ≤ MAX_STRING
each_is_short vs xs e short k d h =
    let same : get_or xs k d.items ≡ (get_or vs k d).items =
    ap (λ ys. get_or ys k d.items) (sym e) ∙ get_or-map (λ (v : Vec ℕ Global). v.items) vs k d d.items h in
    let within : k < length xs = omega (arith, simp length-map at (ap length e)) in
    let here : length (get_or xs k d.items) ≤ MAX_STRING = short k d.items within in
    omega (arith, ap length same)

regroup : (front : List (List ℕ)) (x : List ℕ) (r : Result (List (List ℕ)) EncFault) → behind front (onto x r) ≡ behind (front ++ x ∷ []) r
regroup front x (Ok xs) = ap (λ (ys : List (List ℕ)). Ok ys) (sym (append_assoc front (x ∷ []) xs))
regroup front x (Err e) = refl

pub string_read : (front : List (List ℕ)) (count turn at next : ℕ) (bytes x : List ℕ) (total : Result (List (List ℕ)) EncFault) → turn < count → string_at bytes at ≡ Ok (x, next)
    → behind front (strings_at (count - turn) bytes at) ≡ total → behind (front ++ x ∷ []) (strings_at (count - (turn + 1)) bytes next) ≡ total
unfolding strings_at
string_read front count turn at next bytes x total lt h so_far =
    let fuel : count - turn ≡ suc (count - (turn + 1)) = omega arith in
    let one : behind front (strings_at (count - turn) bytes at) ≡ behind (front ++ x ∷ []) (strings_at (count - (turn + 1)) bytes next) =
    rw (fuel, h) (regroup front x (strings_at (count - (turn + 1)) bytes next)) in
    sym one ∙ so_far

string_refused : (front : List (List ℕ)) (count turn at : ℕ) (bytes : List ℕ) (e : EncFault) (total : Result (List (List ℕ)) EncFault) → turn < count → string_at bytes at ≡ Err e
    → behind front (strings_at (count - turn) bytes at) ≡ total → total ≡ Err e
unfolding strings_at
string_refused front count turn at bytes e total lt h so_far =
    let fuel : count - turn ≡ suc (count - (turn + 1)) = omega arith in
    let one : behind front (strings_at (count - turn) bytes at) ≡ Err e = rw (fuel, h) refl in
    sym so_far ∙ one

pub strings_stop : (e : EncFault) (front : List (List ℕ)) (count turn at : ℕ) (bytes : List ℕ) (total : Result (List (List ℕ)) EncFault) → turn < count → Fails is_memory e (string_at bytes at)
    → behind front (strings_at (count - turn) bytes at) ≡ total → Fails is_memory e total
strings_stop e front count turn at bytes total lt h so_far =
    elim (is_memory e) as (λ b. OnFalse b (string_at bytes at ≡ Err e) → OnFalse b (total ≡ Err e))
    [ true ↦ λ u. tt | false ↦ λ is. string_refused front count turn at bytes e total lt is so_far ] h

pub strings_done : (front : List (List ℕ)) (count turn at : ℕ) (bytes : List ℕ) (total : Result (List (List ℕ)) EncFault) → count ≤ turn
    → behind front (strings_at (count - turn) bytes at) ≡ total → total ≡ Ok front
unfolding strings_at
strings_done front count turn at bytes total le so_far =
    let fuel : count - turn ≡ 0 = omega arith in
    let one : behind front (strings_at (count - turn) bytes at) ≡ Ok front = rw fuel (ap (λ (ys : List (List ℕ)). Ok ys) (append-nil front)) in
    sym so_far ∙ one
