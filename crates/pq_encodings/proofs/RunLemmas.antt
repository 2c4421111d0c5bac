-- Runs one after the other.
use Rattle.std.proofs.Common.{◌≡◌, ℕ, true, MatchBool, zero, suc, ◌+◌, ◌-◌, ◌*◌, ◌^◌, ◌<◌, ◌≤◌, List, [], ◌++◌, length, drop, get_or, Ok, Err, Some, None, refl, sym, ap, ◌∙◌, arith, append_assoc, length-append, nat_eq, false}
use Rattle.std.proofs.Math.Nat.{pow-le-pow_right}
use Rattle.std.proofs.lemmas.List.{append-nil}
use Rattle.std.proofs.lemmas.Nat.{mul-le}
use Rattle.byteorder.specs.Endian.{little_number}
use Rattle.byteorder.specs.Numbers.{little_from-lt}
use Rattle.pq_encodings.specs.declared.fault.EncFault.{EncFault}
use Rattle.std.specs.Bool.{OnFalse}
use Rattle.answers.specs.Answers.{Fails}
use Rattle.pq_encodings.specs.Faults.{is_memory}
use Rattle.pq_encodings.specs.Runs.{HasFront, Reading, Stops, in_front, no_more, run_at, runs_in}

pub number_small : (n : ℕ) (xs : List ℕ) → ((k : ℕ) → get_or xs k 0 < 256) → n ≤ 4 → little_number n xs < 2 ^ 32
number_small n xs small h =
    let below : little_number n xs < 256 ^ n = little_from-lt 0 n xs small in
    let high : 256 ^ n ≤ 256 ^ 4 = pow-le-pow_right (omega arith) h in
    omega arith

-- the numbers that are kept stand in the run's bytes
pub held : (count width groups len : ℕ) → count ≤ 8 * groups → groups * width ≤ len → count * width ≤ 8 * len
held count width groups len h within =
    let most : count * width ≤ 8 * groups * width = mul-le count width (8 * groups) width h (omega arith) in
    omega arith

regroup : (front xs : List ℕ) (r : Reading) → in_front front (in_front xs r) ≡ in_front (front ++ xs) r
regroup front xs r = ap (λ (zs : List ℕ). record { values = zs; ended = r.ended }) (sym (append_assoc front xs r.values))

-- where nothing is wanted nothing is read
pub none_wanted : (most width at : ℕ) (bytes : List ℕ) → runs_in most width bytes 0 at ≡ no_more
unfolding runs_in
none_wanted zero width at bytes = refl
none_wanted (suc most) width at bytes = refl

pub one_run : (most width need at used : ℕ) (bytes xs : List ℕ) → 0 < need → run_at width bytes need at ≡ Ok (xs, used)
    → runs_in (suc most) width bytes need at ≡ in_front xs (runs_in most width (drop used bytes) (need - length xs) (at + used))
unfolding runs_in
one_run most width need at used bytes xs some h =
    let test : nat_eq need 0 ≡ false = grind arith in
    rw (test, h) refl

pub one_fault : (most width need at : ℕ) (bytes : List ℕ) (e : EncFault) → 0 < need → run_at width bytes need at ≡ Err e
    → runs_in (suc most) width bytes need at ≡ record { values = []; ended = Some e }
unfolding runs_in
one_fault most width need at bytes e some h =
    let test : nat_eq need 0 ≡ false = grind arith in
    rw (test, h) refl

-- Below, front is what was read before, and turn counts the runs of it.

-- a run was read
pub goes_on : (front xs : List ℕ) (count turn width at used : ℕ) (bytes : List ℕ) (total : Reading) → turn < count → length front < count
    → run_at width bytes (count - length front) at ≡ Ok (xs, used)
    → in_front front (runs_in (count - turn) width bytes (count - length front) at) ≡ total
    → in_front (front ++ xs) (runs_in (count - (turn + 1)) width (drop used bytes) (count - length (front ++ xs)) (at + used)) ≡ total
goes_on front xs count turn width at used bytes total lt some h so_far =
    let fuel : count - turn ≡ suc (count - (turn + 1)) = omega arith in
    let left : count - length (front ++ xs) ≡ count - length front - length xs = omega (arith, length-append front xs) in
    rw left (
    sym (regroup front xs (runs_in (count - (turn + 1)) width (drop used bytes) (count - length front - length xs) (at + used)))
    ∙ ap (λ r. in_front front r) (sym (one_run (count - (turn + 1)) width (count - length front) at used bytes xs (omega arith) h))
    ∙ ap (λ n. in_front front (runs_in n width bytes (count - length front) at)) (sym fuel)
    ∙ so_far)

-- the reading ended at a fault
at_fault : (front : List ℕ) (count turn width at : ℕ) (bytes : List ℕ) (e : EncFault) (total : Reading) → turn < count → length front < count
    → run_at width bytes (count - length front) at ≡ Err e
    → in_front front (runs_in (count - turn) width bytes (count - length front) at) ≡ total
    → (total.values ≡ front) × (total.ended ≡ Some e)
at_fault front count turn width at bytes e total lt some h so_far =
    let fuel : count - turn ≡ suc (count - (turn + 1)) = omega arith in
    let whole : total ≡ record { values = front ++ []; ended = Some e } =
    sym so_far
    ∙ ap (λ n. in_front front (runs_in n width bytes (count - length front) at)) fuel
    ∙ ap (λ r. in_front front r) (one_fault (count - (turn + 1)) width (count - length front) at bytes e (omega arith) h) in
    (ap (λ r. r.values) whole ∙ append-nil front, ap (λ r. r.ended) whole)

pub stops : (e : EncFault) (front : List ℕ) (count turn width at : ℕ) (bytes : List ℕ) (total : Reading) → turn < count → length front < count
    → Fails is_memory e (run_at width bytes (count - length front) at)
    → in_front front (runs_in (count - turn) width bytes (count - length front) at) ≡ total
    → Stops front e total
stops e front count turn width at bytes total lt some h so_far =
    elim (is_memory e) as (λ b. OnFalse b (run_at width bytes (count - length front) at ≡ Err e) → MatchBool b (HasFront front total) ((total.values ≡ front) × (total.ended ≡ Some e))) [
      | true ↦ λ u. ((runs_in (count - turn) width bytes (count - length front) at).values, sym (ap (λ r. r.values) so_far))
      | false ↦ λ is. at_fault front count turn width at bytes e total lt some is so_far
    ] h

-- all that is wanted was read
pub is_done : (front : List ℕ) (count most width at : ℕ) (bytes : List ℕ) (total : Reading) → length front ≡ count
    → in_front front (runs_in most width bytes (count - length front) at) ≡ total → (total.values ≡ front) × (total.ended ≡ None)
is_done front count most width at bytes total full so_far =
    let left : count - length front ≡ 0 = omega arith in
    let whole : total ≡ record { values = front ++ []; ended = None } =
    sym so_far
    ∙ ap (λ n. in_front front (runs_in most width bytes n at)) left
    ∙ ap (λ r. in_front front r) (none_wanted most width at bytes) in
    (ap (λ r. r.values) whole ∙ append-nil front, ap (λ r. r.ended) whole)
