-- The reading of hybrid runs: the values up to the first fault, and that fault.
use Rattle.std.specs.Prelude.{◌≡◌, MatchBool, ℕ, zero, suc, ◌+◌, ◌-◌, ◌*◌, ◌/◌, ◌%◌, ◌++◌, min, nat_lt, nat_eq, if◌then◌else◌, List, [], length, drop, replicate, Result, Ok, Err, Option, Some, None}
use Rattle.byteorder.specs.Endian.{little_number}
use Rattle.pq_encodings.specs.declared.fault.EncFault.{EncFault}
use Rattle.pq_encodings.specs.declared.fault.EncFault.TheVariants as fault
use Rattle.pq_encodings.specs.declared.varint.Varint.{Varint}
use Rattle.pq_encodings.specs.declared.varint.Varint.TheVariants as varint
use Rattle.answers.specs.Answers.{Fails}
use Rattle.pq_encodings.specs.Faults.{is_memory}
use Rattle.pq_encodings.specs.Bits.{packed_numbers}
use Rattle.pq_encodings.specs.Varint.{varint_in}

-- how many bytes hold one repeated value
abbrev pub whole_bytes : ℕ → ℕ
whole_bytes width = (width + 7) / 8

-- The values of a run and how many bytes they take, or the run's fault. The body is what follows the header, need
-- values are wanted, and the run begins at place at.
abbrev pub repeated_run : ℕ → List ℕ → ℕ → ℕ → ℕ → Result (List ℕ × ℕ) EncFault
repeated_run width body need at count =
    if nat_lt need count then Err (fault.BadRun at)
    else (if nat_lt (length body) (whole_bytes width) then Err (fault.Short at)
    else Ok (replicate count (little_number (whole_bytes width) body), whole_bytes width))

-- values past those that are wanted are left out
abbrev pub packed_run : ℕ → List ℕ → ℕ → ℕ → ℕ → Result (List ℕ × ℕ) EncFault
packed_run width body need at groups =
    if nat_lt (length body) (groups * width) then Err (fault.Short at)
    else Ok (packed_numbers width body (min need (8 * groups)), groups * width)

-- by cases on the header: an even one is of equal values, an odd one of packed groups of eight
abbrev pub body_of : ℕ → List ℕ → ℕ → ℕ → ℕ → Result (List ℕ × ℕ) EncFault
body_of width body need at header =
    if nat_eq (header / 2) 0 then Err (fault.BadRun at)
    else (if nat_eq (header % 2) 0 then repeated_run width body need at (header / 2)
    else packed_run width body need at (header / 2))

-- the same behind a header of so many bytes
abbrev pub behind_header : ℕ → Result (List ℕ × ℕ) EncFault → Result (List ℕ × ℕ) EncFault
behind_header len (Ok run) = Ok (run.0, len + run.1)
behind_header len (Err e) = Err e

abbrev pub run_of : ℕ → List ℕ → ℕ → ℕ → Varint → Result (List ℕ × ℕ) EncFault
run_of width bytes need at varint.Short = Err (fault.Short at)
run_of width bytes need at varint.Wide = Err (fault.BadRun at)
run_of width bytes need at (varint.Is header len) = behind_header len (body_of width (drop len bytes) need at header)

-- the run that the bytes begin with
unfoldable pub run_at : ℕ → List ℕ → ℕ → ℕ → Result (List ℕ × ℕ) EncFault
run_at width bytes need at = run_of width bytes need at (varint_in 10 bytes)

-- the values that were had, and the fault that ended the reading, if one did
pub record Reading : Type 0 where
  pub values : List ℕ
  pub ended : Option EncFault

abbrev pub no_more : Reading
no_more = record { values = []; ended = None }

-- values before a reading
abbrev pub in_front : List ℕ → Reading → Reading
in_front front r = record { values = front ++ r.values; ended = r.ended }

-- after a run comes the rest; a fault ends the reading
abbrev pub after_run : Result (List ℕ × ℕ) EncFault → (List ℕ × ℕ → Reading) → Reading
after_run (Ok run) go = in_front run.0 (go run)
after_run (Err e) go = record { values = []; ended = Some e }

-- run after run, until no value is wanted
unfoldable pub runs_in : ℕ → ℕ → List ℕ → ℕ → ℕ → Reading
runs_in zero width bytes need at = no_more
runs_in (suc most) width bytes need at =
    if nat_eq need 0 then no_more
    else after_run (run_at width bytes need at) (λ run. runs_in most width (drop run.1 bytes) (need - length run.0) (at + run.1))

-- The reading of count values, where the bytes begin at place at. Each run has a value, so count runs are enough.
abbrev pub runs_from : ℕ → List ℕ → ℕ → ℕ → Reading
runs_from width bytes count at = runs_in count width bytes count at

-- all the values, or the fault
abbrev pub all_of : List ℕ → Option EncFault → Result (List ℕ) EncFault
all_of xs None = Ok xs
all_of xs (Some e) = Err e

-- count levels, or the first fault
abbrev pub levels_in : ℕ → List ℕ → ℕ → Result (List ℕ) EncFault
levels_in width bytes count =
    let r = runs_from width bytes count 0 in
    all_of r.values r.ended

-- the values that were kept are the first that the reading has
abbrev pub HasFront : List ℕ → Reading → Type 0
HasFront kept r = (more : List ℕ) × (r.values ≡ kept ++ more)

-- What a body that reads runs has kept where it ended at a fault: the values before the fault; where memory ran out,
-- the first of them.
abbrev pub Stops : List ℕ → EncFault → Reading → Type 0
Stops kept e r = MatchBool (is_memory e) (HasFront kept r) ((r.values ≡ kept) × (r.ended ≡ Some e))

abbrev pub Reads : List ℕ → Result (Unit {0}) EncFault → Reading → Type 0
Reads kept (Ok x) r = (r.values ≡ kept) × (r.ended ≡ None)
Reads kept (Err e) r = Stops kept e r

-- the same of a body that appends one run's values and answers how many bytes it takes
abbrev pub Appends : List ℕ → List ℕ → Result ℕ EncFault → Result (List ℕ × ℕ) EncFault → Type 0
Appends old new (Ok used) read = (xs : List ℕ) × (read ≡ Ok (xs, used)) × (new ≡ old ++ xs)
Appends old new (Err e) read = Fails is_memory e read
