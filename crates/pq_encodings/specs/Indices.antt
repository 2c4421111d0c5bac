-- Indices into a dictionary: a byte of the width, then hybrid runs.
use Rattle.std.specs.Prelude.{ℕ, ◌+◌, nat_lt, nat_eq, if◌then◌else◌, List, [], ◌∷◌, length, drop, slice_index, Result, Ok, Err, Option, Some, None}
use Rattle.pq_encodings.specs.declared.fault.EncFault.{EncFault}
use Rattle.pq_encodings.specs.declared.fault.EncFault.TheVariants as fault
use Rattle.pq_encodings.specs.Runs.{Reading, all_of, runs_from}

-- the first of some indices that isn't below the size; the first stands at place at among the values
abbrev pub bad_index : ℕ → ℕ → List ℕ → Option EncFault
bad_index size at [] = None
bad_index size at (x ∷ xs) = if nat_lt x size then bad_index size (at + 1) xs else Some (fault.BadIndex at x size)

abbrev pub or_else : Option EncFault → Option EncFault → Option EncFault
or_else None later = later
or_else (Some e) later = Some e

-- a bad index among the values that were had goes before the fault that ended the reading
abbrev pub checked : ℕ → Reading → Result (List ℕ) EncFault
checked size r = all_of r.values (or_else (bad_index size 0 r.values) r.ended)

-- count indices below the size, or the first fault; of no indices no byte is read
abbrev pub indices_in : List ℕ → ℕ → ℕ → Result (List ℕ) EncFault
indices_in bytes count size =
    if nat_eq count 0 then Ok []
    else (if nat_eq (length bytes) 0 then Err (fault.Short 0)
    else (if nat_lt 32 (slice_index bytes 0) then Err (fault.BadRun 0)
    else checked size (runs_from (slice_index bytes 0) (drop 1 bytes) count 1)))

-- the first of some indices, up to one that isn't below the size
abbrev pub below : ℕ → List ℕ → List ℕ
below size [] = []
below size (x ∷ xs) = if nat_lt x size then x ∷ below size xs else []

-- of count indices below the size, those before the first fault
abbrev pub indices_before : List ℕ → ℕ → ℕ → List ℕ
indices_before bytes count size =
    if nat_eq count 0 then []
    else (if nat_eq (length bytes) 0 then []
    else (if nat_lt 32 (slice_index bytes 0) then []
    else below size (runs_from (slice_index bytes 0) (drop 1 bytes) count 1).values))
