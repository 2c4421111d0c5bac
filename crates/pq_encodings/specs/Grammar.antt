-- Which values some bytes hold as hybrid runs, said without an order of reading.
use Rattle.std.specs.Prelude.{◌≡◌, ℕ, ◌+◌, ◌-◌, ◌*◌, ◌^◌, ◌<◌, ◌≤◌, ◌++◌, min, List, [], ◌∷◌, All, length, drop, replicate}
use Rattle.byteorder.specs.Endian.{little_number}
use Rattle.pq_encodings.specs.Bits.{packed_numbers}
use Rattle.pq_encodings.specs.Runs.{whole_bytes}
use Rattle.pq_encodings.specs.Varint.{IsVarint}

-- the bytes of a run's header number: at most ten, and it fits 64 bits
pub record IsHeader (bytes : List ℕ) (header : ℕ) : Type 0 where
  pub spelled : IsVarint bytes header
  pub few : length bytes ≤ 10
  pub fits : header < 2 ^ 64

-- The bytes begin with runs of numbers of a width, whose first values are these, need of them. Bytes may follow.
pub data HoldsRuns (width : ℕ) : ℕ → List ℕ → List ℕ → Type 0 where
  -- where no value is wanted, none is
  none : (bytes : List ℕ) → HoldsRuns width 0 bytes []
  -- count equal values, at most as many as are wanted, of which the value stands once in whole bytes
  repeated : (count need : ℕ) (header body values : List ℕ) →
      IsHeader header (2 * count) → 0 < count → count ≤ need → whole_bytes width ≤ length body →
      HoldsRuns width (need - count) (drop (whole_bytes width) body) values →
      HoldsRuns width need (header ++ body) (replicate count (little_number (whole_bytes width) body) ++ values)
  -- groups of eight packed numbers; those past the wanted ones are ignored
  packed : (groups need : ℕ) (header body values : List ℕ) →
      IsHeader header (2 * groups + 1) → 0 < groups → 0 < need → groups * width ≤ length body →
      HoldsRuns width (need - 8 * groups) (drop (groups * width) body) values →
      HoldsRuns width need (header ++ body) (packed_numbers width body (min need (8 * groups)) ++ values)

-- The bytes hold count indices below a size: a byte of the width, at most 32, and then runs. Where none is wanted,
-- any bytes do.
abbrev pub HoldsIndices : ℕ → ℕ → List ℕ → List ℕ → Type 0
HoldsIndices count size [] xs = (count ≡ 0) × (xs ≡ [])
HoldsIndices count size (width ∷ bytes) xs =
    (0 < count → width ≤ 32) × HoldsRuns width count bytes xs × All (λ x. x < size) xs
