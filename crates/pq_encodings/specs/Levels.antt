-- The one spelling of levels: the longest runs of equal values.
use Rattle.std.specs.Prelude.{◌≡◌, ℕ, ◌+◌, ◌*◌, ◌++◌, if◌then◌else◌, List, [], ◌∷◌, Bool, true, false}
use Rattle.std.specs.List.{flat_map}
use Rattle.pq_encodings.specs.Varint.{varint_bytes}

pub record Run : Type 0 where
  pub value : Bool
  pub count : ℕ

abbrev pub same : Bool → Bool → Bool
same true b = b
same false true = false
same false false = true

-- the list doesn't go on with this value
abbrev pub StartsOther : Bool → List Bool → Type 0
StartsOther x [] = Unit {0}
StartsOther x (y ∷ ys) = same x y ≡ false

-- a value before runs: it makes the first run longer, or is one of its own
abbrev pub onto_run : Bool → List Run → List Run
onto_run b [] = record { value = b; count = 1 } ∷ []
onto_run b (r ∷ rs) =
    if same b r.value then record { value = b; count = r.count + 1 } ∷ rs
    else record { value = b; count = 1 } ∷ r ∷ rs

-- the longest runs of equal values
unfoldable pub runs_of : List Bool → List Run
runs_of [] = []
runs_of (b ∷ bs) = onto_run b (runs_of bs)

-- a level as a number
abbrev pub level_of : Bool → ℕ
level_of b = if b then 1 else 0

-- an even header, and the value in one byte
abbrev pub run_bytes : Run → List ℕ
run_bytes r = varint_bytes 9 (2 * r.count) ++ level_of r.value ∷ []

abbrev pub level_bytes : List Bool → List ℕ
level_bytes bs = flat_map run_bytes (runs_of bs)
