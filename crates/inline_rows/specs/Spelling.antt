-- How the cells of a row are spelled in the catalogue. Numbers and byte strings are those of Thrift's compact protocol, in the shortest
-- spelling alone.
use Rattle.std.specs.Prelude.{◌≡◌, ℕ, ◌<◌, ◌^◌, nat_lt, Bool, true, false, List, [], ◌∷◌, ◌++◌, length, flat_map, Option, Some, None, FitsSigned}
use Rattle.std.specs.Int.{w32, w64}
use Rattle.std.specs.Str.{IsUtf8}
use Rattle.thrift_compact.specs.Shortest.{unsigned_spelling, signed_spelling, binary_spelling}
use Rattle.lake_types.specs.declared.value.Value.{Value}
use Rattle.lake_types.specs.declared.value.Value.TheVariants as value

-- a tag for the variant, and what it holds
abbrev pub content : Value → List ℕ
content value.Null = 0 ∷ []
content (value.Bool false) = 1 ∷ []
content (value.Bool true) = 2 ∷ []
content (value.Int n) = 3 ∷ signed_spelling n
content (value.Text text) = 4 ∷ binary_spelling text
content (value.Bytes bytes) = 5 ∷ binary_spelling bytes
content (value.Date day) = 6 ∷ signed_spelling day

abbrev pub cell_spelling : ℕ × Value → List ℕ
cell_spelling cell = unsigned_spelling cell.0 ++ content cell.1

-- the number of cells, and the cells
abbrev pub cells_spelling : List (ℕ × Value) → List ℕ
cells_spelling cells = unsigned_spelling (length cells) ++ flat_map cell_spelling cells

-- ---- which cells there are

-- in a law numbers and lists may be any; in the code each has its type's range
abbrev pub IsHeld : Value → Type 0
IsHeld value.Null = Unit {0}
IsHeld (value.Bool b) = Unit {0}
IsHeld (value.Int n) = FitsSigned w64 n
IsHeld (value.Text text) = IsUtf8 text × (length text < 2 ^ 64)
IsHeld (value.Bytes bytes) = length bytes < 2 ^ 64
IsHeld (value.Date day) = FitsSigned w32 day

abbrev pub IsCell : ℕ × Value → Type 0
IsCell cell = (cell.0 < 2 ^ 32) × IsHeld cell.1

abbrev pub is_past : Option ℕ → ℕ → Bool
is_past None field = true
is_past (Some last) field = nat_lt last field

-- each field is past the one before it
abbrev pub RisesFrom : Option ℕ → List (ℕ × Value) → Type 0
RisesFrom last [] = Unit {0}
RisesFrom last (cell ∷ cells) = (is_past last cell.0 ≡ true) × RisesFrom (Some cell.0) cells
