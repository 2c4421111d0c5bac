-- Which item of some bytes is the first wrong one, where they spell no cells. The items are the number of cells, each
-- cell as a whole, and bytes that remain behind the last one.
use Rattle.std.specs.Prelude.{◌≡◌, ◌≢◌, ◌⊎◌, ℕ, ◌<◌, ◌^◌, List, [], ◌∷◌, ◌++◌, length, flat_map, Option, None}
use Rattle.thrift_compact.specs.Shortest.{unsigned_spelling}
use Rattle.lake_types.specs.declared.value.Value.{Value}
use Rattle.inline_rows.specs.Laws.{AreCells, SpellsNone}
use Rattle.inline_rows.specs.Spelling.{IsCell, RisesFrom, cell_spelling}
use Rattle.inline_rows.specs.declared.fault.CellsFault.{CellsFault}
use Rattle.inline_rows.specs.declared.fault.CellsFault.TheVariants.{BadCells, Memory}

-- no number begins the bytes
abbrev pub HasNoCount : List ℕ → Type 0
HasNoCount bytes = (count : ℕ) (rest : List ℕ) → count < 2 ^ 64 → unsigned_spelling count ++ rest ≡ bytes → ⊥

-- no cell begins these bytes that may follow the cells before, which stand past a field
abbrev pub HasNoCell : Option ℕ → List (ℕ × Value) → List ℕ → Type 0
HasNoCell last before bytes =
    (cell : ℕ × Value) (tail : List ℕ) → IsCell cell → RisesFrom last (before ++ cell ∷ []) → cell_spelling cell ++ tail ≡ bytes → ⊥

-- of so many cells one is still to come, and none begins here; or all have come, and bytes remain
abbrev pub IsWrongItem : ℕ → Option ℕ → List (ℕ × Value) → List ℕ → Type 0
IsWrongItem count last before bytes =
    ((length before < count) × HasNoCell last before bytes) ⊎ ((length before ≡ count) × (bytes ≢ []))

-- before the offset stand the number of the cells and right cells, and the item there is wrong
pub record IsWrongBehind (bytes : List ℕ) (at : ℕ) : Type 0 where
  pub count : ℕ
  pub before : List (ℕ × Value)
  pub rest : List ℕ
  pub small : count < 2 ^ 64
  pub are : AreCells before
  pub spelled : (unsigned_spelling count ++ flat_map cell_spelling before) ++ rest ≡ bytes
  pub place : length (unsigned_spelling count ++ flat_map cell_spelling before) ≡ at
  pub wrong : IsWrongItem count None before rest

-- the offset of the first wrong item
abbrev pub IsWrongAt : List ℕ → ℕ → Type 0
IsWrongAt bytes at = ((at ≡ 0) × HasNoCount bytes) ⊎ IsWrongBehind bytes at

abbrev pub HasCause : List ℕ → CellsFault → Type 0
HasCause bytes (BadCells at) = IsWrongAt bytes at × SpellsNone bytes
HasCause bytes Memory = Unit {0}
