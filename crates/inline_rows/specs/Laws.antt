-- The bytes that are read spell what they are read as, and what is spelled reads back.
use Rattle.std.specs.List.{AllByRecursion}
use Rattle.std.specs.Prelude.{◌≡◌, ℕ, ◌<◌, ◌^◌, length, List, None, Ok}
use Rattle.lake_types.specs.declared.value.Value.{Value}
use Rattle.inline_rows.specs.Reading.{decoded}
use Rattle.inline_rows.specs.Spelling.{cells_spelling, IsCell, RisesFrom}

-- cells of the code's types, by rising field id
abbrev pub AreCells : List (ℕ × Value) → Type 0
AreCells cells = AllByRecursion IsCell cells × RisesFrom None cells

-- these cells are spelled by these bytes
abbrev pub Spells : List ℕ → List (ℕ × Value) → Type 0
Spells bytes cells = (cells_spelling cells ≡ bytes) × AreCells cells

-- these bytes spell no cells
abbrev pub SpellsNone : List ℕ → Type 0
SpellsNone bytes = (cells : List (ℕ × Value)) → length cells < 2 ^ 64 → Spells bytes cells → ⊥

-- bytes spell one list of cells at most
abbrev pub SpellsOne : Type 0
SpellsOne = (bytes : List ℕ) (a b : List (ℕ × Value)) → Spells bytes a → Spells bytes b → a ≡ b

-- what is spelled reads back
abbrev pub ReadsBack : Type 0
ReadsBack = (cells : List (ℕ × Value)) (bytes : List ℕ) → length cells < 2 ^ 64 → Spells bytes cells → decoded bytes ≡ Ok cells
