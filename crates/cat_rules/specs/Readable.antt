-- Texts that a type can't read.
use Rattle.std.specs.Prelude.{◌≡◌, ℕ, List, Option, Some, None}
use Rattle.cat_texts.specs.Types.{type_of}
use Rattle.lake_types.specs.Texts.{HasText}
use Rattle.lake_types.specs.declared.value.ColType.{ColType}
use Rattle.lake_types.specs.declared.value.Value.{Value}

-- the text is that of a value of the type
abbrev pub IsReadable : List ℕ → List ℕ → Type 0
IsReadable type text = (t : ColType) × (type_of type ≡ Some t) × ((value : Value) × HasText t value text)

-- of a text that may be absent, which stands for NULL
abbrev pub IsUnreadable : List ℕ → Option (List ℕ) → Type 0
IsUnreadable type None = ⊥
IsUnreadable type (Some text) = IsReadable type text → ⊥
