-- What a changes text says. The spelling of the kinds and their order are those of `lake_types`.
use Rattle.std.specs.Prelude.{◌≡◌, ◌≢◌, ℕ, List, [], ◌∷◌, ◌++◌, length, flat_map, Option, Some, None}
use Rattle.std.specs.List.{AllByRecursion}
use Rattle.lake_types.specs.declared.kind.Kind.{Kind}
use Rattle.lake_types.specs.declared.kind.Kind.TheVariants as kind
use Rattle.lake_types.specs.declared.kind.SchemaName.{SchemaName}
use Rattle.lake_types.specs.Kinds.{kind_text, AreInOrder, HasId, Says, name_of, AreNamed, SaysWith}
use Rattle.cat_changes.specs.declared.fault.BadChanges.{BadChanges}
use Rattle.cat_changes.specs.declared.fault.BadChanges.TheVariants.{Text, NoSchema, Memory}

-- the text is that of no kinds
abbrev pub SaysNothing : List ℕ → Type 0
SaysNothing text = (kinds : List Kind) → Says text kinds → ⊥

abbrev pub SaysNothingWith : List SchemaName → List ℕ → Type 0
SaysNothingWith schemas text = (kinds : List Kind) → SaysWith schemas text kinds → ⊥

-- ---- faults

-- kinds, each with the comma behind it
abbrev pub ended : List Kind → List ℕ
ended kinds = flat_map (λ k. kind_text k ++ 44 ∷ []) kinds

-- what stands behind a kind: nothing, or a comma and the rest
abbrev pub tail_text : Option (List ℕ) → List ℕ
tail_text None = []
tail_text (Some rest) = 44 ∷ rest

-- The offset of the first wrong kind: before it stand kinds in order, each with its comma, and no kind that may
-- follow them begins there and goes on to the next comma or the end. Only the empty text has no kind at all.
pub record IsWrongAt (text : List ℕ) (at : ℕ) : Type 0 where
  pub some : text ≢ []
  pub before : List Kind
  pub rest : List ℕ
  pub in_order : AreInOrder before
  pub ids : AllByRecursion HasId before
  pub spelled : ended before ++ rest ≡ text
  pub place : length (ended before) ≡ at
  pub wrong : (k : Kind) (tail : Option (List ℕ)) → HasId k → AreInOrder (before ++ k ∷ [])
      → kind_text k ++ tail_text tail ≡ rest → ⊥

-- the id of the first dropped schema in the text for which the list has no name
pub record LacksName (schemas : List SchemaName) (text : List ℕ) (id : ℕ) : Type 0 where
  pub before : List Kind
  pub name : List ℕ
  pub behind : List Kind
  pub says : Says text (before ++ kind.DroppedSchema id name ∷ behind)
  pub named : AreNamed schemas before
  pub lacks : name_of schemas id ≡ None

abbrev pub HasCause : List SchemaName → List ℕ → BadChanges → Type 0
HasCause schemas text (Text at) = IsWrongAt text at × SaysNothing text
HasCause schemas text (NoSchema id) = LacksName schemas text id
HasCause schemas text Memory = Unit {0}
