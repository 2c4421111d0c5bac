-- Values of the compact protocol as trees, and which bytes spell them.
use Rattle.std.specs.Prelude.{◌≡◌, ◌≢◌, ℕ, ℤ, pos, zero, suc, ◌^◌, ◌⊎◌, List, [], ◌∷◌, ◌++◌}
use Rattle.thrift_compact.specs.declared.types.TheConstants.{TRUE, FALSE, BYTE, I16, I32, I64, DOUBLE, BINARY, LIST, SET, MAP, STRUCT}
use Rattle.thrift_compact.specs.Spelling.{IsUnsigned, IsSigned, Then, IsBytes, IsBinary, IsListHeader, IsEntryTypes, IsField}

-- A value. A flag has a boolean's code, elements have the type of their list or set, entries are a key and a value after one
-- another, and a field has its id and its type.
mutual
  pub data Tree : Type 0 where
    Flag : ℕ → Tree
    Byte : ℕ → Tree
    Int16 : ℤ → Tree
    Int32 : ℤ → Tree
    Int64 : ℤ → Tree
    Double : List ℕ → Tree
    Binary : List ℕ → Tree
    Elements : ℕ → TreeList → Tree
    Entries : TreeList → Tree
    Fields : FieldList → Tree

  pub data TreeList : Type 0 where
    Nil : TreeList
    Cons : Tree → TreeList → TreeList

  pub data FieldList : Type 0 where
    Stop : FieldList
    Field : ℤ → ℕ → Tree → FieldList → FieldList

-- A value with no other inside it. As a field's value a boolean takes no bytes: its type says which it is.
abbrev pub IsPlain : ℕ → List ℕ → Tree → Type 0
IsPlain ty bytes (Flag code) = (ty ≡ code) × (bytes ≡ []) × ((code ≡ TRUE) ⊎ (code ≡ FALSE))
IsPlain ty bytes (Byte b) = (ty ≡ BYTE) × IsBytes 1 bytes (b ∷ [])
IsPlain ty bytes (Int16 z) = (ty ≡ I16) × IsSigned (2 ^ 16) bytes z
IsPlain ty bytes (Int32 z) = (ty ≡ I32) × IsSigned (2 ^ 32) bytes z
IsPlain ty bytes (Int64 z) = (ty ≡ I64) × IsSigned (2 ^ 64) bytes z
IsPlain ty bytes (Double text) = (ty ≡ DOUBLE) × IsBytes 8 bytes text
IsPlain ty bytes (Binary text) = (ty ≡ BINARY) × IsBinary bytes text
IsPlain ty bytes tree = ⊥

-- so many values, one after the other
abbrev pub IsSequence : (List ℕ → Tree → Type 0) → ℕ → List ℕ → TreeList → Type 0
IsSequence S zero bytes Nil = bytes ≡ []
IsSequence S zero bytes (Cons tree trees) = ⊥
IsSequence S (suc n) bytes Nil = ⊥
IsSequence S (suc n) bytes (Cons tree trees) = (a : List ℕ) × (b : List ℕ) × (bytes ≡ a ++ b) × S a tree × IsSequence S n b trees

-- so many keys and values
abbrev pub IsEntries : (List ℕ → Tree → Type 0) → (List ℕ → Tree → Type 0) → ℕ → List ℕ → TreeList → Type 0
IsEntries S T zero bytes Nil = bytes ≡ []
IsEntries S T zero bytes (Cons key trees) = ⊥
IsEntries S T (suc n) bytes Nil = ⊥
IsEntries S T (suc n) bytes (Cons key Nil) = ⊥
IsEntries S T (suc n) bytes (Cons key (Cons tree trees)) =
    (a : List ℕ) × (b : List ℕ) × (c : List ℕ) × (bytes ≡ a ++ (b ++ c)) × S a key × T b tree × IsEntries S T n c trees

-- What follows is given which bytes spell the values inside.

-- an element of a list, a set or a map: there a boolean takes a byte, whatever its type says
abbrev pub IsElement : (ℕ → List ℕ → Tree → Type 0) → ℕ → List ℕ → Tree → Type 0
IsElement value ty bytes tree =
    (((ty ≡ TRUE) ⊎ (ty ≡ FALSE)) × ((code : ℕ) × (tree ≡ Flag code) × (bytes ≡ code ∷ [])))
    ⊎ ((ty ≢ TRUE) × (ty ≢ FALSE) × value ty bytes tree)

-- a struct's fields behind the field `last`, up to the stop
abbrev pub IsFields : (ℕ → List ℕ → Tree → Type 0) → ℤ → List ℕ → FieldList → Type 0
IsFields value last bytes Stop = bytes ≡ 0 ∷ []
IsFields value last bytes (Field id ty tree fields) =
    (a : List ℕ) × (b : List ℕ) × (c : List ℕ) × (bytes ≡ a ++ (b ++ c))
    × IsField last a (id, ty) × value ty b tree × IsFields value id c fields

-- a size, and unless it is 0 the types and so many entries; an empty map has no types
abbrev pub IsMap : (ℕ → List ℕ → Tree → Type 0) → List ℕ → TreeList → Type 0
IsMap value bytes entries =
    (IsUnsigned (2 ^ 32) bytes 0 × (entries ≡ Nil))
    ⊎ ((n : ℕ) × (key : ℕ) × (ty : ℕ) × (a : List ℕ) × (b : List ℕ) × (c : List ℕ) × (bytes ≡ a ++ (b ++ c)) × (n ≢ 0)
    × IsUnsigned (2 ^ 32) a n × IsEntryTypes b (key, ty) × IsEntries (IsElement value key) (IsElement value ty) n c entries)

-- a list, a set, a map or a struct
abbrev pub IsNested : (ℕ → List ℕ → Tree → Type 0) → ℕ → List ℕ → Tree → Type 0
IsNested value ty bytes (Elements code trees) =
    (ty ≡ code) × ((code ≡ LIST) ⊎ (code ≡ SET)) × Then IsListHeader (λ header. IsSequence (IsElement value header.0) header.1) bytes trees
IsNested value ty bytes (Entries trees) = (ty ≡ MAP) × IsMap value bytes trees
IsNested value ty bytes (Fields fields) = (ty ≡ STRUCT) × IsFields value (pos 0) bytes fields
IsNested value ty bytes tree = ⊥

-- a value of this type, with at most so many lists, sets, maps and structs inside one another
abbrev pub IsValue : ℕ → ℕ → List ℕ → Tree → Type 0
IsValue zero ty bytes tree = IsPlain ty bytes tree
IsValue (suc depth) ty bytes tree = IsPlain ty bytes tree ⊎ IsNested (IsValue depth) ty bytes tree
