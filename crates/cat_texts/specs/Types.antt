-- The catalogue's texts of types.
use Rattle.std.specs.Prelude.{ℕ, List, [], ◌∷◌, Option, codes, find}
use Rattle.std.specs.Str.{bytes_eq}
use Rattle.lake_types.specs.declared.value.ColType.{ColType}
use Rattle.lake_types.specs.declared.value.ColType.TheVariants as ty

abbrev pub type_text : ColType → List ℕ
type_text ty.Bool = codes "boolean"
type_text ty.Int8 = codes "int8"
type_text ty.Int16 = codes "int16"
type_text ty.Int32 = codes "int32"
type_text ty.Int64 = codes "int64"
type_text ty.Varchar = codes "varchar"
type_text ty.Blob = codes "blob"
type_text ty.Date = codes "date"

abbrev pub types : List ColType
types = ty.Bool ∷ ty.Int8 ∷ ty.Int16 ∷ ty.Int32 ∷ ty.Int64 ∷ ty.Varchar ∷ ty.Blob ∷ ty.Date ∷ []

-- the type of a text, if it is one's
abbrev pub type_of : List ℕ → Option ColType
type_of text = find (λ t. bytes_eq (type_text t) text) types
