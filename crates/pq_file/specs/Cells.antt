-- The cells of a column, from the values that its chunks hold.
use Rattle.std.specs.Prelude.{ℕ, ℤ, List, [], ◌∷◌, map, Bool, true, false}
use Rattle.lake_types.specs.declared.value.ColType.{ColType}
use Rattle.lake_types.specs.declared.value.ColType.TheVariants as ty
use Rattle.lake_types.specs.declared.value.Value.{Value}
use Rattle.lake_types.specs.declared.value.Value.TheVariants as value
use Rattle.pq_encodings.specs.declared.plain.Physical.{Physical}
use Rattle.pq_encodings.specs.declared.plain.Physical.TheVariants as physical
use Rattle.pq_encodings.specs.Values.{Values, bools, i32s, i64s, strings}
use Rattle.pq_pages.specs.Pages.{Cells}

-- the physical type of a column's values
abbrev pub kind_of : ColType → Physical
kind_of ty.Bool = physical.Boolean
kind_of ty.Int8 = physical.Int32
kind_of ty.Int16 = physical.Int32
kind_of ty.Int32 = physical.Int32
kind_of ty.Int64 = physical.Int64
kind_of ty.Varchar = physical.ByteArray
kind_of ty.Blob = physical.ByteArray
kind_of ty.Date = physical.Int32

-- are the byte strings of a column texts
abbrev pub is_text : ColType → Bool
is_text ty.Varchar = true
is_text t = false

abbrev pub bool_of : Bool → Value
bool_of b = value.Bool b

abbrev pub long_of : ℤ → Value
long_of n = value.Int n

abbrev pub number_of : ColType → ℤ → Value
number_of ty.Date n = value.Date n
number_of t n = value.Int n

abbrev pub text_of : List ℕ → Value
text_of x = value.Text x

abbrev pub blob_of : List ℕ → Value
blob_of x = value.Bytes x

abbrev pub string_of : ColType → List ℕ → Value
string_of ty.Varchar x = text_of x
string_of t x = blob_of x

-- physical values, as values of a column's type
abbrev pub typed : ColType → Values → List Value
typed t (bools xs) = map bool_of xs
typed t (i32s xs) = map (number_of t) xs
typed t (i64s xs) = map long_of xs
typed t (strings xs) = map (string_of t) xs

-- the values in order where the flags say so, and NULL elsewhere
abbrev pub spread : List Bool → List Value → List Value
spread [] vs = []
spread (false ∷ flags) vs = value.Null ∷ spread flags vs
spread (true ∷ flags) (v ∷ vs) = v ∷ spread flags vs
spread (true ∷ flags) [] = value.Null ∷ spread flags []

abbrev pub cells_of : ColType → Cells → List Value
cells_of t cells = spread cells.defined (typed t cells.values)
