-- What a chunk holds of the cells of a column: which of them are values, and the physical values of those.
use Rattle.std.specs.Prelude.{ℕ, ℤ, List, [], map, Bool, true, false, Option, Some, None}
use Rattle.std.specs.Int.{cast_unsigned, w32, w64}
use Rattle.std.specs.List.{filter_map}
use Rattle.byteorder.specs.Endian.{little_bytes}
use Rattle.lake_types.specs.declared.value.ColType.{ColType}
use Rattle.lake_types.specs.declared.value.ColType.TheVariants as ty
use Rattle.lake_types.specs.declared.value.Value.{Value}
use Rattle.lake_types.specs.declared.value.Value.TheVariants as value
use Rattle.pq_encodings.specs.Plain.{string_bytes}
use Rattle.pq_encodings.specs.Values.{Values, bools, i32s, i64s, strings}
use Rattle.pq_pages.specs.Pages.{Cells}

abbrev pub is_value : Value → Bool
is_value value.Null = false
is_value v = true

-- ---- The physical value of a cell, if it has one

abbrev pub bool_in : Value → Option Bool
bool_in (value.Bool b) = Some b
bool_in v = None

abbrev pub number_in : Value → Option ℤ
number_in (value.Int n) = Some n
number_in (value.Date n) = Some n
number_in v = None

abbrev pub string_in : Value → Option (List ℕ)
string_in (value.Text x) = Some x
string_in (value.Bytes x) = Some x
string_in v = None

-- the physical values of the cells of a column
abbrev pub values_in : ColType → List Value → Values
values_in ty.Bool cells = bools (filter_map bool_in cells)
values_in ty.Int8 cells = i32s (filter_map number_in cells)
values_in ty.Int16 cells = i32s (filter_map number_in cells)
values_in ty.Int32 cells = i32s (filter_map number_in cells)
values_in ty.Int64 cells = i64s (filter_map number_in cells)
values_in ty.Varchar cells = strings (filter_map string_in cells)
values_in ty.Blob cells = strings (filter_map string_in cells)
values_in ty.Date cells = i32s (filter_map number_in cells)

abbrev pub raw_of : ColType → List Value → Cells
raw_of t cells = record { defined = map is_value cells; values = values_in t cells }

-- ---- The plain bytes of a cell, of any type but BOOLEAN, whose values share bytes

abbrev pub spelled : {A : Type 0} → (A → List ℕ) → Option A → List ℕ
spelled f None = []
spelled f (Some x) = f x

abbrev pub int_bytes : ℤ → List ℕ
int_bytes n = little_bytes 4 (cast_unsigned w32 n)

abbrev pub long_bytes : ℤ → List ℕ
long_bytes n = little_bytes 8 (cast_unsigned w64 n)

abbrev pub cell_bytes : ColType → Value → List ℕ
cell_bytes ty.Bool v = []
cell_bytes ty.Int64 v = spelled long_bytes (number_in v)
cell_bytes ty.Varchar v = spelled string_bytes (string_in v)
cell_bytes ty.Blob v = spelled string_bytes (string_in v)
cell_bytes t v = spelled int_bytes (number_in v)
