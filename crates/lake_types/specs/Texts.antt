-- The texts of values: as the catalogue keeps them, and as replies print them.
use Rattle.std.specs.Prelude.{◌≡◌, ◌≢◌, ℕ, Bool, true, false, ◌==◌, List, [], ◌∷◌, ◌++◌, codes, flat_map, if◌then◌else◌}
use Rattle.std.specs.Fmt.{signed_decimal}
use Rattle.hex.specs.Hex.{encode_lower, IsBytes}
use Rattle.lake_types.specs.declared.value.ColType.{ColType}
use Rattle.lake_types.specs.declared.value.Value.{Value}
use Rattle.lake_types.specs.declared.value.Value.TheVariants as value
use Rattle.lake_types.specs.Calendar.{day_text}
use Rattle.lake_types.specs.Fits.{fits}

abbrev pub bool_text : Bool → List ℕ
bool_text true = codes "true"
bool_text false = codes "false"

-- the catalogue's text of a value that is not NULL
abbrev pub value_text : Value → List ℕ
value_text value.Null = []
value_text (value.Bool b) = bool_text b
value_text (value.Int n) = signed_decimal n
value_text (value.Text text) = text
value_text (value.Bytes bytes) = encode_lower bytes
value_text (value.Date day) = day_text day

-- a quote inside a quoted text is doubled
abbrev pub doubled : ℕ → ℕ → List ℕ
doubled quote b = if b == quote then quote ∷ quote ∷ [] else b ∷ []

abbrev pub all_doubled : ℕ → List ℕ → List ℕ
all_doubled quote text = flat_map (doubled quote) text

abbrev pub quoted_by : ℕ → List ℕ → List ℕ
quoted_by quote text = quote ∷ (all_doubled quote text ++ quote ∷ [])

-- a name stands in double quotes, a text in single ones
abbrev pub quoted : List ℕ → List ℕ
quoted name = quoted_by 34 name

abbrev pub text_literal : List ℕ → List ℕ
text_literal text = quoted_by 39 text

-- the printed text of a value, which a statement can give again
abbrev pub literal_text : Value → List ℕ
literal_text value.Null = codes "NULL"
literal_text (value.Bool b) = bool_text b
literal_text (value.Int n) = signed_decimal n
literal_text (value.Text text) = text_literal text
literal_text (value.Bytes bytes) = codes "x'" ++ (encode_lower bytes ++ codes "'")
literal_text (value.Date day) = codes "DATE '" ++ (day_text day ++ codes "'")

-- in a law a list may hold any numbers; in the code the elements of a value's bytes are bytes
abbrev pub HoldsBytes : Value → Type 0
HoldsBytes (value.Bytes bytes) = IsBytes bytes
HoldsBytes v = Unit {0}

-- a value of this type that is not NULL has this text
abbrev pub HasText : ColType → Value → List ℕ → Type 0
HasText ty v text = (v ≢ value.Null) × (fits v ty ≡ true) × HoldsBytes v × (value_text v ≡ text)
