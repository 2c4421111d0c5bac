-- The columns that a schema's elements name (Apache Parquet format, "Nested Encoding" and "Logical Types").
use Rattle.std.specs.Prelude.{ℕ, ℤ, pos, negsuc, ◌==◌, ◌++◌, nat_lt, List, [], ◌∷◌, length, Option, Some, None, Result, Ok, Err, Bool, true, false, if◌then◌else◌, unwrap_or}
use Rattle.std.specs.Ordering.{int_eq}
use Rattle.std.specs.List.{list_any}
use Rattle.std.specs.Str.{is_utf8}
use Rattle.lake_types.specs.declared.value.ColType.{ColType}
use Rattle.lake_types.specs.declared.value.ColType.TheVariants as ty
use Rattle.pq_meta.specs.declared.codes.TheConstants.{BOOLEAN, INT32, INT64, BYTE_ARRAY, REQUIRED, OPTIONAL, UTF8, DATE, INT_8, INT_16, INT_32, INT_64}
use Rattle.pq_meta.specs.declared.drafts.ElementDraft.{ElementDraft}
use Rattle.pq_meta.specs.declared.drafts.LogicalDraft.{LogicalDraft}
use Rattle.pq_meta.specs.declared.drafts.Member.{Member}
use Rattle.pq_meta.specs.declared.drafts.Member.TheVariants as member
use Rattle.pq_meta.specs.declared.fault.MetaFault.{MetaFault}
use Rattle.pq_meta.specs.declared.fault.MetaFault.TheVariants as fault
use Rattle.pq_meta.specs.declared.meta.MetaColumn.{MetaColumn}
use Rattle.pq_meta.specs.declared.columns.Meaning.{Meaning}
use Rattle.pq_meta.specs.declared.columns.Meaning.TheVariants as meaning
use Rattle.answers.specs.Answers.{◌>>=◌}
use Rattle.pq_meta.specs.Checks.{need, counted}

-- ---- types

-- signed numbers of so many bits
unfoldable pub signed_of : ℤ → Meaning
signed_of bits =
    if int_eq bits (pos 8) then meaning.Int8 else
    if int_eq bits (pos 16) then meaning.Int16 else
    if int_eq bits (pos 32) then meaning.Int32 else
    if int_eq bits (pos 64) then meaning.Int64 else
    meaning.Other

-- what the member of a logical type says of the values
abbrev pub meaning_of_integer : Option ℤ → Option Bool → Meaning
meaning_of_integer (Some bits) (Some true) = signed_of bits
meaning_of_integer bits signed = meaning.Other

abbrev pub meaning_of_member : Option Member → Meaning
meaning_of_member None = meaning.Other
meaning_of_member (Some member.Text) = meaning.Text
meaning_of_member (Some member.Date) = meaning.Date
meaning_of_member (Some (member.Integer number)) = meaning_of_integer number.bit_width number.signed
meaning_of_member (Some member.Other) = meaning.Other

-- what a converted type says of them
unfoldable pub meaning_of_converted : ℤ → Meaning
meaning_of_converted code =
    if int_eq code UTF8 then meaning.Text else
    if int_eq code DATE then meaning.Date else
    if int_eq code INT_8 then meaning.Int8 else
    if int_eq code INT_16 then meaning.Int16 else
    if int_eq code INT_32 then meaning.Int32 else
    if int_eq code INT_64 then meaning.Int64 else
    meaning.Other

-- a logical type decides where it stands, else the converted type
abbrev pub meaning_of : Option LogicalDraft → Option ℤ → Meaning
meaning_of (Some logical) converted = meaning_of_member logical.member
meaning_of None (Some code) = meaning_of_converted code
meaning_of None None = meaning.Plain

-- the types of columns of each physical type
abbrev pub type_of_int32 : Meaning → Option ColType
type_of_int32 meaning.Plain = Some ty.Int32
type_of_int32 meaning.Int8 = Some ty.Int8
type_of_int32 meaning.Int16 = Some ty.Int16
type_of_int32 meaning.Int32 = Some ty.Int32
type_of_int32 meaning.Date = Some ty.Date
type_of_int32 m = None

abbrev pub type_of_int64 : Meaning → Option ColType
type_of_int64 meaning.Plain = Some ty.Int64
type_of_int64 meaning.Int64 = Some ty.Int64
type_of_int64 m = None

abbrev pub type_of_bytes : Meaning → Option ColType
type_of_bytes meaning.Plain = Some ty.Blob
type_of_bytes meaning.Text = Some ty.Varchar
type_of_bytes m = None

-- the type of a column, if it is one of the lake's; a boolean is one whatever else is said of it
unfoldable pub type_of : ℤ → Meaning → Option ColType
type_of physical m =
    if int_eq physical BOOLEAN then Some ty.Bool else
    if int_eq physical INT32 then type_of_int32 m else
    if int_eq physical INT64 then type_of_int64 m else
    if int_eq physical BYTE_ARRAY then type_of_bytes m else
    None

abbrev pub known_type : ℤ → Option ColType → Result ColType MetaFault
known_type physical None = Err (fault.UnknownType physical)
known_type physical (Some t) = Ok t

-- ---- columns

-- a name that is not UTF-8 counts as absent
abbrev pub name_of : Option (List ℕ) → Option (List ℕ)
name_of None = None
name_of (Some text) = if is_utf8 text then Some text else None

-- an absent number of children is 0
abbrev pub children_of : ElementDraft → ℕ
children_of element = unwrap_or element.num_children 0

-- may a cell of a column with this repetition be NULL
unfoldable pub optional_of : List ℕ → ℤ → Result Bool MetaFault
optional_of name repetition =
    if int_eq repetition REQUIRED then Ok false else
    if int_eq repetition OPTIONAL then Ok true else
    Err (fault.Nested name)

-- does a column have this field id
abbrev pub is_field_of : ℕ → Option ℕ → Bool
is_field_of id None = false
is_field_of id (Some other) = other == id

abbrev pub has_field : List MetaColumn → ℕ → Bool
has_field columns id = list_any (λ column. is_field_of id column.field) columns

-- the field id of a column behind earlier ones: none where it is absent, negative, or that of an earlier column
abbrev pub field_of : List MetaColumn → Option ℤ → Option ℕ
field_of earlier None = None
field_of earlier (Some (negsuc n)) = None
field_of earlier (Some (pos id)) = if has_field earlier id then None else Some id

-- a column of one value
unfoldable pub leaf_of : List MetaColumn → ElementDraft → Result MetaColumn MetaFault
leaf_of earlier element =
    need (pos 1) element.physical >>= λ physical.
    need (pos 3) element.repetition >>= λ repetition.
    need (pos 4) (name_of element.name) >>= λ name.
    optional_of name repetition >>= λ optional.
    known_type physical (type_of physical (meaning_of element.logical element.converted)) >>= λ t.
    Ok (record { name = name; field = field_of earlier element.field; ty = t; optional = optional })

-- an element behind the root that has children
abbrev pub nested_of : ElementDraft → Result MetaColumn MetaFault
nested_of element = need (pos 4) (name_of element.name) >>= λ name. Err (fault.Nested name)

-- the column that an element behind the root names
unfoldable pub column_of : List MetaColumn → ElementDraft → Result MetaColumn MetaFault
column_of earlier element = if nat_lt 0 (children_of element) then nested_of element else leaf_of earlier element

-- the columns of these elements, behind earlier ones
abbrev pub columns_behind : List MetaColumn → List ElementDraft → Result (List MetaColumn) MetaFault
columns_behind earlier [] = Ok earlier
columns_behind earlier (element ∷ elements) = column_of earlier element >>= λ column. columns_behind (earlier ++ column ∷ []) elements

-- The columns of a schema. Its first element is the root, and each of the others is one of the root's children.
unfoldable pub columns_of : List ElementDraft → Result (List MetaColumn) MetaFault
columns_of [] = Err (fault.Count 1 0)
columns_of (root ∷ elements) =
    need (pos 4) (name_of root.name) >>= λ name.
    columns_behind [] elements >>= λ columns.
    counted (children_of root) (length elements) >>= λ u.
    Ok columns
