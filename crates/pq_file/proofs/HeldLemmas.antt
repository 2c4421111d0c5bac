-- What a chunk keeps of cells that fit their type is all that they are.
use Rattle.std.proofs.Common.{◌≡◌, ◌≢◌, ℕ, ℤ, pos, negsuc, suc, ◌+◌, ◌*◌, ◌≤◌, ◌<◌, ◌^◌, ◌&&◌, List, [], ◌∷◌, ◌++◌, length, map, take, get_or, Bool, true, false, cond, Option, Some, None, refl, sym, ap, subst, ◌∙◌, arith}
use Rattle.std.specs.Prelude.{All, IfSome, FitsSigned}
use Rattle.std.specs.Int.{w32, w64}
use Rattle.std.specs.Int.Signed.{mag}
use Rattle.std.specs.List.{cons_option, count_by, filter_map, flat_map, sum_by}
use Rattle.std.specs.Str.{IsUtf8}
use Rattle.std.proofs.lemmas.Bool.{leb-true, ltb-true}
use Rattle.std.proofs.lemmas.List.{take_more}
use Rattle.std.proofs.lemmas.List.Elements.{filter_map-append, All-cons, All-head, All-more, All-nil, All-tail, All-weaker}
use Rattle.std.proofs.lemmas.List.Sums.{sum_by-cons}
use Rattle.lake_types.specs.declared.value.ColType.{ColType}
use Rattle.lake_types.specs.declared.value.ColType.TheVariants as ty
use Rattle.lake_types.specs.declared.value.Value.{Value}
use Rattle.lake_types.specs.declared.value.Value.TheVariants as value
use Rattle.lake_types.specs.Calendar.{is_day}
use Rattle.lake_types.specs.Fits.{fits, reach, reaches}
use Rattle.lake_types.specs.Weights.{weight}
use Rattle.pq_encodings.specs.declared.strings.TheConstants.{MAX_STRING}
use Rattle.pq_encodings.specs.Plain.{string_bytes}
use Rattle.pq_encodings.specs.Values.{AreInRange, AreShort, count_of, kind_of, plain_size, value_bytes}
use Rattle.pq_pages.specs.Writing.{AreTexts}
use Rattle.pq_file.specs.Cells.{blob_of, bool_of, cells_of, long_of, number_of, spread, string_of}
use Rattle.pq_file.specs.Cells as read
use Rattle.pq_file.specs.Raw.{bool_in, cell_bytes, int_bytes, is_value, long_bytes, number_in, raw_of, spelled, string_in, values_in}
use Rattle.pq_file.specs.Writable.{HasText, HoldTexts, IsShort}

-- ---- One element more

pub one_more : {X : Type 0} (P : X → Type 0) (xs : List X) (i : ℕ) (x : X) → i < length xs → x ≡ get_or xs i x → All P (take i xs) → P x → All P (take (i + 1) xs)
one_more P xs i x lt is before here = All-more P xs i x lt before (subst P is here)

-- ---- Bytes, cell by cell

one_spelled : {A : Type 0} (f : A → List ℕ) (o : Option A) (xs : List A) (rest : List ℕ) → rest ≡ flat_map f xs → spelled f o ++ rest ≡ flat_map f (cons_option o xs)
one_spelled f None xs rest h = h
one_spelled f (Some x) xs rest h = ap (λ (more : List ℕ). f x ++ more) h

all_spelled : {A : Type 0} (f : A → List ℕ) (g : Value → Option A) (cells : List Value) → flat_map (λ v. spelled f (g v)) cells ≡ flat_map f (filter_map g cells)
all_spelled f g [] = refl
all_spelled f g (v ∷ vs) = one_spelled f (g v) (filter_map g vs) (flat_map (λ v. spelled f (g v)) vs) (all_spelled f g vs)

-- all types but BOOLEAN
pub values_spelled : (t : ColType) (cells : List Value) → t ≢ ty.Bool → flat_map (cell_bytes t) cells ≡ value_bytes (values_in t cells)
values_spelled ty.Bool cells h = absurd (h refl)
values_spelled ty.Int8 cells h = all_spelled int_bytes number_in cells
values_spelled ty.Int16 cells h = all_spelled int_bytes number_in cells
values_spelled ty.Int32 cells h = all_spelled int_bytes number_in cells
values_spelled ty.Int64 cells h = all_spelled long_bytes number_in cells
values_spelled ty.Varchar cells h = all_spelled string_bytes string_in cells
values_spelled ty.Blob cells h = all_spelled string_bytes string_in cells
values_spelled ty.Date cells h = all_spelled int_bytes number_in cells

-- one cell more
pub bools_more : (cells : List Value) (i : ℕ) (v : Value) → i < length cells → v ≡ get_or cells i v
    → filter_map bool_in (take (i + 1) cells) ≡ filter_map bool_in (take i cells) ++ cons_option (bool_in v) []
bools_more cells i v lt is =
    ap (λ (xs : List Value). filter_map bool_in xs) (take_more cells i v lt)
    ∙ filter_map-append bool_in (take i cells) (get_or cells i v ∷ [])
    ∙ ap (λ (x : Value). filter_map bool_in (take i cells) ++ cons_option (bool_in x) []) (sym is)

-- ---- What holds of each value that is kept

one_kept : {A : Type 0} (P : A → Type 0) (o : Option A) (xs : List A) → IfSome o P → All P xs → All P (cons_option o xs)
one_kept P None xs h rest = rest
one_kept P (Some x) xs h rest = All-cons P x xs h rest

all_kept : {A : Type 0} (P : A → Type 0) (Q : Value → Type 0) (g : Value → Option A) → ((v : Value) → Q v → IfSome (g v) P) → (cells : List Value) → All Q cells → All P (filter_map g cells)
all_kept P Q g each [] h = All-nil P
all_kept P Q g each (v ∷ vs) h = one_kept P (g v) (filter_map g vs) (each v (All-head Q v vs h)) (all_kept P Q g each vs (All-tail Q v vs h))

short_string : (v : Value) → IsShort v → IfSome (string_in v) (λ x. length x ≤ MAX_STRING)
short_string value.Null h = tt
short_string (value.Bool b) h = tt
short_string (value.Int n) h = tt
short_string (value.Text x) h = h
short_string (value.Bytes x) h = h
short_string (value.Date n) h = tt

pub values_short : (t : ColType) (cells : List Value) → All IsShort cells → AreShort (values_in t cells)
values_short ty.Bool cells h = tt
values_short ty.Int8 cells h = tt
values_short ty.Int16 cells h = tt
values_short ty.Int32 cells h = tt
values_short ty.Int64 cells h = tt
values_short ty.Varchar cells h = all_kept (λ (x : List ℕ). length x ≤ MAX_STRING) IsShort string_in short_string cells h
values_short ty.Blob cells h = all_kept (λ (x : List ℕ). length x ≤ MAX_STRING) IsShort string_in short_string cells h
values_short ty.Date cells h = tt

-- ---- Kinds

pub same_kind : (t : ColType) (cells : List Value) → kind_of (values_in t cells) ≡ read.kind_of t
same_kind ty.Bool cells = refl
same_kind ty.Int8 cells = refl
same_kind ty.Int16 cells = refl
same_kind ty.Int32 cells = refl
same_kind ty.Int64 cells = refl
same_kind ty.Varchar cells = refl
same_kind ty.Blob cells = refl
same_kind ty.Date cells = refl

-- ---- Sizes

fewer : {A : Type 0} (o : Option A) (xs : List A) (n : ℕ) → length xs ≤ n → length (cons_option o xs) ≤ suc n
fewer None xs n h = omega arith
fewer (Some x) xs n h = omega arith

pub kept_fewer : {A : Type 0} (g : Value → Option A) (cells : List Value) → length (filter_map g cells) ≤ length cells
kept_fewer g [] = omega arith
kept_fewer g (v ∷ vs) = fewer (g v) (filter_map g vs) (length vs) (kept_fewer g vs)

string_size : (v : Value) (xs : List (List ℕ)) (n : ℕ) → sum_by (λ (x : List ℕ). 4 + length x) xs ≤ n
    → sum_by (λ (x : List ℕ). 4 + length x) (cons_option (string_in v) xs) ≤ weight v + n
string_size value.Null xs n h = omega arith
string_size (value.Bool b) xs n h = omega arith
string_size (value.Int k) xs n h = omega arith
string_size (value.Text x) xs n h = omega (arith, sum_by-cons (λ (x : List ℕ). 4 + length x) x xs)
string_size (value.Bytes x) xs n h = omega (arith, sum_by-cons (λ (x : List ℕ). 4 + length x) x xs)
string_size (value.Date k) xs n h = omega arith

strings_size : (cells : List Value) → sum_by (λ (x : List ℕ). 4 + length x) (filter_map string_in cells) ≤ sum_by weight cells
strings_size [] = omega arith
strings_size (v ∷ vs) =
    let more = string_size v (filter_map string_in vs) (sum_by weight vs) (strings_size vs) in
    omega (arith, sum_by-cons weight v vs)

pub values_size : (t : ColType) (cells : List Value) → plain_size (values_in t cells) ≤ 8 * length cells + sum_by weight cells
values_size ty.Bool cells = omega (arith, kept_fewer bool_in cells)
values_size ty.Int8 cells = omega (arith, kept_fewer number_in cells)
values_size ty.Int16 cells = omega (arith, kept_fewer number_in cells)
values_size ty.Int32 cells = omega (arith, kept_fewer number_in cells)
values_size ty.Int64 cells = omega (arith, kept_fewer number_in cells)
values_size ty.Varchar cells = omega (arith, strings_size cells)
values_size ty.Blob cells = omega (arith, strings_size cells)
values_size ty.Date cells = omega (arith, kept_fewer number_in cells)

-- ---- Cells that fit their type

-- a cell is NULL and no value is kept of it, or its value is kept, which is all that it is
data Keeps {A : Type 0} (g : Value → Option A) (f : A → Value) (v : Value) : Type 0 where
  none : v ≡ value.Null → g v ≡ None → Keeps g f v
  some : (x : A) → is_value v ≡ true → g v ≡ Some x → f x ≡ v → Keeps g f v

-- cells are made again of what is kept
one_again : {A : Type 0} (g : Value → Option A) (f : A → Value) (v : Value) (vs : List Value) → Keeps g f v
    → spread (map is_value vs) (map f (filter_map g vs)) ≡ vs → spread (map is_value (v ∷ vs)) (map f (filter_map g (v ∷ vs))) ≡ v ∷ vs
one_again g f v vs (none is nothing) h = rw (is, (rw is at nothing)) (ap (λ (rest : List Value). value.Null ∷ rest) h)
one_again g f v vs (some x is kept same) h = rw (is, kept, same) (ap (λ (rest : List Value). v ∷ rest) h)

abbrev AllKept : {A : Type 0} → (Value → Option A) → (A → Value) → List Value → Type 0
AllKept g f vs = All (λ v. Keeps g f v) vs

again : {A : Type 0} (g : Value → Option A) (f : A → Value) (vs : List Value) → AllKept g f vs → spread (map is_value vs) (map f (filter_map g vs)) ≡ vs
again g f [] h = refl
again g f (v ∷ vs) h = one_again g f v vs (All-head (λ x. Keeps g f x) v vs h) (again g f vs (All-tail (λ x. Keeps g f x) v vs h))

-- as many values are kept as there are cells that are values
one_counted : {A : Type 0} (g : Value → Option A) (f : A → Value) (v : Value) (vs : List Value) → Keeps g f v
    → length (filter_map g vs) ≡ count_by (λ flag. flag) (map is_value vs) → length (filter_map g (v ∷ vs)) ≡ count_by (λ flag. flag) (map is_value (v ∷ vs))
one_counted g f v vs (none is nothing) h =
    let no : g value.Null ≡ None = rw is at nothing in
    rw (is, no) (omega (arith, sum_by-cons (λ (flag : Bool). cond flag 1 0) false (map is_value vs)))
one_counted g f v vs (some x is kept same) h = rw (is, kept) (omega (arith, sum_by-cons (λ (flag : Bool). cond flag 1 0) true (map is_value vs)))

counted : {A : Type 0} (g : Value → Option A) (f : A → Value) (vs : List Value) → AllKept g f vs → length (filter_map g vs) ≡ count_by (λ flag. flag) (map is_value vs)
counted g f [] h = refl
counted g f (v ∷ vs) h = one_counted g f v vs (All-head (λ x. Keeps g f x) v vs h) (counted g f vs (All-tail (λ x. Keeps g f x) v vs h))

abbrev pub Fits : ColType → Value → Type 0
Fits t v = fits v t ≡ true

keeps_bool : (v : Value) → Fits ty.Bool v → Keeps bool_in bool_of v
keeps_bool value.Null h = none refl refl
keeps_bool (value.Bool b) h = some b refl refl refl
keeps_bool (value.Int n) h = cc
keeps_bool (value.Text x) h = cc
keeps_bool (value.Bytes x) h = cc
keeps_bool (value.Date n) h = cc

keeps_int8 : (v : Value) → Fits ty.Int8 v → Keeps number_in (number_of ty.Int8) v
keeps_int8 value.Null h = none refl refl
keeps_int8 (value.Bool b) h = cc
keeps_int8 (value.Int n) h = some n refl refl refl
keeps_int8 (value.Text x) h = cc
keeps_int8 (value.Bytes x) h = cc
keeps_int8 (value.Date n) h = cc

keeps_int16 : (v : Value) → Fits ty.Int16 v → Keeps number_in (number_of ty.Int16) v
keeps_int16 value.Null h = none refl refl
keeps_int16 (value.Bool b) h = cc
keeps_int16 (value.Int n) h = some n refl refl refl
keeps_int16 (value.Text x) h = cc
keeps_int16 (value.Bytes x) h = cc
keeps_int16 (value.Date n) h = cc

keeps_int32 : (v : Value) → Fits ty.Int32 v → Keeps number_in (number_of ty.Int32) v
keeps_int32 value.Null h = none refl refl
keeps_int32 (value.Bool b) h = cc
keeps_int32 (value.Int n) h = some n refl refl refl
keeps_int32 (value.Text x) h = cc
keeps_int32 (value.Bytes x) h = cc
keeps_int32 (value.Date n) h = cc

keeps_int64 : (v : Value) → Fits ty.Int64 v → Keeps number_in long_of v
keeps_int64 value.Null h = none refl refl
keeps_int64 (value.Bool b) h = cc
keeps_int64 (value.Int n) h = some n refl refl refl
keeps_int64 (value.Text x) h = cc
keeps_int64 (value.Bytes x) h = cc
keeps_int64 (value.Date n) h = cc

keeps_date : (v : Value) → Fits ty.Date v → Keeps number_in (number_of ty.Date) v
keeps_date value.Null h = none refl refl
keeps_date (value.Bool b) h = cc
keeps_date (value.Int n) h = cc
keeps_date (value.Text x) h = cc
keeps_date (value.Bytes x) h = cc
keeps_date (value.Date n) h = some n refl refl refl

keeps_text : (v : Value) → Fits ty.Varchar v → Keeps string_in (string_of ty.Varchar) v
keeps_text value.Null h = none refl refl
keeps_text (value.Bool b) h = cc
keeps_text (value.Int n) h = cc
keeps_text (value.Text x) h = some x refl refl refl
keeps_text (value.Bytes x) h = cc
keeps_text (value.Date n) h = cc

keeps_blob : (v : Value) → Fits ty.Blob v → Keeps string_in (string_of ty.Blob) v
keeps_blob value.Null h = none refl refl
keeps_blob (value.Bool b) h = cc
keeps_blob (value.Int n) h = cc
keeps_blob (value.Text x) h = cc
keeps_blob (value.Bytes x) h = some x refl refl refl
keeps_blob (value.Date n) h = cc

record Again {A : Type 0} (g : Value → Option A) (f : A → Value) (cells : List Value) : Type 0 where
  back : spread (map is_value cells) (map f (filter_map g cells)) ≡ cells
  matched : length (filter_map g cells) ≡ count_by (λ flag. flag) (map is_value cells)

all_again : {A : Type 0} (g : Value → Option A) (f : A → Value) (t : ColType) (cells : List Value) → ((v : Value) → Fits t v → Keeps g f v) → All (Fits t) cells → Again g f cells
all_again g f t cells keeps h =
    let all : AllKept g f cells = All-weaker (Fits t) (λ v. Keeps g f v) keeps cells h in
    record { back = again g f cells all; matched = counted g f cells all }

-- what is read of a column's cells is these cells, and as many values are kept as there are
pub record Held (t : ColType) (cells : List Value) : Type 0 where
  pub back : cells_of t (raw_of t cells) ≡ cells
  pub matched : count_of (values_in t cells) ≡ count_by (λ flag. flag) (map is_value cells)

pub held : (t : ColType) (cells : List Value) → All (Fits t) cells → Held t cells
held ty.Bool cells h = let b = all_again bool_in bool_of ty.Bool cells keeps_bool h in record { back = b.back; matched = b.matched }
held ty.Int8 cells h = let b = all_again number_in (number_of ty.Int8) ty.Int8 cells keeps_int8 h in record { back = b.back; matched = b.matched }
held ty.Int16 cells h = let b = all_again number_in (number_of ty.Int16) ty.Int16 cells keeps_int16 h in record { back = b.back; matched = b.matched }
held ty.Int32 cells h = let b = all_again number_in (number_of ty.Int32) ty.Int32 cells keeps_int32 h in record { back = b.back; matched = b.matched }
held ty.Int64 cells h = let b = all_again number_in long_of ty.Int64 cells keeps_int64 h in record { back = b.back; matched = b.matched }
held ty.Varchar cells h = let b = all_again string_in (string_of ty.Varchar) ty.Varchar cells keeps_text h in record { back = b.back; matched = b.matched }
held ty.Blob cells h = let b = all_again string_in (string_of ty.Blob) ty.Blob cells keeps_blob h in record { back = b.back; matched = b.matched }
held ty.Date cells h = let b = all_again number_in (number_of ty.Date) ty.Date cells keeps_date h in record { back = b.back; matched = b.matched }

-- ---- Ranges and texts

abbrev In32 : ℤ → Type 0
In32 n = FitsSigned w32 n

abbrev In64 : ℤ → Type 0
In64 n = FitsSigned w64 n

first_true : (a b : Bool) → (a && b) ≡ true → a ≡ true
first_true true b h = refl
first_true false b h = cc

-- a number of so many bits, by cases on its sign
in32 : (n : ℤ) → mag n < 2 ^ 31 → In32 n
in32 n h = record { sfits = h }

in64 : (n : ℤ) → mag n < 2 ^ 63 → In64 n
in64 n h = record { sfits = h }

int8_small : (n : ℤ) → reaches (reach ty.Int8) n ≡ true → mag n < 2 ^ 31
int8_small (pos n) h = omega (arith, ltb-true n 128 h)
int8_small (negsuc n) h = omega (arith, leb-true n 127 (first_true _ true h))

int16_small : (n : ℤ) → reaches (reach ty.Int16) n ≡ true → mag n < 2 ^ 31
int16_small (pos n) h = omega (arith, ltb-true n 32768 h)
int16_small (negsuc n) h = omega (arith, leb-true n 32767 (first_true _ true h))

int32_small : (n : ℤ) → reaches (reach ty.Int32) n ≡ true → mag n < 2 ^ 31
int32_small (pos n) h = omega (arith, ltb-true n 2147483648 h)
int32_small (negsuc n) h = omega (arith, leb-true n 2147483647 (first_true _ true h))

int64_small : (n : ℤ) → reaches (reach ty.Int64) n ≡ true → mag n < 2 ^ 63
int64_small (pos n) h = omega (arith, ltb-true n 9223372036854775808 h)
int64_small (negsuc n) h = omega (arith, leb-true n 9223372036854775807 (first_true _ true h))

day_small : (n : ℤ) → is_day n ≡ true → mag n < 2 ^ 31
day_small (pos n) h = omega (arith, leb-true n 2932896 h)
day_small (negsuc n) h = omega (arith, leb-true n 719161 (first_true _ true h))

range_int8 : (v : Value) → Fits ty.Int8 v → IfSome (number_in v) In32
range_int8 value.Null h = tt
range_int8 (value.Bool b) h = tt
range_int8 (value.Int n) h = in32 n (int8_small n h)
range_int8 (value.Text x) h = tt
range_int8 (value.Bytes x) h = tt
range_int8 (value.Date n) h = cc

range_int16 : (v : Value) → Fits ty.Int16 v → IfSome (number_in v) In32
range_int16 value.Null h = tt
range_int16 (value.Bool b) h = tt
range_int16 (value.Int n) h = in32 n (int16_small n h)
range_int16 (value.Text x) h = tt
range_int16 (value.Bytes x) h = tt
range_int16 (value.Date n) h = cc

range_int32 : (v : Value) → Fits ty.Int32 v → IfSome (number_in v) In32
range_int32 value.Null h = tt
range_int32 (value.Bool b) h = tt
range_int32 (value.Int n) h = in32 n (int32_small n h)
range_int32 (value.Text x) h = tt
range_int32 (value.Bytes x) h = tt
range_int32 (value.Date n) h = cc

range_int64 : (v : Value) → Fits ty.Int64 v → IfSome (number_in v) In64
range_int64 value.Null h = tt
range_int64 (value.Bool b) h = tt
range_int64 (value.Int n) h = in64 n (int64_small n h)
range_int64 (value.Text x) h = tt
range_int64 (value.Bytes x) h = tt
range_int64 (value.Date n) h = cc

range_date : (v : Value) → Fits ty.Date v → IfSome (number_in v) In32
range_date value.Null h = tt
range_date (value.Bool b) h = tt
range_date (value.Int n) h = cc
range_date (value.Text x) h = tt
range_date (value.Bytes x) h = tt
range_date (value.Date n) h = in32 n (day_small n h)

pub values_in_range : (t : ColType) (cells : List Value) → All (Fits t) cells → AreInRange (values_in t cells)
values_in_range ty.Bool cells h = tt
values_in_range ty.Int8 cells h = all_kept In32 (Fits ty.Int8) number_in range_int8 cells h
values_in_range ty.Int16 cells h = all_kept In32 (Fits ty.Int16) number_in range_int16 cells h
values_in_range ty.Int32 cells h = all_kept In32 (Fits ty.Int32) number_in range_int32 cells h
values_in_range ty.Int64 cells h = all_kept In64 (Fits ty.Int64) number_in range_int64 cells h
values_in_range ty.Varchar cells h = tt
values_in_range ty.Blob cells h = tt
values_in_range ty.Date cells h = all_kept In32 (Fits ty.Date) number_in range_date cells h

-- the texts of a column that may only hold texts
record TextCell (v : Value) : Type 0 where
  fits : Fits ty.Varchar v
  text : HasText v

text_kept : (v : Value) → TextCell v → IfSome (string_in v) (λ x. IsUtf8 x)
text_kept value.Null h = tt
text_kept (value.Bool b) h = tt
text_kept (value.Int n) h = tt
text_kept (value.Text x) h = h.text
text_kept (value.Bytes x) h = let no = h.fits in cc
text_kept (value.Date n) h = tt

text_cells : (cells : List Value) → All (Fits ty.Varchar) cells → All HasText cells → All TextCell cells
text_cells cells fit text k d lt = record { fits = fit k d lt; text = text k d lt }

pub values_texts : (t : ColType) (cells : List Value) → All (Fits t) cells → HoldTexts t cells → read.is_text t ≡ true → AreTexts (values_in t cells)
values_texts ty.Varchar cells h text is = all_kept (λ (x : List ℕ). IsUtf8 x) TextCell string_in text_kept cells (text_cells cells h (text refl))
values_texts ty.Bool cells h text is = cc
values_texts ty.Int8 cells h text is = cc
values_texts ty.Int16 cells h text is = cc
values_texts ty.Int32 cells h text is = cc
values_texts ty.Int64 cells h text is = cc
values_texts ty.Blob cells h text is = cc
values_texts ty.Date cells h text is = cc
