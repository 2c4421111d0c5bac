-- The laws of the spellings.
use Rattle.std.proofs.Common.{ℕ, ℤ, ◌<◌, ◌^◌, ◌<ℤ◌, ◌∷◌, [], List, length, Some, None, lit≤}
use Rattle.std.specs.Prelude.{FitsSigned}
use Rattle.std.specs.Int.{w16, w32, w64}
use Rattle.thrift_compact.specs.Spelling.{IsSigned, IsByte, IsBinary, IsType, IsListHeader, IsFieldHeader}
use Rattle.thrift_compact.specs.Trees.{IsValue}
use Rattle.thrift_compact.specs.Reading.{Read, signed_in, byte_in, binary_in, list_header_in, field_header_in, after_value}
use Rattle.thrift_compact.specs.Shortest.{IsShortest, signed_spelling, binary_spelling, list_spelling, field_spelling}
use Rattle.thrift_compact.specs.Laws.{NoneBeginsAnother, SaysOne, ReadsBack}
use Rattle.thrift_compact.proofs.Matching.{Matches}
use Rattle.thrift_compact.proofs.PrefixLemmas.{none_begins, says, passes_begin}
use Rattle.thrift_compact.proofs.TreeLemmas.{value_says}
use Rattle.thrift_compact.proofs.ScalarLemmas.{signed_matches, byte_matches, binary_matches}
use Rattle.thrift_compact.proofs.HeaderLemmas.{list_header_matches, field_header_matches}
use Rattle.thrift_compact.proofs.ValueLemmas.{value_passes}
use Rattle.thrift_compact.proofs.WriterLemmas.{zigzag_32, zigzag_64, signed_shortest, binary_shortest, list_shortest, field_shortest, stop_shortest}

back : {A : Type 0} (R : List ℕ → Read A) (S : List ℕ → A → Type 0) → Matches R S → (bytes : List ℕ) (x : A) → IsShortest S bytes x → ReadsBack R bytes x
back R S m bytes x short rest = m.complete bytes rest x short.spells

pub signed_begins_none : (limit : ℕ) → NoneBeginsAnother (IsSigned limit)
signed_begins_none limit = none_begins (signed_in 0 limit) (IsSigned limit) (signed_matches 0 limit)

pub byte_begins_none : NoneBeginsAnother IsByte
byte_begins_none = none_begins (byte_in 0) IsByte (byte_matches 0)

pub binary_begins_none : NoneBeginsAnother IsBinary
binary_begins_none = none_begins (binary_in 0) IsBinary (binary_matches 0)

pub list_header_begins_none : NoneBeginsAnother IsListHeader
list_header_begins_none = none_begins (list_header_in 0) IsListHeader (list_header_matches 0)

pub field_header_begins_none : (last : ℤ) → NoneBeginsAnother (IsFieldHeader last)
field_header_begins_none last = none_begins (field_header_in 0 last) (IsFieldHeader last) (field_header_matches 0 last)

pub value_begins_none : (depth ty : ℕ) → NoneBeginsAnother (IsValue depth ty)
value_begins_none depth ty = passes_begin (after_value 0 depth ty) (IsValue depth ty) (value_passes 0 depth ty)

pub signed_says_one : (limit : ℕ) → SaysOne (IsSigned limit)
signed_says_one limit = says (signed_in 0 limit) (IsSigned limit) (signed_matches 0 limit)

pub byte_says_one : SaysOne IsByte
byte_says_one = says (byte_in 0) IsByte (byte_matches 0)

pub binary_says_one : SaysOne IsBinary
binary_says_one = says (binary_in 0) IsBinary (binary_matches 0)

pub list_header_says_one : SaysOne IsListHeader
list_header_says_one = says (list_header_in 0) IsListHeader (list_header_matches 0)

pub field_header_says_one : (last : ℤ) → SaysOne (IsFieldHeader last)
field_header_says_one last = says (field_header_in 0 last) (IsFieldHeader last) (field_header_matches 0 last)

pub value_says_one : (depth ty : ℕ) → SaysOne (IsValue depth ty)
value_says_one = value_says

pub i32_back : (at : ℕ) (z : ℤ) → FitsSigned w32 z → ReadsBack (signed_in at (2 ^ 32)) (signed_spelling z) z
i32_back at z fits =
    back (signed_in at (2 ^ 32)) (IsSigned (2 ^ 32)) (signed_matches at (2 ^ 32)) (signed_spelling z) z (signed_shortest (2 ^ 32) z (zigzag_32 z fits) (lit≤ tt))

pub i64_back : (at : ℕ) (z : ℤ) → FitsSigned w64 z → ReadsBack (signed_in at (2 ^ 64)) (signed_spelling z) z
i64_back at z fits =
    back (signed_in at (2 ^ 64)) (IsSigned (2 ^ 64)) (signed_matches at (2 ^ 64)) (signed_spelling z) z (signed_shortest (2 ^ 64) z (zigzag_64 z fits) (lit≤ tt))

pub binary_back : (at : ℕ) (text : List ℕ) → length text < 2 ^ 32 → ReadsBack (binary_in at) (binary_spelling text) text
binary_back at text lt = back (binary_in at) IsBinary (binary_matches at) (binary_spelling text) text (binary_shortest text lt)

pub list_header_back : (at ty size : ℕ) → IsType ty → size < 2 ^ 32 → ReadsBack (list_header_in at) (list_spelling ty size) (ty, size)
list_header_back at ty size good lt =
    back (list_header_in at) IsListHeader (list_header_matches at) (list_spelling ty size) (ty, size) (list_shortest ty size good lt)

pub field_header_back : (at : ℕ) (last id : ℤ) (ty : ℕ) → last <ℤ id → IsType ty → FitsSigned w16 id
    → ReadsBack (field_header_in at last) (field_spelling last id ty) (Some (id, ty))
field_header_back at last id ty lt good fits =
    back (field_header_in at last) (IsFieldHeader last) (field_header_matches at last) (field_spelling last id ty) (Some (id, ty))
    (field_shortest last id ty lt good fits)

pub stop_back : (at : ℕ) (last : ℤ) → ReadsBack (field_header_in at last) (0 ∷ []) None
stop_back at last = back (field_header_in at last) (IsFieldHeader last) (field_header_matches at last) (0 ∷ []) None (stop_shortest last)
