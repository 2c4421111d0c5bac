-- What the calls of the reader say by the spellings.
use Rattle.std.proofs.Common.{◌≡◌, ℕ, ℤ, Option, List, length, Ok, Err, sym, ap, ◌∙◌, arith}
use Rattle.std.specs.Borrow.{Bor}
use Rattle.std.proofs.lemmas.List.{length-append}
use Rattle.thrift_compact.specs.declared.fault.ThriftFault.{ThriftFault}
use Rattle.thrift_compact.specs.Reading.{Read, signed_in, byte_in, binary_in, list_header_in, field_header_in, after_value}
use Rattle.thrift_compact.specs.Spelling.{IsSigned, IsByte, IsBinary, IsListHeader, IsFieldHeader}
use Rattle.thrift_compact.specs.Trees.{IsValue}
use Rattle.thrift_compact.specs.Cursor.{Cursor, end_of, MovesPast, MovesPastSome, NoneAt}
use Rattle.thrift_compact.proofs.Matching.{Matches, failed}
use Rattle.thrift_compact.proofs.ScalarLemmas.{signed_matches, byte_matches, binary_matches}
use Rattle.thrift_compact.proofs.HeaderLemmas.{list_header_matches, field_header_matches}
use Rattle.thrift_compact.proofs.ValueLemmas.{value_passes}
use Rattle.thrift_compact.proofs.FaultLemmas.{signed_names, byte_names, binary_names, list_header_names, field_header_names}

moves_past : {A : Type 0} (R : List ℕ → Read A) (S : List ℕ → A → Type 0) → Matches R S → (old new : Cursor) (x : A)
    → R old.rest ≡ Ok (x, new.rest) → end_of new ≡ end_of old → MovesPast S old new x
moves_past R S m old new x read same =
    let i = m.sound old.rest x new.rest read in
    record { front = i.front; parts = i.parts; moved = omega (arith, same, ap length i.parts, length-append i.front new.rest); spells = i.spells }

none_at : {A : Type 0} (R : List ℕ → Read A) (S : List ℕ → A → Type 0) → Matches R S → (bytes : List ℕ) (fault : ThriftFault)
    → R bytes ≡ Err fault → NoneAt S bytes
none_at R S m bytes fault read = record { never = λ front more x parts s. failed fault (x, more) (sym read ∙ ap R parts ∙ m.complete front more x s) }

pub finds_signed : (limit : ℕ) (old new : Cursor) (x : ℤ) → signed_in old.at limit old.rest ≡ Ok (x, new.rest) → end_of new ≡ end_of old
    → MovesPast (IsSigned limit) old new x
finds_signed limit old = moves_past (signed_in old.at limit) (IsSigned limit) (signed_matches old.at limit) old

pub refuses_signed : (at limit : ℕ) (bytes : List ℕ) (fault : ThriftFault) → signed_in at limit bytes ≡ Err fault → NoneAt (IsSigned limit) bytes
refuses_signed at limit = none_at (signed_in at limit) (IsSigned limit) (signed_matches at limit)

pub finds_byte : (old new : Cursor) (x : ℤ) → byte_in old.at old.rest ≡ Ok (x, new.rest) → end_of new ≡ end_of old → MovesPast IsByte old new x
finds_byte old = moves_past (byte_in old.at) IsByte (byte_matches old.at) old

pub refuses_byte : (at : ℕ) (bytes : List ℕ) (fault : ThriftFault) → byte_in at bytes ≡ Err fault → NoneAt IsByte bytes
refuses_byte at = none_at (byte_in at) IsByte (byte_matches at)

pub finds_binary : (old new : Cursor) (x : Bor (List ℕ)) → binary_in old.at old.rest ≡ Ok (x.now, new.rest) → end_of new ≡ end_of old
    → MovesPast (λ bytes text. IsBinary bytes text.now) old new x
finds_binary old new x read same =
    let i = moves_past (binary_in old.at) IsBinary (binary_matches old.at) old new x.now read same in
    record { front = i.front; parts = i.parts; moved = i.moved; spells = i.spells }

pub refuses_binary : (at : ℕ) (bytes : List ℕ) (fault : ThriftFault) → binary_in at bytes ≡ Err fault
    → NoneAt (λ bytes (text : Bor (List ℕ)). IsBinary bytes text.now) bytes
refuses_binary at bytes fault read =
    let none = none_at (binary_in at) IsBinary (binary_matches at) bytes fault read in
    record { never = λ front more x. none.never front more x.now }

pub finds_list_header : (old new : Cursor) (x : ℕ × ℕ) → list_header_in old.at old.rest ≡ Ok (x, new.rest) → end_of new ≡ end_of old
    → MovesPast IsListHeader old new x
finds_list_header old = moves_past (list_header_in old.at) IsListHeader (list_header_matches old.at) old

pub refuses_list_header : (at : ℕ) (bytes : List ℕ) (fault : ThriftFault) → list_header_in at bytes ≡ Err fault → NoneAt IsListHeader bytes
refuses_list_header at = none_at (list_header_in at) IsListHeader (list_header_matches at)

pub finds_field_header : (last : ℤ) (old new : Cursor) (x : Option (ℤ × ℕ)) → field_header_in old.at last old.rest ≡ Ok (x, new.rest)
    → end_of new ≡ end_of old → MovesPast (IsFieldHeader last) old new x
finds_field_header last old = moves_past (field_header_in old.at last) (IsFieldHeader last) (field_header_matches old.at last) old

pub refuses_field_header : (at : ℕ) (last : ℤ) (bytes : List ℕ) (fault : ThriftFault) → field_header_in at last bytes ≡ Err fault
    → NoneAt (IsFieldHeader last) bytes
refuses_field_header at last = none_at (field_header_in at last) (IsFieldHeader last) (field_header_matches at last)

pub finds_value : (ty : ℕ) (old new : Cursor) → after_value (end_of old) 16 ty old.rest ≡ Ok new.rest → end_of new ≡ end_of old
    → MovesPastSome (IsValue 16 ty) old new
finds_value ty old new read same =
    let i = (value_passes (end_of old) 16 ty).sound old.rest new.rest read in
    record {
      value = i.value;
      past = record { front = i.front; parts = i.parts; moved = omega (arith, same, ap length i.parts, length-append i.front new.rest); spells = i.spells };
    }

pub refuses_value : (end ty : ℕ) (bytes : List ℕ) (fault : ThriftFault) → after_value end 16 ty bytes ≡ Err fault → NoneAt (IsValue 16 ty) bytes
refuses_value end ty bytes fault read =
    record { never = λ front more x parts s. failed fault more (sym read ∙ ap (after_value end 16 ty) parts ∙ (value_passes end 16 ty).complete front more x s) }

-- ---- what each call's clause on its item takes

pub ruleset signed_item = (finds_signed, refuses_signed, signed_names)

pub ruleset byte_item = (finds_byte, refuses_byte, byte_names)

pub ruleset binary_item = (finds_binary, refuses_binary, binary_names)

pub ruleset list_header_item = (finds_list_header, refuses_list_header, list_header_names)

pub ruleset field_header_item = (finds_field_header, refuses_field_header, field_header_names)

pub ruleset value_item = (finds_value, refuses_value)
