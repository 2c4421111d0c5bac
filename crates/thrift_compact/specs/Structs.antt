-- Structs of known fields. A field that is not known is passed over; of a field that comes again the last one stands.
use Rattle.std.specs.Prelude.{◌≡◌, ℕ, ℤ, pos, negsuc, zero, suc, List, [], ◌∷◌, length, Some, None, Result, Ok, Err, Bool, false, true, ◌==◌, ◌&&◌, ⊤}
use Rattle.thrift_compact.specs.declared.fault.ThriftFault.TheVariants as thrift
use Rattle.answers.specs.Answers.{◌>>=◌, Fails, raised}
use Rattle.thrift_compact.specs.Reading.{Read, start_of, field_header_in, list_header_in, after_value}
use Rattle.thrift_compact.specs.Cursor.{Cursor, end_of}
use Rattle.thrift_compact.specs.declared.struct_fault.StructFault.{StructFault}
use Rattle.thrift_compact.specs.declared.struct_fault.StructFault.TheVariants as fault

-- ---- what a call answers

abbrev pub is_memory : StructFault → Bool
is_memory (fault.Thrift f) = false
is_memory fault.Memory = true

-- What was read is what reading gives, and the reader has moved past it; or the fault is the one that reading gives, or
-- memory ran out.
abbrev pub Obtains : {A : Type 0} → Cursor → Cursor → Result A StructFault → Read A → Type 0
Obtains old new (Ok x) read = (read ≡ Ok (x, new.rest)) × (end_of new ≡ end_of old)
Obtains old new (Err e) read = Fails is_memory e (raised fault.Thrift read)

-- the same of a call that changes a draft
abbrev pub Fills : {D : Type 0} → Cursor → Cursor → Result ⊤ StructFault → D → Read D → Type 0
Fills old new (Ok u) draft read = (read ≡ Ok (draft, new.rest)) × (end_of new ≡ end_of old)
Fills old new (Err e) draft read = Fails is_memory e (raised fault.Thrift read)

-- ---- fields

-- is a field of this id and type the field with the number id and the type ty
abbrev pub is_field : ℕ → ℕ → ℤ → ℕ → Bool
is_field id ty (pos i) t = i == id && t == ty
is_field id ty (negsuc i) t = false

-- a field that is not known leaves the draft as it is
abbrev pub unknown : {D : Type 0} → ℕ → D → ℕ → List ℕ → Read D
unknown end draft ty bytes = after_value end 16 ty bytes >>= λ rest. Ok (draft, rest)

-- ---- structs

-- At most so many fields behind the field `last`, and the stop. `part` says what one field makes of a draft.
unfoldable pub struct_in : {D : Type 0} → ℕ → (D → ℤ → ℕ → List ℕ → Read D) → ℕ → ℤ → D → List ℕ → Read D
struct_in end part zero last draft bytes = Err (thrift.Short (start_of end bytes))
struct_in end part (suc most) last draft bytes = do
  header ← field_header_in (start_of end bytes) last bytes
  elim header.0 [ None ↦ Ok (draft, header.1) | Some f ↦ part draft f.0 f.1 header.1 >>= λ x. struct_in end part most f.0 x.0 x.1 ]

-- A struct, given its draft before the first field. Each field takes a byte at least, so there are no more fields than bytes.
unfoldable pub struct_of : {D : Type 0} → (ℕ → D → ℤ → ℕ → List ℕ → Read D) → D → ℕ → List ℕ → Read D
struct_of part empty end bytes = struct_in end (part end) (length bytes) (pos 0) empty bytes

-- so many items, one after the other
unfoldable pub row_in : {A : Type 0} → (List ℕ → Read A) → ℕ → List ℕ → Read (List A)
row_in item zero bytes = Ok ([], bytes)
row_in item (suc n) bytes = do
  first ← item bytes
  others ← row_in item n first.1
  Ok (first.0 ∷ others.0, others.1)

-- a list of structs, behind its header
unfoldable pub structs_of : {D : Type 0} → (ℕ → D → ℤ → ℕ → List ℕ → Read D) → D → ℕ → List ℕ → Read (List D)
structs_of part empty end bytes = list_header_in (start_of end bytes) bytes >>= λ list. row_in (struct_of part empty end) list.0.1 list.1
