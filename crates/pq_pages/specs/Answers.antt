-- What a call may answer where its definition gives a value or the first fault.
use Rattle.std.specs.Prelude.{◌≡◌, ℕ, List, Bool, true, false, Result, Ok, Err, ⊤}
use Rattle.answers.specs.Answers.{Fails, raised}
use Rattle.thrift_compact.specs.Cursor.{Cursor, end_of}
use Rattle.thrift_compact.specs.Reading.{Read}
use Rattle.thrift_compact.specs.declared.struct_fault.StructFault.{StructFault}
use Rattle.thrift_compact.specs.declared.struct_fault.StructFault.TheVariants as struct_fault
use Rattle.pq_encodings.specs.declared.fault.EncFault.{EncFault}
use Rattle.pq_encodings.specs.declared.fault.EncFault.TheVariants as enc
use Rattle.pq_pages.specs.declared.fault.PageFault.{PageFault}
use Rattle.pq_pages.specs.declared.fault.PageFault.TheVariants as fault

abbrev pub is_memory : PageFault → Bool
is_memory fault.Memory = true
is_memory e = false

-- a fault of values, seen from a page
abbrev pub fault_of : EncFault → PageFault
fault_of enc.Memory = fault.Memory
fault_of e = fault.Values e

-- a fault of a page's header
abbrev pub fault_of_struct : StructFault → PageFault
fault_of_struct (struct_fault.Thrift f) = fault.Thrift f
fault_of_struct struct_fault.Memory = fault.Memory

-- what is read of encoded bytes, seen from a page
abbrev pub of_values : {A : Type 0} → Result A EncFault → Result A PageFault
of_values read = raised fault_of read

-- what is read of compact fields, seen from a page
abbrev pub of_fields : {A : Type 0} → Read A → Result (A × List ℕ) PageFault
of_fields read = raised fault.Thrift read

-- the answer of a call that changes a value
abbrev pub Turns : {A : Type 0} → Result ⊤ PageFault → A → Result A PageFault → Type 0
Turns (Ok u) new read = read ≡ Ok new
Turns (Err e) new read = Fails is_memory e read

-- the same of one that reads a value off a reader
abbrev pub Takes : {A : Type 0} → Cursor → Cursor → Result A PageFault → Result (A × List ℕ) PageFault → Type 0
Takes old after (Ok x) read = (read ≡ Ok (x, after.rest)) × (end_of after ≡ end_of old)
Takes old after (Err e) read = Fails is_memory e read

-- the same of one that moves a reader and changes a value
abbrev pub Moves : {A : Type 0} → Cursor → Cursor → Result ⊤ PageFault → A → Result (A × List ℕ) PageFault → Type 0
Moves old after (Ok u) new read = (read ≡ Ok (new, after.rest)) × (end_of after ≡ end_of old)
Moves old after (Err e) new read = Fails is_memory e read
