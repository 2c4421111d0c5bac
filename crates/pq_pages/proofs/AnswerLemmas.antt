-- Faults of compact fields, seen from a page.
use Rattle.std.proofs.Common.{◌≡◌, ◌∙◌, Ok, Err, refl, sym, ap}
use Rattle.answers.specs.Answers.{Fails, raised}
use Rattle.thrift_compact.specs.Reading.{Read}
use Rattle.thrift_compact.specs.Structs.{is_memory as is_struct_memory}
use Rattle.thrift_compact.specs.declared.struct_fault.StructFault.{StructFault}
use Rattle.thrift_compact.specs.declared.struct_fault.StructFault.TheVariants as struct_fault
use Rattle.pq_pages.specs.Answers.{fault_of_struct, is_memory, of_fields}

raised_twice : {A : Type 0} (read : Read A) → raised fault_of_struct (raised struct_fault.Thrift read) ≡ of_fields read
raised_twice (Ok x) = refl
raised_twice (Err f) = refl

pub fields_fail : {A : Type 0} (e : StructFault) (read : Read A) → Fails is_struct_memory e (raised struct_fault.Thrift read) → Fails is_memory (fault_of_struct e) (of_fields read)
fields_fail (struct_fault.Thrift f) read h = sym (raised_twice read) ∙ ap (λ r. raised fault_of_struct r) h
fields_fail struct_fault.Memory read h = tt
