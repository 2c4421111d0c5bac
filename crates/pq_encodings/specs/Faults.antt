-- Which fault is want of memory.
use Rattle.std.specs.Prelude.{Bool, true, false}
use Rattle.pq_encodings.specs.declared.fault.EncFault.{EncFault}
use Rattle.pq_encodings.specs.declared.fault.EncFault.TheVariants as fault

abbrev pub is_memory : EncFault → Bool
is_memory fault.Memory = true
is_memory e = false
