-- The faults of a file, and those of its parts, seen from the file.
use Rattle.std.specs.Prelude.{ℕ, Bool, true, false, Result}
use Rattle.answers.specs.Answers.{raised}
use Rattle.pq_meta.specs.declared.fault.MetaFault.{MetaFault}
use Rattle.pq_meta.specs.declared.fault.MetaFault.TheVariants as meta
use Rattle.pq_pages.specs.declared.fault.PageFault.{PageFault}
use Rattle.pq_pages.specs.declared.fault.PageFault.TheVariants as page
use Rattle.pq_file.specs.declared.fault.FileFault.{FileFault}
use Rattle.pq_file.specs.declared.fault.FileFault.TheVariants as fault

abbrev pub is_memory : FileFault → Bool
is_memory fault.Memory = true
is_memory e = false

-- a fault of the footer
abbrev pub fault_of_meta : MetaFault → FileFault
fault_of_meta meta.Memory = fault.Memory
fault_of_meta e = fault.Meta e

abbrev pub of_meta : {A : Type 0} → Result A MetaFault → Result A FileFault
of_meta read = raised fault_of_meta read

-- a fault of a chunk
abbrev pub fault_of_page : ℕ → ℕ → PageFault → FileFault
fault_of_page group column page.Memory = fault.Memory
fault_of_page group column e = fault.Chunk group column e

abbrev pub of_page : {A : Type 0} → ℕ → ℕ → Result A PageFault → Result A FileFault
of_page group column read = raised (fault_of_page group column) read
