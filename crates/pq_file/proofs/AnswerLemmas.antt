-- Faults of the footer, handed on.
use Rattle.std.proofs.Common.{Result, refl}
use Rattle.answers.specs.Answers.{Fails}
use Rattle.pq_meta.specs.declared.fault.MetaFault.{MetaFault}
use Rattle.pq_meta.specs.declared.fault.MetaFault.TheVariants as meta
use Rattle.pq_meta.specs.Checks.{is_memory as is_meta_memory}
use Rattle.pq_file.specs.Answers.{fault_of_meta, is_memory, of_meta}

pub meta_fails : {A : Type 0} (e : MetaFault) (read : Result A MetaFault) → Fails is_meta_memory e read → Fails is_memory (fault_of_meta e) (of_meta read)
meta_fails meta.Memory read h = tt
meta_fails (meta.Thrift f) read h = rw h refl
meta_fails (meta.MissingField id) read h = rw h refl
meta_fails (meta.Nested name) read h = rw h refl
meta_fails (meta.UnknownType code) read h = rw h refl
meta_fails (meta.Count want got) read h = rw h refl
