use Rattle.std.proofs.Common.{List, ap, subst}
use Rattle.file_disk.specs.Calls.{ListsNames}
use Rattle.file_disk.specs.Memory.{Kept, StoredPart, folder_of}
use Rattle.file_disk.proofs.OrderLemmas.{ListsNames-names_of}
use Rattle.file_disk.proofs.sure_disk.SureDiskFileDisk.list.Goals as goal

pub returns-clause-names : goal.returns-clause-names
returns-clause-names c =
    let P : List Kept → Type 0 = λ all. ListsNames (folder_of all) c.in_ok-names.names.items in
    let listed = ListsNames-names_of c.self.inside.entries.items c.self.invariant in
    subst P (ap (λ (p : StoredPart). p.all) c.self.view_is) (rw (c.in_ok-names.ensures, c.as_slice.ensures.value) listed)
