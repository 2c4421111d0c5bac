use Rattle.std.proofs.Common.{ap}
use Rattle.file_disk.specs.Folder.{StaysOrGoes}
use Rattle.file_disk.specs.Memory.{StoredPart}
use Rattle.file_disk.proofs.ImageLemmas.{Touches-here, LeavesFrom-gone}
use Rattle.file_disk.proofs.sure_disk.SureDiskFileDisk.remove.Goals as goal

pub returns-clause-images : goal.returns-clause-images
returns-clause-images c = Touches-here StaysOrGoes _ _ _ _ _ _ (cc) (ap (λ (p : StoredPart). p.all) c.self.view_is) c.drop_entry.ensures.sets (LeavesFrom-gone _)
