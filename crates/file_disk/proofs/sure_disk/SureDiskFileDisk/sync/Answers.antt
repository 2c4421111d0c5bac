use Rattle.std.proofs.Common.{ap}
use Rattle.file_disk.specs.Folder.{MayBecomeAny}
use Rattle.file_disk.specs.Memory.{StoredPart}
use Rattle.file_disk.proofs.ImageLemmas.{Touches-here, LeavesFrom-any}
use Rattle.file_disk.proofs.sure_disk.SureDiskFileDisk.sync.Goals as goal

pub returns-clause-images : goal.returns-clause-images
returns-clause-images c = Touches-here MayBecomeAny _ _ _ _ _ _ (cc) (ap (λ (p : StoredPart). p.all) c.self.view_is) c.seal_entry.ensures.sets (LeavesFrom-any _ _)
