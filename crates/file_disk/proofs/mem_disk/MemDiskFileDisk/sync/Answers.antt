use Rattle.std.proofs.Common.{ap}
use Rattle.file_disk.specs.Folder.{MayBecomeAny}
use Rattle.file_disk.specs.Memory.{FailingPart}
use Rattle.file_disk.proofs.ImageLemmas.{Touches-same}
use Rattle.file_disk.proofs.mem_disk.MemDiskFileDisk.sync.Goals as goal

-- a call that fails changes nothing
pub returns-then-is_err-clause-images : goal.returns-then-is_err-clause-images
returns-then-is_err-clause-images c = Touches-same MayBecomeAny _ _ _ (λ x. tt) (ap (λ (p : FailingPart). p.all) c.self.view_is)
