use Rattle.std.proofs.Common.{ap}
use Rattle.file_disk.specs.Folder.{MayBecomeAny}
use Rattle.file_disk.specs.Memory.{FailingPart}
use Rattle.file_disk.proofs.ImageLemmas.{Touches-same}
use Rattle.file_disk.proofs.mem_disk.MemDiskFileDisk.append.Goals as goal

-- a call that fails changes nothing
pub returns-in_err-count_call-clause-images : goal.returns-in_err-count_call-clause-images
returns-in_err-count_call-clause-images c = Touches-same MayBecomeAny _ _ _ (λ x. tt) (ap (λ (p : FailingPart). p.all) c.self.view_is)
