use Rattle.std.proofs.Common.{ap, inr, refl}
use Rattle.file_disk.specs.Folder.{StaysIfThere}
use Rattle.file_disk.specs.Memory.{FailingPart}
use Rattle.file_disk.proofs.ImageLemmas.{Touches-same}
use Rattle.file_disk.proofs.mem_disk.MemDiskFileDisk.create.Goals as goal

-- a call that fails changes nothing
pub returns-then-not-holds-clause-images : goal.returns-then-not-holds-clause-images
returns-then-not-holds-clause-images c = Touches-same StaysIfThere _ _ _ (λ x. inr refl) (ap (λ (p : FailingPart). p.all) c.self.view_is)
