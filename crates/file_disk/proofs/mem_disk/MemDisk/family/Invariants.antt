use Rattle.std.proofs.Common.{◌≡◌, ◌<◌, ℕ, length, get_or}
use Rattle.file_disk.specs.Memory.{FailingPart, IsNewPart}
use Rattle.file_disk.proofs.mem_disk.MemDisk.family.Given as goal

-- the disks so far have the parts below this one
abbrev pub invariant-loop-part : goal.invariant-loop-part
invariant-loop-part l = record {
  count : length l.disks.items ≡ l.part;
  parts : (i : ℕ) (d : FailingPart) → i < l.part → IsNewPart i (get_or l.disks.items i d);
}
