use Rattle.std.proofs.Common.{◌≡◌, take}
use Rattle.file_disk.specs.Memory.{names_of}
use Rattle.file_disk.proofs.entries.copy_names.Given as goal

abbrev pub invariant-loop-entry : goal.invariant-loop-entry
invariant-loop-entry l = l.names.items ≡ names_of (take l.entry-index l.entries)
