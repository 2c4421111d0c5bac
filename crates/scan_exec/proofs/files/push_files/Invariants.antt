use Rattle.std.proofs.Common.{◌≡◌, ◌≤◌, ◌++◌, ℕ, List, drop}
use Rattle.file_disk.specs.Folder.{AddsNone, Changes, Folder, Same}
use Rattle.scan_exec.specs.Damage.{AreRead, IsFirstDamaged}
use Rattle.scan_exec.specs.Picking.{short_rows}
use Rattle.scan_exec.specs.Telling.{TellFiles, reads, rows_in}
use Rattle.scan_exec.proofs.files.push_files.Given as goal

-- the rows so far, and those of the files that are left
abbrev pub invariant-loop-file : goal.invariant-loop-file
invariant-loop-file g l = record {
  rows : (folder : Folder) → TellFiles g.D.File.Held.name g.D.File.Held.bytes folder l.files
      → l.rows ++ short_rows l.choice.bound l.choice.fields.items (rows_in g.D.File.Held.name folder l.columns (drop l.file-index l.files))
      ≡ l.fn.rows ++ short_rows l.choice.bound l.choice.fields.items (rows_in g.D.File.Held.name folder l.columns l.files);
  opens : reads (drop l.file-index l.files) (g.D.FileDisk.opens l.disk) ≡ reads l.files (g.D.FileDisk.opens l.fn.disk);
  damaged : (told : List ℕ) → IsFirstDamaged g.D.File.Held.name g.D.File.Held.part g.D.File.Held.bytes (g.D.FileDisk.part l.fn.disk) (g.D.FileDisk.files l.fn.disk) l.columns (drop l.file-index l.files) told
      → IsFirstDamaged g.D.File.Held.name g.D.File.Held.part g.D.File.Held.bytes (g.D.FileDisk.part l.fn.disk) (g.D.FileDisk.files l.fn.disk) l.columns l.files told;
  read : AreRead g.D.File.Held.name g.D.File.Held.part g.D.File.Held.bytes (g.D.FileDisk.part l.fn.disk) (g.D.FileDisk.files l.fn.disk) l.columns (drop l.file-index l.files)
      → AreRead g.D.File.Held.name g.D.File.Held.part g.D.File.Held.bytes (g.D.FileDisk.part l.fn.disk) (g.D.FileDisk.files l.fn.disk) l.columns l.files;
  later : g.D.FileDisk.faults l.fn.disk ≤ g.D.FileDisk.faults l.disk;
  files : Changes Same (g.D.FileDisk.files l.fn.disk) (g.D.FileDisk.files l.disk);
  images : AddsNone (g.D.FileDisk.images l.fn.disk) (g.D.FileDisk.images l.disk);
  part : g.D.FileDisk.part l.disk ≡ g.D.FileDisk.part l.fn.disk;
}
