use Rattle.std.proofs.Common.{◌≡◌, ◌≤◌, map, take}
use Rattle.file_disk.specs.Folder.{AddsNone, Changes, Same}
use Rattle.cat_view.specs.Held.{held_in}
use Rattle.recover.specs.Holding.{HoldsThese, named_delete}
use Rattle.recover.proofs.holding.hold_delete_files.Given as goal

-- the files of the rows so far are held
abbrev pub invariant-loop-row : goal.invariant-loop-row
invariant-loop-row g l = let h = g.D.File.Held in let d = g.D.FileDisk in record {
  holds : HoldsThese h.name h.size h.bytes (map named_delete (take l.row-index l.rows)) (d.files l.fn.disk) (held_in l.fn.held).rows
      (d.files l.disk) (held_in l.held).rows;
  later : d.faults l.fn.disk ≤ d.faults l.disk;
  files : Changes Same (d.files l.fn.disk) (d.files l.disk);
  images : AddsNone (d.images l.fn.disk) (d.images l.disk);
  opens : d.opens l.disk ≡ d.opens l.fn.disk;
  part : d.part l.disk ≡ d.part l.fn.disk;
}
