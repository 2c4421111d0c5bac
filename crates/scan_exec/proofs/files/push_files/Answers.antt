use Rattle.std.proofs.Common.{arith, ap, sym, subst, ◌∙◌}
use Rattle.row_files.proofs.LeftLemmas.{same_twice}
use Rattle.scan_exec.specs.Damage.{IsDamaged, IsFirstDamaged, IsRead}
use Rattle.scan_exec.specs.Telling.{TellsFile, reads}
use Rattle.scan_exec.proofs.DamageLemmas.{if_damage, is_first, is_later, is_read}
use Rattle.scan_exec.proofs.FileLemmas.{first, rows_turn, tells}
use Rattle.scan_exec.proofs.files.push_files.Goals as goal

pub returns-in-Err-clause-damaged : goal.returns-in-Err-clause-damaged
returns-in-Err-clause-damaged g c =
    if_damage c.in-Err.why
    (IsDamaged g.D.File.Held.name g.D.File.Held.part g.D.File.Held.bytes (g.D.FileDisk.part c.loop-file.disk) (g.D.FileDisk.files c.loop-file.disk) c.args.columns.now c.deref.result.now)
    (IsFirstDamaged g.D.File.Held.name g.D.File.Held.part g.D.File.Held.bytes (g.D.FileDisk.part c.args.disk.now) (g.D.FileDisk.files c.args.disk.now) c.args.columns.now c.args.files.now)
    (λ told d. is_first g.D.File.Held.name g.D.File.Held.part g.D.File.Held.bytes (g.D.FileDisk.part c.args.disk.now) (g.D.FileDisk.part c.loop-file.disk) c.loop-file.invariant.part
    (g.D.FileDisk.files c.args.disk.now) (g.D.FileDisk.files c.loop-file.disk) c.loop-file.invariant.files c.args.columns.now c.args.files.now c.loop-file.file-index c.file-item.result
    c.loop-file-test.true c.file-item.is c.loop-file.invariant.damaged told
    (subst (λ f. IsDamaged g.D.File.Held.name g.D.File.Held.part g.D.File.Held.bytes (g.D.FileDisk.part c.loop-file.disk) (g.D.FileDisk.files c.loop-file.disk) c.args.columns.now f told) c.deref.ensures d))
    c.in-Err.ensures.damaged

pub loop-file-preserved : goal.loop-file-preserved
loop-file-preserved g c = record {
  rows = λ folder t.
      rw (
        c.in-Ok.ensures.rows folder (subst (TellsFile g.D.File.Held.name g.D.File.Held.bytes folder) (sym c.deref.ensures)
            (tells g.D.File.Held.name g.D.File.Held.bytes c.args.files.now c.loop-file.file-index c.file-item.result c.loop-file-test.true c.file-item.is folder t)),
        c.deref.ensures,
      )
      (rows_turn g.D.File.Held.name g.D.File.Held.bytes c.args.files.now c.loop-file.file-index c.file-item.result c.loop-file-test.true c.file-item.is
      c.args.choice.now.bound c.args.choice.now.fields.items c.loop-file.rows c.args.columns.now folder ∙ c.loop-file.invariant.rows folder t);
  opens = rw (c.in-Ok.ensures.opens, c.deref.ensures)
      (ap (λ l. reads l (g.D.FileDisk.opens c.loop-file.disk)) (sym (first g.D.File.Held.name g.D.File.Held.bytes c.args.files.now c.loop-file.file-index c.file-item.result c.loop-file-test.true c.file-item.is))
      ∙ c.loop-file.invariant.opens);
  damaged = is_later g.D.File.Held.name g.D.File.Held.part g.D.File.Held.bytes (g.D.FileDisk.part c.args.disk.now) (g.D.FileDisk.part c.loop-file.disk) c.loop-file.invariant.part
      (g.D.FileDisk.files c.args.disk.now) (g.D.FileDisk.files c.loop-file.disk) c.loop-file.invariant.files c.args.columns.now c.args.files.now c.loop-file.file-index c.file-item.result
      c.loop-file-test.true c.file-item.is c.loop-file.invariant.damaged
      (subst (λ f. IsRead g.D.File.Held.name g.D.File.Held.part g.D.File.Held.bytes (g.D.FileDisk.part c.loop-file.disk) (g.D.FileDisk.files c.loop-file.disk) c.args.columns.now f) c.deref.ensures c.in-Ok.ensures.read);
  read = is_read g.D.File.Held.name g.D.File.Held.part g.D.File.Held.bytes (g.D.FileDisk.part c.args.disk.now) (g.D.FileDisk.part c.loop-file.disk) c.loop-file.invariant.part
      (g.D.FileDisk.files c.args.disk.now) (g.D.FileDisk.files c.loop-file.disk) c.loop-file.invariant.files c.args.columns.now c.args.files.now c.loop-file.file-index c.file-item.result
      c.loop-file-test.true c.file-item.is c.loop-file.invariant.read
      (subst (λ f. IsRead g.D.File.Held.name g.D.File.Held.part g.D.File.Held.bytes (g.D.FileDisk.part c.loop-file.disk) (g.D.FileDisk.files c.loop-file.disk) c.args.columns.now f) c.deref.ensures c.in-Ok.ensures.read);
  later = omega (arith, c.loop-file.invariant.later, c.in-Ok.ensures.later);
  files = same_twice (g.D.FileDisk.files c.args.disk.now) (g.D.FileDisk.files c.loop-file.disk) (g.D.FileDisk.files c.push_file.new.disk) c.loop-file.invariant.files c.in-Ok.ensures.files;
  images = λ image h. c.loop-file.invariant.images image (c.in-Ok.ensures.images image h);
  part = c.in-Ok.ensures.part ∙ c.loop-file.invariant.part;
}
