use Rattle.std.proofs.Common.{ap, arith, ◌∙◌}
use Rattle.cat_view.specs.Held.{held_in}
use Rattle.row_files.proofs.LeftLemmas.{same_twice}
use Rattle.recover.specs.Holding.{named_data}
use Rattle.recover.proofs.HoldLemmas.{next_row, why_row}
use Rattle.recover.proofs.holding.hold_data_files.Goals as goal

pub returns-in-Err-clause-refused : goal.returns-in-Err-clause-refused
returns-in-Err-clause-refused g c =
    let h = g.D.File.Held in
    let d = g.D.FileDisk in
    why_row h.name h.size h.bytes named_data c.args.rows.now c.loop-row.row-index c.row-item.result (named_data c.row-item.result)
    (d.faults c.args.disk.now) (d.faults c.loop-row.disk) (d.faults c.hold_named.new.disk) (d.files c.args.disk.now) (d.files c.loop-row.disk)
    (held_in c.args.held.now).rows (held_in c.loop-row.held).rows c.in-Err.why c.loop-row-test.true (ap named_data c.row-item.is)
    c.loop-row.invariant.later c.loop-row.invariant.files c.loop-row.invariant.holds c.in-Err.ensures.refused

pub loop-row-preserved : goal.loop-row-preserved
loop-row-preserved g c =
    let h = g.D.File.Held in
    let d = g.D.FileDisk in
    let i = c.loop-row.invariant in
    let e = c.in-Ok.ensures in
    record {
      holds =
          next_row h.name h.size h.bytes named_data c.args.rows.now c.loop-row.row-index c.row-item.result (named_data c.row-item.result)
          (d.files c.args.disk.now) (d.files c.loop-row.disk) (d.files c.hold_named.new.disk)
          (held_in c.args.held.now).rows (held_in c.loop-row.held).rows (held_in c.hold_named.new.held).rows c.loop-row-test.true (ap named_data c.row-item.is)
          i.files i.holds e.holds;
      later = omega (arith, i.later, e.later);
      files = same_twice (d.files c.args.disk.now) (d.files c.loop-row.disk) (d.files c.hold_named.new.disk) i.files e.files;
      images = λ image is. i.images image (e.images image is);
      opens = e.opens ∙ i.opens;
      part = e.part ∙ i.part;
    }
