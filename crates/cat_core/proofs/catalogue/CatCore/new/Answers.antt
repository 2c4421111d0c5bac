use Rattle.cat_rows.specs.Batches.{tables_of}
use Rattle.cat_core.proofs.StartLemmas.{none_opened, stands_begun, told_closed}
use Rattle.cat_core.specs.Shown.{held_at, opened_slot}
use Rattle.std.proofs.Common.{None, sym}
use Rattle.cat_core.proofs.catalogue.CatCore.new.Goals as goal

pub returns-clause-stands : goal.returns-clause-stands
returns-clause-stands g c = λ files first versions sound there named.
    stands_begun (tables_of c.args.rows) files first versions sound c.in-Some.start (sym c.in-Some.ensures)
    (held_at g.F.Held.name g.F.Held.size g.F.Held.bytes c.args.held) c.new.result.items _ None c.note_order.ensures c.new.ensures.items
    (told_closed (opened_slot g.F.Held.name g.F.Held.size g.F.Held.bytes) c.in-Ok.slots.items c.in-Ok.ensures) there named

pub returns-clause-closed : goal.returns-clause-closed
returns-clause-closed g c = λ session.
    none_opened _ session (told_closed (opened_slot g.F.Held.name g.F.Held.size g.F.Held.bytes) c.in-Ok.slots.items c.in-Ok.ensures)
