use Rattle.std.proofs.Common.{take}
use Rattle.cat_rows.specs.Batches.{tables_of}
use Rattle.cat_view.specs.Building.{AreTableViews}
use Rattle.cat_view.specs.Held.{held_in}
use Rattle.cat_view.proofs.versions.tables_at.Given as goal

-- the tables of the heads so far
abbrev pub invariant-loop-at : goal.invariant-loop-at
invariant-loop-at g l =
    let h = g.F.Held in
    AreTableViews h.name (held_in l.held).rows l.files.snapshot (tables_of l.rows) h.size h.part h.bytes (take l.at l.heads) l.tables.items
