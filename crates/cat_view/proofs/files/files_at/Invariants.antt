use Rattle.std.proofs.Common.{take}
use Rattle.cat_rows.specs.Batches.{tables_of}
use Rattle.cat_view.specs.Groups.{rows_at}
use Rattle.cat_view.specs.Held.{held_in}
use Rattle.cat_view.specs.LiveFiles.{AreLive}
use Rattle.cat_view.proofs.files.files_at.Given as goal

-- the files of the rows at the places so far
abbrev pub invariant-loop-at : goal.invariant-loop-at
invariant-loop-at g l =
    let h = g.F.Held in
    let t = tables_of l.rows in
    AreLive h.name (held_in l.held).rows l.places.snapshot t l.columns h.size h.part h.bytes (rows_at t.data_file (take l.at l.chosen)) l.files.items
