use Rattle.std.proofs.Common.{◌≡◌, ◌==◌, true}
use Rattle.std.specs.List.{list_any}
use Rattle.cat_rows.specs.Batches.{tables_of}
use Rattle.cat_rows.specs.declared.files.DataFileRow.{DataFileRow}
use Rattle.cat_view.specs.Held.{held_in}
use Rattle.cat_view.specs.LiveFiles.{CanBeLive}
use Rattle.cat_view.proofs.FileLemmas.{all_known}
use Rattle.cat_view.proofs.PlaceLemmas.{row_has}
use Rattle.cat_view.proofs.files.files_at.Goals as goal

pub add_file-requires-clause-known : goal.add_file-requires-clause-known
add_file-requires-clause-known g c =
    let t = tables_of c.args.rows.now in
    let p = c.args.places.now in
    row_has (λ (r : DataFileRow). list_any (λ id. id == r.data_file_id) p.ids.items ≡ true) t.data_file c.args.chosen.now c.loop-at.at _ (rw c.data_file.ensures.rows at c.row_at-row.ensures.left) (all_known t p c.args.chosen.now c.requires.places)

pub add_file-requires-clause-readable : goal.add_file-requires-clause-readable
add_file-requires-clause-readable g c =
    let t = tables_of c.args.rows.now in
    let p = c.args.places.now in
    row_has (CanBeLive g.F.Held.name (held_in c.args.held.now).rows p.snapshot t c.args.columns.now) t.data_file c.args.chosen.now c.loop-at.at _ (rw c.data_file.ensures.rows at c.row_at-row.ensures.left) c.requires.readable
