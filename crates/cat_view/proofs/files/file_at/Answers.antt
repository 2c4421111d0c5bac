use Rattle.std.proofs.Common.{◌∙◌, sym, ap, subst}
use Rattle.std.specs.Prelude.{IfSome}
use Rattle.std.specs.List.{slice_get}
use Rattle.cat_rows.specs.Batches.{tables_of}
use Rattle.cat_rows.specs.declared.files.DeleteFileRow.{DeleteFileRow}
use Rattle.cat_view.specs.Held.{IsHeld, held_in}
use Rattle.cat_view.specs.Owners.{delete_file_owner, stats_owner}
use Rattle.cat_view.specs.Stats.{AreRead}
use Rattle.cat_view.proofs.FileLemmas.{live_is}
use Rattle.cat_view.proofs.GroupLemmas.{as_many_groups, grouped}
use Rattle.cat_view.proofs.files.file_at.Goals as goal

pub group_of-deletes-requires-clause-same : goal.group_of-deletes-requires-clause-same
group_of-deletes-requires-clause-same g c =
    let p = c.args.places.now in
    as_many_groups (delete_file_owner p.snapshot) (tables_of c.args.rows.now).delete_file p.ids.items p.deletes.items c.requires.places.deletes_are _ _ c.as_slice-ids.ensures.value c.as_slice.ensures.value

pub group_of-told-requires-clause-same : goal.group_of-told-requires-clause-same
group_of-told-requires-clause-same g c =
    let p = c.args.places.now in
    as_many_groups (stats_owner p.snapshot) (tables_of c.args.rows.now).file_column_stats p.ids.items p.stats.items c.requires.places.stats_are _ _ c.as_slice-ids.ensures.value c.as_slice-2.ensures.value

pub live_file-requires-clause-delete : goal.live_file-requires-clause-delete
live_file-requires-clause-delete g c =
    let t = tables_of c.args.rows.now in
    let p = c.args.places.now in
    let gone = grouped (delete_file_owner p.snapshot) t.delete_file c.args.row.now.data_file_id p.ids.items p.deletes.items c.requires.known c.requires.places.deletes_are _ _ _ _ c.delete_file.ensures.rows c.group_of-deletes.ensures c.as_slice-ids.ensures.value c.as_slice.ensures.value in
    subst (λ o. IfSome o (λ (d : DeleteFileRow). IsHeld g.F.Held.name (held_in c.args.held.now).rows d.path)) (sym (c.first_at-delete.ensures ∙ ap (λ rs. slice_get rs 0) gone)) c.requires.readable.deletes

pub returns : goal.returns
returns g c =
    let t = tables_of c.args.rows.now in
    let p = c.args.places.now in
    let row = c.args.row.now in
    let gone = grouped (delete_file_owner p.snapshot) t.delete_file row.data_file_id p.ids.items p.deletes.items c.requires.known c.requires.places.deletes_are _ _ _ _ c.delete_file.ensures.rows c.group_of-deletes.ensures c.as_slice-ids.ensures.value c.as_slice.ensures.value in
    let told = grouped (stats_owner p.snapshot) t.file_column_stats row.data_file_id p.ids.items p.stats.items c.requires.known c.requires.places.stats_are _ _ _ _ c.file_column_stats.ensures.rows c.group_of-told.ensures c.as_slice-ids.ensures.value c.as_slice-2.ensures.value in
    live_is g.F.Held.name (held_in c.args.held.now).rows p.snapshot t c.args.columns.now g.F.Held.size g.F.Held.part g.F.Held.bytes c.live_file.result row _ c.in_ok-stats.stats
    c.live_file.ensures.named c.live_file.ensures.stats c.live_file.ensures.copies
    (c.first_at-delete.ensures ∙ ap (λ rs. slice_get rs 0) gone)
    (subst (λ rs. AreRead c.args.columns.now row.record_count rs c.in_ok-stats.stats) told c.in_ok-stats.ensures)
