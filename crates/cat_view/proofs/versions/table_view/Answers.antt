use Rattle.std.proofs.Common.{refl, sym, subst}
use Rattle.std.specs.List.{AllByRecursion, AllZip}
use Rattle.cat_rows.specs.Batches.{tables_of}
use Rattle.cat_texts.specs.Spelled.{IsColumnOf}
use Rattle.cat_view.specs.Columns.{SpellsColumn, in_order}
use Rattle.cat_view.specs.Groups.{rows_at}
use Rattle.cat_view.specs.Held.{held_in}
use Rattle.cat_view.specs.Inlined.{AreInlined, SpellsCells}
use Rattle.cat_view.specs.LiveFiles.{AreLive, CanBeLive}
use Rattle.cat_view.specs.Owners.{column_owner, data_file_owner, inlined_owner}
use Rattle.cat_view.proofs.BuildLemmas.{can_live}
use Rattle.cat_view.proofs.GroupLemmas.{as_many_groups, grouped}
use Rattle.cat_view.proofs.versions.table_view.Goals as goal

pub group_of-requires-clause-same : goal.group_of-requires-clause-same
group_of-requires-clause-same g c =
    let p = c.args.places.now in
    as_many_groups (column_owner c.args.files.now.snapshot) (tables_of c.args.rows.now).column p.ids.items p.columns.items c.requires.places.columns_are _ _ c.as_slice-ids.ensures.value c.as_slice.ensures.value

pub group_of-data-requires-clause-same : goal.group_of-data-requires-clause-same
group_of-data-requires-clause-same g c =
    let p = c.args.places.now in
    as_many_groups (data_file_owner c.args.files.now.snapshot) (tables_of c.args.rows.now).data_file p.ids.items p.data_files.items c.requires.places.data_files_are _ _ c.as_slice-ids.ensures.value c.as_slice-2.ensures.value

pub group_of-requires-2-clause-same : goal.group_of-requires-2-clause-same
group_of-requires-2-clause-same g c =
    let p = c.args.places.now in
    as_many_groups (inlined_owner c.args.files.now.snapshot) (tables_of c.args.rows.now).inlined_row p.ids.items p.inlined.items c.requires.places.inlined_are _ _ c.as_slice-ids.ensures.value c.as_slice-4.ensures.value

pub columns_at-requires : goal.columns_at-requires
columns_at-requires g c =
    let t = tables_of c.args.rows.now in
    let p = c.args.places.now in
    let s = c.args.files.now.snapshot in
    let own = grouped (column_owner s) t.column c.args.head.id p.ids.items p.columns.items c.requires.known c.requires.places.columns_are _ _ _ _ c.column.ensures.rows c.group_of.ensures c.as_slice-ids.ensures.value c.as_slice.ensures.value in
    subst (AllByRecursion SpellsColumn) (sym own) c.requires.ready.columns

pub files_at-requires-clause-readable : goal.files_at-requires-clause-readable
files_at-requires-clause-readable g c =
    let t = tables_of c.args.rows.now in
    let p = c.args.places.now in
    let s = c.args.files.now.snapshot in
    let id = c.args.head.id in
    let name = g.F.Held.name in
    let held = (held_in c.args.held.now).rows in
    let own = grouped (data_file_owner s) t.data_file id p.ids.items p.data_files.items c.requires.known c.requires.places.data_files_are t.data_file _ _ _ refl c.group_of-data.ensures c.as_slice-ids.ensures.value c.as_slice-2.ensures.value in
    subst (AllByRecursion (CanBeLive name held s t c.as_slice-3.result.now)) (sym own) (can_live name held t s c.requires.readable id c.as_slice-3.result.now)

pub inlined_at-requires : goal.inlined_at-requires
inlined_at-requires g c =
    let t = tables_of c.args.rows.now in
    let p = c.args.places.now in
    let s = c.args.files.now.snapshot in
    let own = grouped (inlined_owner s) t.inlined_row c.args.head.id p.ids.items p.inlined.items c.requires.known c.requires.places.inlined_are _ _ _ _ c.inlined_row.ensures.rows c.group_of-2.ensures c.as_slice-ids.ensures.value c.as_slice-4.ensures.value in
    subst (AllByRecursion SpellsCells) (sym own) c.requires.ready.inlined

pub returns : goal.returns
returns g c =
    let t = tables_of c.args.rows.now in
    let p = c.args.places.now in
    let s = c.args.files.now.snapshot in
    let id = c.args.head.id in
    let h = g.F.Held in
    let held = (held_in c.args.held.now).rows in
    let cols = grouped (column_owner s) t.column id p.ids.items p.columns.items c.requires.known c.requires.places.columns_are _ _ _ _ c.column.ensures.rows c.group_of.ensures c.as_slice-ids.ensures.value c.as_slice.ensures.value in
    let files = grouped (data_file_owner s) t.data_file id p.ids.items p.data_files.items c.requires.known c.requires.places.data_files_are t.data_file _ _ _ refl c.group_of-data.ensures c.as_slice-ids.ensures.value c.as_slice-2.ensures.value in
    let rows = grouped (inlined_owner s) t.inlined_row id p.ids.items p.inlined.items c.requires.known c.requires.places.inlined_are _ _ _ _ c.inlined_row.ensures.rows c.group_of-2.ensures c.as_slice-ids.ensures.value c.as_slice-4.ensures.value in
    record {
      head_is = refl;
      columns = subst (λ rs. AllZip IsColumnOf (in_order rs) c.in_ok-columns.columns) cols c.in_ok-columns.ensures;
      files =
          subst (λ rs. AreLive h.name held s t c.in_ok-columns.columns h.size h.part h.bytes rs c.in_ok-files.files.items) files
          (subst (λ cs. AreLive h.name held s t cs h.size h.part h.bytes (rows_at t.data_file c.group_of-data.result.now) c.in_ok-files.files.items) c.as_slice-3.ensures c.in_ok-files.ensures);
      inlined =
          subst (λ rs. AreInlined c.in_ok-columns.columns rs c.in_ok-inlined.inlined.items) rows
          (subst (λ cs. AreInlined cs (rows_at c.inlined_row.result.now c.group_of-2.result.now) c.in_ok-inlined.inlined.items) c.as_slice-5.ensures c.in_ok-inlined.ensures);
      counters = c.counters_of-next_row.ensures;
    }
