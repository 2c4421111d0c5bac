use Rattle.std.proofs.Common.{◌≡◌, ℕ, ◌+◌, ◌∷◌, ◌++◌, List, length, drop, arith}
use Rattle.lake_types.specs.declared.sheet.SheetColumn.{SheetColumn}
use Rattle.pq_file.specs.Canonical.{group_at, group_bytes}
use Rattle.pq_file.specs.Cuts.{cuts, row_weights}
use Rattle.pq_file.proofs.GroupLemmas.{all_texts, group_bytes_end, group_bytes_go_on, groups_end, groups_go_on, more_texts, row_light}
use Rattle.pq_file.proofs.writing.push_groups.Goals as goal

pub group_rows-count-requires-clause-light : goal.group_rows-count-requires-clause-light
group_rows-count-requires-clause-light c row = rw c.as_slice-columns.ensures (omega (arith, row_light c.args.sheet.now.columns row, c.requires.light, c.requires.few_columns))

pub returns-clause-bytes : goal.returns-clause-bytes
returns-clause-bytes c =
    group_bytes_end c.args.sheet.now.columns c.loop-row.row c.args.sheet.now.rows c.loop-row.out.items _ c.loop-row.invariant.0 c.loop-row-test.false c.loop-row.invariant.1

pub returns-clause-groups : goal.returns-clause-groups
returns-clause-groups c =
    groups_end c.args.sheet.now.columns c.loop-row.row c.args.sheet.now.rows (length c.loop-row.out.items) c.loop-row.groups _ c.loop-row.invariant.0 c.loop-row-test.false c.loop-row.invariant.2

pub returns-clause-texts : goal.returns-clause-texts
returns-clause-texts c =
    all_texts c.args.sheet.now.columns c.loop-row.row c.args.sheet.now.rows c.loop-row.invariant.0 c.loop-row-test.false c.requires.counts c.loop-row.invariant.3

pub loop-row-preserved : goal.loop-row-preserved
loop-row-preserved c =
    let columns : List SheetColumn = c.args.sheet.now.columns in
    let row : ℕ = c.loop-row.row in
    let count : ℕ = c.group_rows-count.result in
    let weights : List ℕ = row_weights columns c.args.sheet.now.rows in
    let cut : cuts (drop row weights) ≡ count ∷ cuts (drop (row + count) weights) = rw (← c.as_slice-columns.ensures) c.group_rows-count.ensures.cut in
    let grown : c.push_group.new.out.items ≡ c.loop-row.out.items ++ group_bytes columns row count = rw (← c.as_slice-columns.ensures) c.in_ok-push_group.ensures.bytes in
    let placed : c.in_ok-push_group.field-0 ≡ group_at row count (length c.loop-row.out.items) columns = rw (← c.as_slice-columns.ensures) c.in_ok-push_group.ensures.group in (
      c.group_rows-count.ensures.within,
      group_bytes_go_on columns row count _ _ c.loop-row.out.items c.push_group.new.out.items _ cut grown c.loop-row.invariant.1,
      rw c.in_ok-push.ensures.ok
          (groups_go_on columns row count _ _ c.loop-row.out.items c.push_group.new.out.items c.loop-row.groups _ c.in_ok-push_group.field-0 cut grown placed c.loop-row.invariant.2),
      more_texts columns row count c.loop-row.invariant.3 (rw (← c.as_slice-columns.ensures) c.in_ok-push_group.ensures.texts),
    )
