use Rattle.std.proofs.Common.{ap, subst, sym, ◌∙◌}
use Rattle.lake_types.specs.declared.sheet.Sheet.{Sheet}
use Rattle.row_files.specs.Fresh.{HoldAllBytes}
use Rattle.row_files.specs.Own.{laid_rows, own_rows}
use Rattle.row_files.proofs.FreshLemmas.{fits_columns, too_heavy, writes}
use Rattle.row_files.proofs.LaidLemmas.{sheet_laid}
use Rattle.row_files.proofs.fresh.prepare.Goals as goal

pub unreachable-requires : goal.unreachable-requires
unreachable-requires c =
    let columns = c.args.columns.now in
    let own = own_rows c.args.own.now c.args.places.now in
    too_heavy columns (laid_rows columns c.args.own.now c.args.places.now) c.in_ok-sheet.sheet (c.in_ok-sheet.ensures ∙ sym (sheet_laid columns own c.requires.columns.differ)) c.requires.columns c.requires.rows c.in_default.ensures.none

pub column_stats-requires : goal.column_stats-requires
column_stats-requires c =
    let columns = c.args.columns.now in
    let own = own_rows c.args.own.now c.args.places.now in
    fits_columns columns (laid_rows columns c.args.own.now c.args.places.now) c.in_ok-sheet.sheet (c.in_ok-sheet.ensures ∙ sym (sheet_laid columns own c.requires.columns.differ)) c.requires.columns c.requires.rows c.as_slice-laid.result.now c.as_slice-laid.ensures

pub write_file-requires : goal.write_file-requires
write_file-requires c =
    let columns = c.args.columns.now in
    let own = own_rows c.args.own.now c.args.places.now in
    writes columns (laid_rows columns c.args.own.now c.args.places.now) c.in_ok-sheet.sheet (c.in_ok-sheet.ensures ∙ sym (sheet_laid columns own c.requires.columns.differ)) c.requires.columns c.requires.rows

pub returns-clause-bytes : goal.returns-clause-bytes
returns-clause-bytes c =
    let columns = c.args.columns.now in
    let own = own_rows c.args.own.now c.args.places.now in
    subst HoldAllBytes (c.as_slice-laid.ensures ∙ ap (λ (s : Sheet). s.columns) (c.in_ok-sheet.ensures ∙ sym (sheet_laid columns own c.requires.columns.differ))) c.columns_hold_bytes.ensures
