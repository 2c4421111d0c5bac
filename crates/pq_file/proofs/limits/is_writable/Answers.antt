use Rattle.std.proofs.Common.{◌≤◌, List, length, subst, refl}
use Rattle.std.specs.Prelude.{All, AllPairs}
use Rattle.std.specs.List.{sum_by}
use Rattle.lake_types.specs.declared.sheet.Sheet.{Sheet}
use Rattle.lake_types.specs.declared.sheet.SheetColumn.{SheetColumn}
use Rattle.pq_file.specs.Writable.{HasCells, IsColumn, OtherField, column_weight}
use Rattle.pq_file.proofs.limits.is_writable.Goals as goal

pub returns-then-is_small : goal.returns-then-is_small
returns-then-is_small c =
    let sheet : Sheet = c.args.sheet.now in
    let P : List SheetColumn → Type 0 = λ columns. (sheet.rows ≤ 4194304) × (length columns ≤ 101) × (sum_by column_weight columns ≤ 1073741824) in
    let small : P sheet.columns = subst P c.as_slice-columns.ensures (c.if-is_small.ensures.0 refl) in
    let Q : List SheetColumn → Type 0 = λ columns. All (HasCells sheet.rows) columns × All IsColumn columns × AllPairs OtherField columns in
    record {
      exact = (
        λ yes. (let fit : Q sheet.columns = subst Q c.as_slice-columns.ensures (c.columns_fit.ensures.0 yes) in
            record { few_rows = small.0; few_columns = small.1; counts = fit.0; columns = fit.1; fields = fit.2; light = small.2 }),
        λ can. (let fit : Q sheet.columns = (can.counts, can.columns, can.fields) in c.columns_fit.ensures.1 (rw c.as_slice-columns.ensures fit)),
      );
    }
