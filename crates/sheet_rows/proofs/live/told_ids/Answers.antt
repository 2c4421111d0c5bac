use Rattle.std.proofs.Common.{◌≡◌, ◌<◌, List, length, get_or, true, false, subst}
use Rattle.std.specs.List.{list_all, slice_get}
use Rattle.field_map.specs.Laid.{column_of}
use Rattle.lake_types.specs.declared.limits.TheConstants.{MAX_FIELD}
use Rattle.lake_types.specs.declared.sheet.SheetColumn.{SheetColumn}
use Rattle.sheet_rows.specs.Live.{is_integer}
use Rattle.sheet_rows.proofs.LiveLemmas.{all_told, is_number, missing_told, others_told}
use Rattle.sheet_rows.proofs.live.told_ids.Goals as goal
use Rattle.sheet_rows.proofs.live.told_ids.Goals.{else-is_integer-via-then-is_integer+else-are_numbers, else-is_integer-via-else-is_integer}

pub returns-then-are_numbers-clause-rows : goal.returns-then-are_numbers-clause-rows
returns-then-are_numbers-clause-rows c =
    let at = c.in_ok-at.at in
    let column = c.index-columns-at.result in
    let lt : at < length c.args.sheet.now.columns = subst (λ (cs : List SheetColumn). at < length cs) c.as_slice-columns.ensures c.in_ok-at.ensures.within in
    let is : column ≡ get_or c.args.sheet.now.columns at column = subst (λ (cs : List SheetColumn). column ≡ get_or cs at column) c.as_slice-columns.ensures c.index-columns-at.is in
    let found : slice_get c.args.sheet.now.columns at ≡ column_of c.args.sheet.now.columns MAX_FIELD =
    subst (λ (cs : List SheetColumn). slice_get cs at ≡ column_of cs MAX_FIELD) c.as_slice-columns.ensures c.in_ok-at.ensures.column in
    let integer : is_integer column.ty ≡ true = cc in
    let numbers : list_all is_number column.cells ≡ true = cc in
    λ columns. all_told columns c.args.sheet.now at column lt is found integer c.requires numbers

pub returns-else-is_integer-clause-rows : goal.returns-else-is_integer-clause-rows
returns-else-is_integer-clause-rows c =
    let at = c.in_ok-at.at in
    let column = c.index-columns-at.result in
    let lt : at < length c.args.sheet.now.columns = subst (λ (cs : List SheetColumn). at < length cs) c.as_slice-columns.ensures c.in_ok-at.ensures.within in
    let is : column ≡ get_or c.args.sheet.now.columns at column = subst (λ (cs : List SheetColumn). column ≡ get_or cs at column) c.as_slice-columns.ensures c.index-columns-at.is in
    let found : slice_get c.args.sheet.now.columns at ≡ column_of c.args.sheet.now.columns MAX_FIELD =
    subst (λ (cs : List SheetColumn). slice_get cs at ≡ column_of cs MAX_FIELD) c.as_slice-columns.ensures c.in_ok-at.ensures.column in
    elim c.else-is_integer.branch [
      | else-is_integer-via-then-is_integer+else-are_numbers w ↦
          let integer : is_integer column.ty ≡ true = cc in
          let missing : list_all is_number column.cells ≡ false = cc in
          λ columns. missing_told columns c.args.sheet.now at column lt is found integer c.requires missing
      | else-is_integer-via-else-is_integer w ↦
          let other : is_integer column.ty ≡ false = cc in
          λ columns. others_told columns c.args.sheet.now at column lt is found other
    ]
