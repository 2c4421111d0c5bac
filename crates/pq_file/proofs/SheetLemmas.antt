-- The columns of a sheet, one turn of a loop at a time, and how many rows there are.
use Rattle.std.proofs.Common.{◌≡◌, ℕ, ◌-◌, ◌<◌, ◌≤◌, ◌^◌, min, List, [], ◌∷◌, ◌++◌, sym, ◌∙◌, append_assoc, arith}
use Rattle.std.specs.List.{sum_by}
use Rattle.lake_types.specs.declared.sheet.SheetColumn.{SheetColumn}
use Rattle.pq_meta.specs.declared.meta.MetaGroup.{MetaGroup}
use Rattle.pq_meta.specs.Groups.{rows_of}
use Rattle.pq_file.specs.declared.parts.Part.{Part}
use Rattle.pq_file.specs.Reading.{beside, stated_rows}

pub beside_goes_on : (front columns columns' : List SheetColumn) (parts parts' : List Part) (column longer : SheetColumn) (total : List SheetColumn)
    → columns ≡ column ∷ columns' → ((more : List SheetColumn) → beside (column ∷ more) parts ≡ longer ∷ beside more parts')
    → front ++ beside columns parts ≡ total → (front ++ longer ∷ []) ++ beside columns' parts' ≡ total
beside_goes_on front columns columns' parts parts' column longer total is next so_far =
    let one : front ++ beside columns parts ≡ (front ++ longer ∷ []) ++ beside columns' parts' = rw (is, next columns') (simp append_assoc) in
    sym one ∙ so_far

-- the groups of a file with few rows have few together
pub few_stated : (groups : List MetaGroup) (rows : ℕ) → rows_of groups ≡ rows → rows ≤ 4194304 → sum_by stated_rows groups < 2 ^ 63
few_stated groups rows is few = let all : min (sum_by stated_rows groups) (2 ^ 64 - 1) ≡ rows = is in omega arith
