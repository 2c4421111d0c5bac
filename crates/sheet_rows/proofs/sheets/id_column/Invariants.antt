use Rattle.std.proofs.Common.{◌≡◌, map, pos, take}
use Rattle.lake_types.specs.declared.value.Value.TheVariants as value
use Rattle.sheet_rows.proofs.sheets.id_column.Given as goal

abbrev pub invariant-loop-id : goal.invariant-loop-id
invariant-loop-id l = l.cells ≡ map (λ id. value.Int (pos id)) (take l.id-index l.ids)
