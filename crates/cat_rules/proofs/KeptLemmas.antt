-- The newest snapshot is the last of them.
use Rattle.std.proofs.Common.{◌≡◌, suc, ◌-◌, List, [], ◌∷◌, length, refl, sym, ap, ◌∙◌, arith}
use Rattle.std.specs.Prelude.{slice_get}
use Rattle.cat_rows.specs.declared.history.SnapshotRow.{SnapshotRow}
use Rattle.cat_rules.specs.Kept.{newest}

pub newest_is_last : (rows : List SnapshotRow) → slice_get rows (length rows - 1) ≡ newest rows
newest_is_last [] = refl
newest_is_last (r ∷ []) = refl
newest_is_last (r ∷ q ∷ rs) =
    let here : suc (suc (length rs)) - 1 ≡ suc (length rs) = omega arith in
    let behind : suc (length rs) - 1 ≡ length rs = omega arith in
    ap (slice_get (r ∷ q ∷ rs)) here ∙ sym (ap (slice_get (q ∷ rs)) behind) ∙ newest_is_last (q ∷ rs)
