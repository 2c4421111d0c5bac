-- The groups in which inlined rows are counted.
use Rattle.std.specs.Prelude.{ℕ, List, [], ◌∷◌}
use Rattle.cat_rows.specs.declared.inlined.InlinedRow.{InlinedRow}

abbrev pub group_by_begin : InlinedRow → List ℕ
group_by_begin r = r.table_id ∷ r.begin_snapshot ∷ []
