-- Rule 3, on validity intervals: they lie within the kept snapshots, and those of one column don't overlap.
use Rattle.std.specs.Prelude.{◌≡◌, ◌⊎◌, ◌||◌, ℕ, Bool, true, false, List, Option, Some, None, nat_le, nat_lt}
use Rattle.cat_tables.specs.Table.{IsBelow}
use Rattle.cat_tables.specs.Validity.{Validity, is_visible}
use Rattle.cat_rows.specs.Keys.{column_key}
use Rattle.cat_rows.specs.Tables.{Tables}
use Rattle.cat_rows.specs.Validities.{schema_validity, table_validity, column_validity, data_file_validity, delete_file_validity, inlined_row_validity}
use Rattle.cat_rows.specs.declared.batch.Key.{Key}
use Rattle.cat_rows.specs.declared.schemas.ColumnRow.{ColumnRow}
use Rattle.cat_rules.specs.Places.{of_schema, of_table, of_column, of_data_file, of_delete_file, of_inlined}
use Rattle.cat_rules.specs.Rows.{SomeOf, Names, NamesIf}
use Rattle.cat_rules.specs.Kept.{kept_of}
use Rattle.cat_rules.specs.declared.kept.Kept.{Kept}

-- an end isn't past its begin, or not past the first kept snapshot, or past the newest
abbrev pub ends_wrong : Kept → ℕ → Option ℕ → Bool
ends_wrong kept begin None = false
ends_wrong kept begin (Some end) = nat_le end begin || (nat_le end kept.first || nat_lt kept.newest end)

-- the row begins past the newest snapshot, or ends wrong
abbrev pub is_misdated : {R : Type 0} → Kept → Validity R → R → Bool
is_misdated kept v r = nat_lt kept.newest (v.begin r) || ends_wrong kept (v.begin r) (v.end r)

-- an earlier row of the same column, and some number is in both intervals
abbrev pub Overlaps : ColumnRow → ColumnRow → Type 0
Overlaps c q =
    IsBelow column_key q c × (q.table_id ≡ c.table_id) × (q.column_id ≡ c.column_id)
    × ((s : ℕ) × (is_visible column_validity s q ≡ true) × (is_visible column_validity s c ≡ true))

abbrev pub IsWronglyDated : Kept → List ColumnRow → ColumnRow → Type 0
IsWronglyDated kept columns c = (is_misdated kept column_validity c ≡ true) ⊎ SomeOf (Overlaps c) columns

-- Each begin is at most the newest snapshot; an end is past its begin, past the first kept snapshot and at most the
-- newest; and intervals of one column don't overlap.
abbrev pub IsIntervalBad : Tables → Key → Type 0
IsIntervalBad t k =
    let kept = kept_of t.snapshot in
    NamesIf of_schema (is_misdated kept schema_validity) t.schema k
    ⊎ (NamesIf of_table (is_misdated kept table_validity) t.table k
    ⊎ (Names of_column (IsWronglyDated kept t.column) t.column k
    ⊎ (NamesIf of_data_file (is_misdated kept data_file_validity) t.data_file k
    ⊎ (NamesIf of_delete_file (is_misdated kept delete_file_validity) t.delete_file k
    ⊎ NamesIf of_inlined (is_misdated kept inlined_row_validity) t.inlined_row k))))
