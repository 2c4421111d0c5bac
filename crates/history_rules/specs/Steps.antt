-- What single steps of the test of intervals answer.
use Rattle.std.specs.Prelude.{◌==◌, ◌&&◌, ◌||◌, Bool, Option, Some, None}
use Rattle.cat_tables.specs.Validity.{is_before}
use Rattle.cat_rows.specs.Validities.{column_validity}
use Rattle.cat_rows.specs.declared.schemas.ColumnRow.{ColumnRow}
use Rattle.cat_rules.specs.IntervalRule.{is_misdated}
use Rattle.cat_rules.specs.declared.kept.Kept.{Kept}

-- a row of the same column begins before this one has ended
abbrev pub is_too_soon : ColumnRow → ColumnRow → Bool
is_too_soon last c = (last.table_id == c.table_id) && ((last.column_id == c.column_id) && is_before c.begin_snapshot last.end_snapshot)

-- a row is wrong by itself, or by the row that stands before it
abbrev pub is_wrong : Kept → Option ColumnRow → ColumnRow → Bool
is_wrong kept None c = is_misdated kept column_validity c
is_wrong kept (Some last) c = is_misdated kept column_validity c || is_too_soon last c
