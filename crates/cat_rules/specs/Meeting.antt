-- Rows whose intervals have a snapshot in common.
use Rattle.std.specs.Prelude.{Bool, false, Option, Some, None}
use Rattle.cat_tables.specs.Validity.{Validity}
use Rattle.cat_rows.specs.Validities.{table_validity}
use Rattle.cat_rows.specs.declared.schemas.TableRow.{TableRow}
use Rattle.cat_tables.specs.Interval.{interval_of, meets}

abbrev pub rows_meet : {R S : Type 0} → Validity R → Validity S → R → S → Bool
rows_meet v w r q = meets (interval_of v r) (interval_of w q)

-- the table is there, and the intervals of both have a snapshot in common
abbrev pub meets_table : {R : Type 0} → Validity R → R → Option TableRow → Bool
meets_table v r None = false
meets_table v r (Some q) = rows_meet v table_validity r q
