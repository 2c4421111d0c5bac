-- When an inlined row and its table are valid together.
use Rattle.std.specs.Prelude.{Option, Some, None, if◌then◌else◌}
use Rattle.cat_tables.specs.Interval.{common, interval_of}
use Rattle.cat_tables.specs.Validity.{is_before}
use Rattle.cat_tables.specs.declared.interval.Interval.{Interval}
use Rattle.cat_rows.specs.Validities.{inlined_row_validity, table_validity}
use Rattle.cat_rows.specs.declared.inlined.InlinedRow.{InlinedRow}
use Rattle.cat_rows.specs.declared.schemas.TableRow.{TableRow}

-- what both intervals hold, where that isn't empty
abbrev pub stay_with : InlinedRow → TableRow → Option Interval
stay_with r q =
    let both = common (interval_of inlined_row_validity r) (interval_of table_validity q) in
    if is_before both.begin both.end then Some both else None

abbrev pub stay_of : InlinedRow → Option TableRow → Option Interval
stay_of r None = None
stay_of r (Some q) = stay_with r q
