-- Rows that are one too many in their group.
use Rattle.std.specs.Prelude.{ℕ, List, map, Option, Some, None, max}
use Rattle.cat_tables.specs.Interval.{common, from, interval_of}
use Rattle.cat_tables.specs.declared.interval.Interval.{Interval}
use Rattle.cat_rows.specs.Tables.{Tables}
use Rattle.cat_rows.specs.Validities.{table_validity}
use Rattle.cat_rows.specs.declared.schemas.TableRow.{TableRow}
use Rattle.cat_rules.specs.Lookups.{table_of}
use Rattle.std.specs.List.{slice_get}
use Rattle.std.specs.Option.{option_map}
use Rattle.cat_rows.specs.declared.batch.Key.{Key}
use Rattle.cat_rows.specs.Places.{place}
use Rattle.cat_spans.specs.Spans.{Extent, HasGap, IsRowPast}
use Rattle.cat_tables.specs.Validity.{Validity}

-- The row covers a number that as many sooner rows of its group cover as may.
abbrev pub IsCrowded : {R : Type 0} → (R → Key) → (R → Extent) → ℕ → List R → R → Type 0
IsCrowded name extent limit rows r = IsRowPast (λ q. place (name q)) extent limit rows r

-- The row covers a number that none of the others covers, in its group.
abbrev pub IsBare : {R S : Type 0} → (R → Extent) → (S → Extent) → List S → R → Type 0
IsBare extent other_extent others r = HasGap (map other_extent others) (extent r)

-- the key that the row at a place names
abbrev pub name_at : {R : Type 0} → (R → Key) → List R → Option ℕ → Option Key
name_at name rows None = None
name_at name rows (Some i) = option_map name (slice_get rows i)

-- A row covers in its group the snapshots at which it is valid, from the first kept one on.
abbrev pub extent_of : {R : Type 0} → ℕ → Validity R → (R → List ℕ) → R → Extent
extent_of first v group r = record { group = group r; begin = max first (v.begin r); end = v.end r }

-- the snapshots, from the first kept one on, at which both a row and its table are valid
abbrev pub extent_within : ℕ → List ℕ → Interval → Option TableRow → Extent
extent_within first group i None = record { group = group; begin = 0; end = Some 0 }
extent_within first group i (Some r) =
    let both = from first (common i (interval_of table_validity r)) in
    record { group = group; begin = both.begin; end = both.end }

abbrev pub extent_with : {R : Type 0} → Tables → ℕ → Validity R → (R → ℕ) → (R → List ℕ) → R → Extent
extent_with t first v table group r = extent_within first (group r) (interval_of v r) (table_of t (table r))
