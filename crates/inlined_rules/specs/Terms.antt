-- Rows of columns by their types and intervals alone, which rise by table, column and begin.
use Rattle.std.specs.Prelude.{ℕ, ◌+◌, Bool, false, ◌&&◌, ◌==◌, List, [], ◌∷◌, Option, Some, None, filter}
use Rattle.std.specs.Ordering.{is_lt}
use denote.Enum.Bare.{sameb}
use Rattle.cat_tables.specs.Table.{key_cmp}
use Rattle.cat_tables.specs.Validity.{is_before}
use Rattle.cat_rows.specs.declared.schemas.ColumnRow.{ColumnRow}
use Rattle.lake_types.specs.contracts.value.ColType.{the_type}
use Rattle.lake_types.specs.declared.value.ColType.{ColType}
use Rattle.cat_rules.specs.Lookups.{last}
use Rattle.cat_texts.specs.Types.{type_of}
use Rattle.cat_tables.specs.declared.interval.Interval.{Interval}
use Rattle.inlined_rules.specs.declared.terms.Term.{Term}

abbrev pub term_of : ColumnRow → Term
term_of c =
    record { table_id = c.table_id; column_id = c.column_id; begin = c.begin_snapshot; end = c.end_snapshot; column_type = type_of c.column_type }

abbrev pub term_key : Term → List ℕ
term_key x = x.table_id ∷ x.column_id ∷ x.begin ∷ []

abbrev pub is_type : ColType → Option ColType → Bool
is_type t None = false
is_type t (Some own) = sameb the_type own t

abbrev pub is_of_type : ColType → Term → Bool
is_of_type t x = is_type t x.column_type

abbrev pub is_of_column : ℕ → ℕ → Term → Bool
is_of_column table column x = (x.table_id == table) && (x.column_id == column)

-- a key past the terms of the column that begin before the end, and not past its other ones
abbrev pub limit_of : ℕ → ℕ → Option ℕ → List ℕ
limit_of table column None = table ∷ (column + 1) ∷ 0 ∷ []
limit_of table column (Some end) = table ∷ column ∷ end ∷ []

abbrev pub is_below : List ℕ → Term → Bool
is_below limit x = is_lt (key_cmp (term_key x) limit)

abbrev pub last_below : List ℕ → List Term → Option Term
last_below limit terms = last (filter (is_below limit) terms)

-- the term is of the column, and ends past the begin
abbrev pub lasts : ℕ → ℕ → ℕ → Option Term → Bool
lasts table column begin None = false
lasts table column begin (Some x) = is_of_column table column x && is_before begin x.end

-- the last term of the column that begins before the stay's end ends past its begin
abbrev pub are_met : ℕ → ℕ → Interval → List Term → Bool
are_met table column stay terms = lasts table column stay.begin (last_below (limit_of table column stay.end) terms)
