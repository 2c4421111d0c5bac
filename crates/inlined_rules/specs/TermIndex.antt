-- The terms of column rows, by type.
use Rattle.std.specs.Prelude.{List, filter, map}
use Rattle.cat_rows.specs.declared.schemas.ColumnRow.{ColumnRow}
use Rattle.lake_types.specs.declared.value.ColType.{ColType}
use Rattle.cat_texts.specs.Types.{types}
use Rattle.inlined_rules.specs.Terms.{is_of_type, term_of}
use Rattle.inlined_rules.specs.declared.term_index.TypedTerms.{TypedTerms}
use Rattle.inlined_rules.specs.declared.terms.Term.{Term}

abbrev pub typed_terms : List Term → ColType → TypedTerms
typed_terms terms t = record { column_type = t; terms = filter (is_of_type t) terms }

abbrev pub index_of_terms : List Term → List TypedTerms
index_of_terms terms = map (typed_terms terms) types

abbrev pub index_of : List ColumnRow → List TypedTerms
index_of rows = index_of_terms (map term_of rows)
