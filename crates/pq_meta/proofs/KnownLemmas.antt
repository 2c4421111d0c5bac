-- The field ids of columns, with one column more.
use Rattle.std.proofs.Common.{◌≡◌, ℕ, List, [], ◌∷◌, ◌++◌, false, ◌||◌}
use Rattle.std.proofs.lemmas.List.Folds.{list_any-append}
use Rattle.pq_meta.specs.declared.meta.MetaColumn.{MetaColumn}
use Rattle.pq_meta.specs.Columns.{is_field_of, has_field}

pub has_field-more : (columns : List MetaColumn) (column : MetaColumn) (id : ℕ) → has_field (columns ++ column ∷ []) id ≡ (has_field columns id || (is_field_of id column.field || false))
has_field-more columns column id = list_any-append (λ (c : MetaColumn). is_field_of id c.field) columns (column ∷ [])

pub ruleset known = (has_field-more)
