-- What holds of the ids in a plain state.
use Rattle.std.specs.List.{AllByRecursion}
use Rattle.lake_model.specs.Laws.{HasCatalogIds, HasFieldIds, HasRowIds}
use Rattle.lake_model.specs.State.{State}

-- ids of schemas and of tables, and in each table row ids and field ids, rise and lie below their counters
pub record HasIds (s : State) : Type 0 where
  pub catalog : HasCatalogIds s
  pub rows : AllByRecursion HasRowIds s.tables
  pub fields : AllByRecursion HasFieldIds s.tables
