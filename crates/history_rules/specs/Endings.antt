-- The names that are kept for each snapshot at which schemas end.
use Rattle.std.specs.Prelude.{ℕ, List, [], Option, Some, None}
use Rattle.std.specs.Ordering.{nat_cmp}
use Rattle.std.specs.BTreeMap.{BTreeMap, get}
use Rattle.lake_types.specs.declared.kind.SchemaName.{SchemaName}

-- no names for a snapshot at which none end
abbrev pub names_in : Option (List SchemaName) → List SchemaName
names_in None = []
names_in (Some names) = names

abbrev pub names_at : BTreeMap ℕ (List SchemaName) → ℕ → List SchemaName
names_at endings n = names_in (get nat_cmp endings n)
