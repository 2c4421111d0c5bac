use Rattle.std.proofs.Common.{◌≡◌, ℕ, drop}
use Rattle.std.specs.BTreeMap.{get}
use Rattle.std.specs.Option.{option_or}
use Rattle.std.specs.Ordering.{nat_cmp}
use Rattle.lake_types.specs.Kinds.{name_of}
use Rattle.cat_changes.specs.Reading.{shown}
use Rattle.cat_changes.proofs.names.names_of.Given as goal

-- the names so far come before those to come
abbrev pub invariant-loop-schema : goal.invariant-loop-schema
invariant-loop-schema l = (id : ℕ) → option_or (shown (get nat_cmp l.names id)) (name_of (drop l.schema-index l.schemas) id) ≡ name_of l.schemas id
