use Rattle.std.proofs.Common.{◌≡◌, ◌||◌, ◌==◌, ℕ, length}
use Rattle.indexmap.specs.IndexSet.{contains}
use Rattle.lake_model.specs.Kinds.{drops_schema, drops_table}
use Rattle.lake_model.specs.declared.change.Ref.TheVariants as ref
use Rattle.rebase.proofs.dropped.Dropped.of.Given as goal

-- what is kept, and what is still to come
abbrev pub invariant-loop-rest : goal.invariant-loop-rest
invariant-loop-rest l = record {
  schemas : (id : ℕ) → (contains ◌==◌ l.dropped.schemas id || drops_schema l.rest (ref.Old id)) ≡ drops_schema l.own (ref.Old id);
  tables : (id : ℕ) → (contains ◌==◌ l.dropped.tables id || drops_table l.rest (ref.Old id)) ≡ drops_table l.own (ref.Old id);
}

abbrev pub decreases-loop-rest : goal.decreases-loop-rest
decreases-loop-rest l = length l.rest
