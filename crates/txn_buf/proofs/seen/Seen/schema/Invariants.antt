use Rattle.std.proofs.Common.{◌≡◌, drop}
use Rattle.std.specs.Prelude.{find}
use Rattle.lake_model.specs.Clashes.{same_name}
use Rattle.txn_buf.specs.Drafts.{schema_drafts}
use Rattle.txn_buf.proofs.seen.Seen.schema.Given as goal

-- the schemas that are left decide
abbrev pub invariant-loop-schema : goal.invariant-loop-schema
invariant-loop-schema l =
    find (λ s. same_name s.name l.name) (schema_drafts l.self.schemas.items) ≡ find (λ s. same_name s.name l.name) (schema_drafts (drop l.schema-index l.self.schemas.items))
