use Rattle.std.proofs.Common.{◌≡◌, ◌++◌, drop, map}
use Rattle.lake_model.specs.Apply.{drafted_schema}
use Rattle.txn_buf.specs.Drafts.{schema_drafts}
use Rattle.txn_buf.proofs.seen.seen_schemas.Given as goal

-- those so far, and those that are left
abbrev pub invariant-loop-schema : goal.invariant-loop-schema
invariant-loop-schema l = schema_drafts l.seen.items ++ map drafted_schema (drop l.schema-index l.schemas) ≡ map drafted_schema l.schemas
