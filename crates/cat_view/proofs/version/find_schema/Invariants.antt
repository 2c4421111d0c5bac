use Rattle.std.proofs.Common.{◌≡◌, drop}
use Rattle.cat_view.specs.Views.{schema_id}
use Rattle.cat_view.proofs.version.find_schema.Given as goal

-- the schemas that are left decide
abbrev pub invariant-loop-schema : goal.invariant-loop-schema
invariant-loop-schema l = schema_id l.schemas l.name ≡ schema_id (drop l.schema-index l.schemas) l.name
