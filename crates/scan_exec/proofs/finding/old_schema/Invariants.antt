use Rattle.std.proofs.Common.{◌≡◌, drop}
use Rattle.scan_exec.specs.Finding.{old_schema}
use Rattle.scan_exec.proofs.finding.old_schema.Given as goal

-- those that are left decide
abbrev pub invariant-loop-schema : goal.invariant-loop-schema
invariant-loop-schema l = old_schema l.own l.schemas l.name ≡ old_schema l.own (drop l.schema-index l.schemas) l.name
