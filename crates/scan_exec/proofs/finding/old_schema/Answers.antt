use Rattle.std.proofs.Common.{◌∙◌, ap, sym}
use Rattle.std.specs.Prelude.{option_map}
use Rattle.lake_types.specs.declared.kind.SchemaName.{SchemaName}
use Rattle.lake_model.specs.declared.change.Ref.TheVariants as ref
use Rattle.scan_exec.specs.Finding.{is_schema}
use Rattle.scan_exec.proofs.FindLemmas.{found_self, passed_self}
use Rattle.scan_exec.proofs.finding.old_schema.Goals as goal

pub returns-then-is_schema : goal.returns-then-is_schema
returns-then-is_schema c = sym (c.loop-schema.invariant
    ∙ ap (option_map (λ (s : SchemaName). ref.Old s.id)) (found_self (is_schema c.args.own.now c.args.name.now) c.args.schemas.now c.loop-schema.schema-index c.schema-item.result
    c.loop-schema-test.true c.schema-item.is (sym c.is_schema.ensures ∙ c.if-is_schema.true)))

pub loop-schema-preserved : goal.loop-schema-preserved
loop-schema-preserved c = c.loop-schema.invariant
    ∙ ap (option_map (λ (s : SchemaName). ref.Old s.id)) (passed_self (is_schema c.args.own.now c.args.name.now) c.args.schemas.now c.loop-schema.schema-index c.schema-item.result
    c.loop-schema-test.true c.schema-item.is (sym c.is_schema.ensures ∙ c.if-is_schema.false))
