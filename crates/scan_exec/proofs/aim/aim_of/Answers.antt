use Rattle.std.proofs.Common.{ap, ap₂, subst, sym, map, ◌∙◌}
use Rattle.std.specs.Prelude.{option_map, Some, None, IfSome}
use Rattle.std.specs.Arc.{arc_value}
use Rattle.std.specs.List.{Contains}
use Rattle.std.specs.Option.{option_copied}
use Rattle.cat_view.specs.Views.{named_table, named_tables, named_view}
use Rattle.scan_exec.specs.Finding.{made_draft, made_table, old_table, schema_of}
use Rattle.scan_exec.proofs.AimLemmas.{is_made, is_old, no_schema, no_table, old_is}
use Rattle.scan_exec.proofs.aim.aim_of.Goals as goal

pub returns-in_default-clause-refused : goal.returns-in_default-clause-refused
returns-in_default-clause-refused g c = λ other files next names test.
    no_schema files next (named_view g.F.Held.name c.args.view.now) c.args.own.now c.args.table.now names test
    (ap₂ (schema_of c.args.own.now) (sym (c.as_slice.ensures ∙ ap (λ v. v.schemas) c.version-version.ensures)) (sym c.as_str.ensures) ∙ sym c.schema_of.ensures ∙ c.in_default.is)

pub returns-in-Ok-clause-aimed : goal.returns-in-Ok-clause-aimed
returns-in-Ok-clause-aimed g c = λ files next. record {
  draft = _;
  is_there = is_old files next (named_view g.F.Held.name c.args.view.now) c.args.own.now c.args.table.now c.requires.grows c.in-Some.schema
      (ap₂ (schema_of c.args.own.now) (sym (c.as_slice.ensures ∙ ap (λ v. v.schemas) c.version-version.ensures)) (sym c.as_str.ensures) ∙ sym c.schema_of.ensures ∙ c.in-Some.is)
      (named_table g.F.Held.name c.in-Some-old_table.old.now)
      (ap₂ (λ ts n. old_table c.args.own.now ts c.in-Some.schema n) (ap (named_tables g.F.Held.name) (sym (c.as_slice-2.ensures.value ∙ ap (λ v. v.tables.items) c.version-version.ensures))) (sym c.as_str-name.ensures) ∙ sym c.old_table.ensures.table
      ∙ ap (λ o. option_map (named_table g.F.Held.name) (option_copied o)) c.in-Some-old_table.is);
  is = c.in-Ok.ensures.draft files;
}

pub returns-in_default-made_table-clause-refused : goal.returns-in_default-made_table-clause-refused
returns-in_default-made_table-clause-refused g c = λ other files next names test.
    no_table files next (named_view g.F.Held.name c.args.view.now) c.args.own.now c.args.table.now c.requires.grows c.in-Some.schema
    (ap₂ (schema_of c.args.own.now) (sym (c.as_slice.ensures ∙ ap (λ v. v.schemas) c.version-version.ensures)) (sym c.as_str.ensures) ∙ sym c.schema_of.ensures ∙ c.in-Some.is) names test
    (ap₂ (λ ts n. old_table c.args.own.now ts c.in-Some.schema n) (ap (named_tables g.F.Held.name) (sym (c.as_slice-2.ensures.value ∙ ap (λ v. v.tables.items) c.version-version.ensures))) (sym c.as_str-name.ensures) ∙ sym c.old_table.ensures.table
    ∙ ap (λ o. option_map (named_table g.F.Held.name) (option_copied o)) c.in_default-old_table.is)
    (ap (made_table 0 c.args.own.now c.in-Some.schema) (sym c.as_str-name.ensures) ∙ sym c.made_table.ensures ∙ ap (option_map made_draft) c.in_default-made_table.is)

pub returns-in-Ok-made_aim-clause-aimed : goal.returns-in-Ok-made_aim-clause-aimed
returns-in-Ok-made_aim-clause-aimed g c = λ files next. record {
  draft = made_draft c.in-Some-made_table.made;
  is_there = is_made files next (named_view g.F.Held.name c.args.view.now) c.args.own.now c.args.table.now c.requires.grows c.in-Some.schema
      (ap₂ (schema_of c.args.own.now) (sym (c.as_slice.ensures ∙ ap (λ v. v.schemas) c.version-version.ensures)) (sym c.as_str.ensures) ∙ sym c.schema_of.ensures ∙ c.in-Some.is)
      (made_draft c.in-Some-made_table.made)
      (ap₂ (λ ts n. old_table c.args.own.now ts c.in-Some.schema n) (ap (named_tables g.F.Held.name) (sym (c.as_slice-2.ensures.value ∙ ap (λ v. v.tables.items) c.version-version.ensures))) (sym c.as_str-name.ensures) ∙ sym c.old_table.ensures.table
      ∙ ap (λ o. option_map (named_table g.F.Held.name) (option_copied o)) c.in_default-old_table.is)
      (ap (made_table 0 c.args.own.now c.in-Some.schema) (sym c.as_str-name.ensures) ∙ sym c.made_table.ensures ∙ ap (option_map made_draft) c.in-Some-made_table.is);
  is = c.in-Ok-made_aim.ensures.draft files;
}

pub returns-in-Ok-clause-held : goal.returns-in-Ok-clause-held
returns-in-Ok-clause-held g c = rw c.in-Ok.ensures.old
    (subst (λ xs. Contains xs c.in-Some-old_table.old.now) (ap (map (λ x. arc_value x)) (c.as_slice-2.ensures.value ∙ ap (λ v. v.tables.items) c.version-version.ensures))
    (subst (λ o. IfSome (option_copied o) (Contains (map (λ x. arc_value x) c.as_slice-2.result.now))) c.in-Some-old_table.is c.old_table.ensures.held))

pub returns-in-Ok-made_aim-clause-held : goal.returns-in-Ok-made_aim-clause-held
returns-in-Ok-made_aim-clause-held g c = rw c.in-Ok-made_aim.ensures.old tt

pub returns-in-Ok-clause-old : goal.returns-in-Ok-clause-old
returns-in-Ok-clause-old g c = ap (option_map (named_table g.F.Held.name)) c.in-Ok.ensures.old
    ∙ sym (old_is (named_view g.F.Held.name c.args.view.now) c.args.own.now c.args.table.now c.in-Some.schema
    (ap₂ (schema_of c.args.own.now) (sym (c.as_slice.ensures ∙ ap (λ v. v.schemas) c.version-version.ensures)) (sym c.as_str.ensures) ∙ sym c.schema_of.ensures ∙ c.in-Some.is)
    (Some (named_table g.F.Held.name c.in-Some-old_table.old.now))
    (ap₂ (λ ts n. old_table c.args.own.now ts c.in-Some.schema n) (ap (named_tables g.F.Held.name) (sym (c.as_slice-2.ensures.value ∙ ap (λ v. v.tables.items) c.version-version.ensures))) (sym c.as_str-name.ensures) ∙ sym c.old_table.ensures.table
    ∙ ap (λ o. option_map (named_table g.F.Held.name) (option_copied o)) c.in-Some-old_table.is))

pub returns-in-Ok-made_aim-clause-old : goal.returns-in-Ok-made_aim-clause-old
returns-in-Ok-made_aim-clause-old g c = ap (option_map (named_table g.F.Held.name)) c.in-Ok-made_aim.ensures.old
    ∙ sym (old_is (named_view g.F.Held.name c.args.view.now) c.args.own.now c.args.table.now c.in-Some.schema
    (ap₂ (schema_of c.args.own.now) (sym (c.as_slice.ensures ∙ ap (λ v. v.schemas) c.version-version.ensures)) (sym c.as_str.ensures) ∙ sym c.schema_of.ensures ∙ c.in-Some.is)
    None
    (ap₂ (λ ts n. old_table c.args.own.now ts c.in-Some.schema n) (ap (named_tables g.F.Held.name) (sym (c.as_slice-2.ensures.value ∙ ap (λ v. v.tables.items) c.version-version.ensures))) (sym c.as_str-name.ensures) ∙ sym c.old_table.ensures.table
    ∙ ap (λ o. option_map (named_table g.F.Held.name) (option_copied o)) c.in_default-old_table.is))
