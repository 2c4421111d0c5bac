use Rattle.std.proofs.Common.{rules, ◌≡◌, List, Err, subst}
use Rattle.lake_types.specs.declared.kind.SchemaName.{SchemaName}
use Rattle.lake_types.specs.Kinds.{name_of}
use Rattle.cat_changes.specs.Reading.{NamesAll}
use Rattle.cat_changes.proofs.NameLemmas.{text_cause, text_none, answers_ok, answers_cause, answers_none}
use Rattle.cat_changes.proofs.reading.read_changes.Goals as goal

pub returns-in_err-kinds-clause-cause : goal.returns-in_err-kinds-clause-cause
returns-in_err-kinds-clause-cause c =
    let fault : c.from_residual.result ≡ Err c.in_err-kinds.field-0.0 = search rules in
    rw fault (text_cause c.args.schemas.now c.args.text.now c.in_err-kinds.field-0.0 c.in_err-kinds.ensures)

pub returns-in_err-kinds-clause-none : goal.returns-in_err-kinds-clause-none
returns-in_err-kinds-clause-none c =
    let fault : c.from_residual.result ≡ Err c.in_err-kinds.field-0.0 = search rules in
    rw fault (text_none c.args.schemas.now c.args.text.now c.in_err-kinds.field-0.0 c.in_err-kinds.ensures)

pub returns-clause-ok : goal.returns-clause-ok
returns-clause-ok c =
    answers_ok c.args.schemas.now c.args.text.now c.in_ok-kinds.kinds c.with_names.result c.in_ok-kinds.ensures
    (subst (λ (x : List SchemaName). NamesAll (name_of x) c.in_ok-kinds.kinds c.with_names.result) c.as_slice.ensures c.with_names.ensures)

pub returns-clause-cause : goal.returns-clause-cause
returns-clause-cause c =
    answers_cause c.args.schemas.now c.args.text.now c.in_ok-kinds.kinds c.with_names.result c.in_ok-kinds.ensures
    (subst (λ (x : List SchemaName). NamesAll (name_of x) c.in_ok-kinds.kinds c.with_names.result) c.as_slice.ensures c.with_names.ensures)

pub returns-clause-none : goal.returns-clause-none
returns-clause-none c =
    answers_none c.args.schemas.now c.args.text.now c.in_ok-kinds.kinds c.with_names.result c.in_ok-kinds.ensures
    (subst (λ (x : List SchemaName). NamesAll (name_of x) c.in_ok-kinds.kinds c.with_names.result) c.as_slice.ensures c.with_names.ensures)
