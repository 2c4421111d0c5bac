use Rattle.std.proofs.Common.{refl}
use Rattle.cat_changes.specs.Reading.{tail_of}
use Rattle.cat_changes.proofs.BodyLemmas.{schema_none, schema_no_tail, schema_stands}
use Rattle.cat_changes.proofs.reading.created_schema.Goals as goal

pub returns-in_default : goal.returns-in_default
returns-in_default c = schema_none c.args.text.now (rw c.in_default.is at c.in_ok-name.ensures)

pub returns-in_default-tail_at : goal.returns-in_default-tail_at
returns-in_default-tail_at c =
    schema_no_tail c.args.text.now c.in-Some.name c.in-Some.rest.now (rw c.in-Some.is at c.in_ok-name.ensures) c.in_default-tail_at.ensures

pub returns : goal.returns
returns c =
    (tt, refl, schema_stands c.args.text.now c.in-Some.name c.in-Some.rest.now (tail_of c.in-Some-tail_at.tail) (rw c.in-Some.is at c.in_ok-name.ensures) c.in-Some-tail_at.ensures)
