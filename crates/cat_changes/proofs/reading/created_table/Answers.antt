use Rattle.std.proofs.Common.{refl}
use Rattle.cat_changes.specs.Reading.{tail_of}
use Rattle.cat_changes.proofs.BodyLemmas.{table_none, table_no_dot, table_no_name, table_no_tail, table_stands}
use Rattle.cat_changes.proofs.reading.created_table.Goals as goal

pub returns-in_default : goal.returns-in_default
returns-in_default c = table_none c.args.text.now (rw c.in_default.is at c.in_ok-schema.ensures)

pub returns-in_default-behind : goal.returns-in_default-behind
returns-in_default-behind c =
    table_no_dot c.args.text.now c.in-Some.schema c.in-Some.rest.now (rw c.in-Some.is at c.in_ok-schema.ensures) (c.in_default-behind.ensures.none refl)

pub returns-in_default-2 : goal.returns-in_default-2
returns-in_default-2 c =
    table_no_name c.args.text.now c.in-Some.schema c.in-Some.rest.now c.in-Some-behind.rest.now (rw c.in-Some.is at c.in_ok-schema.ensures)
    c.in-Some-behind.ensures.some (rw c.in_default-2.is at c.in_ok-name.ensures)

pub returns-in_default-tail_at : goal.returns-in_default-tail_at
returns-in_default-tail_at c =
    table_no_tail c.args.text.now c.in-Some.schema c.in-Some.rest.now c.in-Some-behind.rest.now c.in-Some-2.name c.in-Some-2.rest.now
    (rw c.in-Some.is at c.in_ok-schema.ensures) c.in-Some-behind.ensures.some (rw c.in-Some-2.is at c.in_ok-name.ensures) c.in_default-tail_at.ensures

pub returns : goal.returns
returns c = (
  tt,
  refl,
  table_stands c.args.text.now c.in-Some.schema c.in-Some.rest.now c.in-Some-behind.rest.now c.in-Some-2.name c.in-Some-2.rest.now (tail_of c.in-Some-tail_at.tail)
      (rw c.in-Some.is at c.in_ok-schema.ensures) c.in-Some-behind.ensures.some (rw c.in-Some-2.is at c.in_ok-name.ensures) c.in-Some-tail_at.ensures,
)
