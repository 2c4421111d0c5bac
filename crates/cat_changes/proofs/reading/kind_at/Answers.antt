use Rattle.cat_changes.proofs.BodyLemmas.{id_at}
use Rattle.cat_changes.proofs.reading.kind_at.Goals as goal

pub returns-in_default-word : goal.returns-in_default-word
returns-in_default-word c =
    id_at c.args.text.now c.in-Some.word.now c.in-Some.rest.now c.kind_with_id.result c.in-Some.ensures.some.0 c.in-Some.ensures.some.1
    c.in_default-word.not-created_schema c.in_default-word.not-created_table c.kind_with_id.ensures
