use Rattle.cat_changes.proofs.BodyLemmas.{id_none, id_no_word}
use Rattle.cat_changes.proofs.reading.kind_with_id.Goals as goal

pub returns-in_err-id : goal.returns-in_err-id
returns-in_err-id c =
    rw c.from_residual.ensures (id_none c.args.word.now c.args.text.now c.requires (rw c.in_err-id.was at c.id_at.ensures))

pub returns-in_default : goal.returns-in_default
returns-in_default c = id_no_word c.args.word.now c.args.text.now c.requires (record {
  inserted = c.in_default.not-inserted_into_table;
  deleted = c.in_default.not-deleted_from_table;
  compacted = c.in_default.not-compacted_table;
  dropped_schema = c.in_default.not-dropped_schema;
  dropped_table = c.in_default.not-dropped_table;
  altered = c.in_default.not-altered_table;
})
