use Rattle.std.proofs.Common.{rules, ◌≡◌, filter, refl}
use Rattle.std.specs.Prelude.{not}
use Rattle.std.proofs.lemmas.Fn.{filter_same}
use Rattle.lake_model.specs.Apply.{is_ref}
use Rattle.txn_buf.specs.declared.seen.Seen.{Seen}
use Rattle.txn_buf.specs.declared.seen.SeenSchema.{SeenSchema}
use Rattle.txn_buf.proofs.SeenLemmas.{schema-removed}
use Rattle.txn_buf.proofs.seen.Seen.remove_schema.Goals as goal

pub returns : goal.returns
returns c =
    let old = c.args.self.now in
    let new : Seen = record old { schemas = c.retain.new.self } in
    let left : c.retain.new.self.items ≡ filter (λ (x : SeenSchema). not (is_ref x.at c.args.at)) old.schemas.items =
    filter_same _ (λ (x : SeenSchema). not (is_ref x.at c.args.at)) _ (λ x b f' k. search rules) _ _ c.retain.ensures.filtered in
    schema-removed old new c.args.at left refl refl refl
