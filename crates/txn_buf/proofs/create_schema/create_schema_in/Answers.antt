use Rattle.std.proofs.Common.{rules, ◌≡◌, ◌+◌, ◌++◌, ◌∷◌, [], refl}
use Rattle.lake_model.specs.declared.change.Ref.TheVariants as ref
use Rattle.txn_buf.specs.declared.seen.Seen.{Seen}
use Rattle.txn_buf.proofs.SeenLemmas.{schema_created}
use Rattle.txn_buf.proofs.create_schema.create_schema_in.Goals as goal

pub returns-clause-seen : goal.returns-clause-seen
returns-clause-seen c =
    let old = c.args.seen.now in
    let new : Seen = record old { schemas = c.push_reserved.new.self; created_schemas = c.in-Some.created } in
    let items : new.schemas.items ≡ old.schemas.items ++ record { at = ref.New old.created_schemas; name = c.args.name.now } ∷ [] = search rules in
    let count : new.created_schemas ≡ old.created_schemas + 1 = search rules in
    schema_created old new c.args.name.now items refl count refl
