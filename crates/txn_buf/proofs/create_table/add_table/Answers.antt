use Rattle.std.proofs.Common.{rules, ◌≡◌, ◌+◌, ◌++◌, ◌∷◌, [], refl}
use Rattle.txn_buf.specs.Drafts.{created_table}
use Rattle.txn_buf.specs.declared.seen.Seen.{Seen}
use Rattle.txn_buf.proofs.SeenLemmas.{table-created}
use Rattle.txn_buf.proofs.create_table.add_table.Goals as goal

pub returns-clause-seen : goal.returns-clause-seen
returns-clause-seen c =
    let old = c.args.seen.now in
    let new : Seen = record old { tables = c.push_reserved.new.self; created_tables = c.in-Some.created } in
    let kept = created_table old.created_tables c.args.schema c.args.name.now c.args.columns.now in
    let items : new.tables.items ≡ old.tables.items ++ kept ∷ [] = search rules in
    let count : new.created_tables ≡ old.created_tables + 1 = search rules in
    table-created old new c.args.schema c.args.name.now c.args.columns.now kept refl items refl count refl
