use Rattle.std.proofs.Common.{[], ◌∷◌, ◌++◌, ◌∙◌, ap}
use Rattle.indexmap.specs.IndexMap.{get}
use Rattle.lake_model.specs.Apply.{is_ref}
use Rattle.row_files.proofs.OwnLemmas.{more_inserts, same_dropped, put_at}
use Rattle.row_files.proofs.own.add_insert.Goals as goal

pub returns-clause-inserts : goal.returns-clause-inserts
returns-clause-inserts c =
    more_inserts (get is_ref c.args.tables.now) (get is_ref c.taken.new.tables) (get is_ref c.insert.new.self) c.args.at _
    (put_at c.taken.new.tables c.insert.new.self c.args.at _ c.in_ok-insert.ensures.updates.0) c.in_ok-table.ensures.rest (c.args.place ∷ [])
    (c.in_ok-push.ensures.items ∙ ap (λ l. l ++ c.args.place ∷ []) c.in_ok-table.ensures.inserts)

pub returns-clause-dropped : goal.returns-clause-dropped
returns-clause-dropped c =
    same_dropped (get is_ref c.args.tables.now) (get is_ref c.taken.new.tables) (get is_ref c.insert.new.self) c.args.at _
    (put_at c.taken.new.tables c.insert.new.self c.args.at _ c.in_ok-insert.ensures.updates.0) c.in_ok-table.ensures.rest c.in_ok-table.ensures.dropped
