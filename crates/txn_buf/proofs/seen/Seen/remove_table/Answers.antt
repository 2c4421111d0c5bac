use Rattle.std.proofs.Common.{rules, ◌≡◌, filter, refl}
use Rattle.std.specs.Prelude.{not}
use Rattle.std.proofs.lemmas.Fn.{filter_same}
use Rattle.lake_model.specs.Apply.{is_ref}
use Rattle.txn_buf.specs.declared.seen.Seen.{Seen}
use Rattle.txn_buf.specs.declared.seen.SeenTable.{SeenTable}
use Rattle.txn_buf.proofs.SeenLemmas.{table-removed}
use Rattle.txn_buf.proofs.seen.Seen.remove_table.Goals as goal

pub returns : goal.returns
returns c =
    let old = c.args.self.now in
    let new : Seen = record old { tables = c.retain.new.self } in
    let left : c.retain.new.self.items ≡ filter (λ (x : SeenTable). not (is_ref x.at c.args.at)) old.tables.items =
    filter_same _ (λ (x : SeenTable). not (is_ref x.at c.args.at)) _ (λ x b f' k. search rules) _ _ c.retain.ensures.filtered in
    table-removed old new c.args.at left refl refl refl
