use Rattle.std.proofs.Common.{◌≡◌, true, arith, rules}
use Rattle.std.specs.Result.{is_ok}
use Rattle.cat_tables.proofs.PutLemmas.{put_placed}
use Rattle.cat_tables.proofs.keyed_table.put_row.Goals as goal

pub returns-clause-rows : goal.returns-clause-rows
returns-clause-rows g c =
    let good : is_ok c.insert.result ≡ true = search (rules, c.insert.ensures.succeeds (omega arith)) in
    put_placed g.R.Keyed.key c.args.row c.args.rows.now.items _ c.rows_below-at.result _ good (rw c.as_slice.ensures.value at c.rows_below-at.ensures.count) c.insert.ensures.items
