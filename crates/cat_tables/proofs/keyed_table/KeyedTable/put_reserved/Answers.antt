use Rattle.std.proofs.Common.{◌≡◌, sym, ap}
use Rattle.cat_tables.proofs.PutLemmas.{RisesByKey-put}
use Rattle.cat_tables.proofs.keyed_table.KeyedTable.put_reserved.Goals as goal

pub invariant_of-self : goal.invariant_of-self
invariant_of-self g c =
    let rows : c.args.self.now.rows ≡ c.self.inside.rows.items = sym (ap (λ t. t.rows) c.self.view_is) in
    rw c.put_row.ensures.rows (RisesByKey-put g.R.Keyed.key c.args.row c.self.inside.rows.items (rw rows at c.requires.fresh) c.self.invariant)
