use Rattle.cat_tables.proofs.PutLemmas.{RisesByKey-filter}
use Rattle.cat_tables.proofs.keyed_table.KeyedTable.take.Goals as goal

pub invariant_of-self : goal.invariant_of-self
invariant_of-self g c = rw c.take_row.ensures.rows (RisesByKey-filter g.R.Keyed.key _ c.self.inside.rows.items c.self.invariant)
