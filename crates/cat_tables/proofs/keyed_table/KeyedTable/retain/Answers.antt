use Rattle.cat_tables.proofs.PutLemmas.{RisesByKey-filtered}
use Rattle.cat_tables.proofs.keyed_table.KeyedTable.retain.Goals as goal

pub invariant_of-self : goal.invariant_of-self
invariant_of-self g c = RisesByKey-filtered g.R.Keyed.key _ _ c.self.inside.rows.items _ c.retain.ensures.filtered c.self.invariant
