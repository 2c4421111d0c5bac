use Rattle.cat_tables.proofs.FrameLemmas.{key-ended_at}
use Rattle.cat_tables.proofs.PutLemmas.{RisesByKey-edited}
use Rattle.cat_tables.proofs.keyed_table.KeyedTable.end.Goals as goal

pub invariant_of-self : goal.invariant_of-self
invariant_of-self g c = rw c.end_row.ensures.rows (RisesByKey-edited g.R.Keyed.key _ (g.R.Keyed.parts c.args.key.now) (key-ended_at g.R.Keyed.key g.R.Versioned.validity g.met.R.Versioned.laws c.args.snapshot) c.self.inside.rows.items c.self.invariant)
