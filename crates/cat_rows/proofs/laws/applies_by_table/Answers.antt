use Rattle.cat_rows.proofs.TableLemmas.{applied-by_table}
use Rattle.cat_rows.proofs.laws.applies_by_table.Goals as goal

pub returns : goal.returns
returns c = applied-by_table
