use Rattle.cat_texts.proofs.RowLemmas.{one_column, one_stats}
use Rattle.cat_texts.proofs.laws.rows_spell_one.Goals as goal

pub returns : goal.returns
returns c = record { column = one_column; stats = one_stats }
