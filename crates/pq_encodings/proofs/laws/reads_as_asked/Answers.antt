use Rattle.pq_encodings.proofs.GrammarLemmas.{levels_in-count}
use Rattle.pq_encodings.proofs.IndexLemmas.{indices_in-below, indices_in-count}
use Rattle.pq_encodings.proofs.ValueLemmas.{values_in-asked}
use Rattle.pq_encodings.proofs.laws.reads_as_asked.Goals as goal

pub returns-clause-levels : goal.returns-clause-levels
returns-clause-levels c = levels_in-count

pub returns-clause-indices : goal.returns-clause-indices
returns-clause-indices c = λ count size bytes xs h. (indices_in-count count size bytes xs h, indices_in-below bytes count size xs h)

pub returns-clause-values : goal.returns-clause-values
returns-clause-values c = λ kind count bytes vs h.
    let asked = values_in-asked kind count bytes vs h in (asked.same, asked.size, asked.short)
