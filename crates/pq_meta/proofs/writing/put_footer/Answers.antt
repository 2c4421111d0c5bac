use Rattle.std.proofs.Common.{Ok, Err, OnOk, All}
use Rattle.pq_meta.specs.Consistency.{IsNamed}
use Rattle.pq_meta.proofs.writing.put_footer.Goals as goal

pub returns-clause-text : goal.returns-clause-text
returns-clause-text c =
    let texts = rw c.as_slice-columns.ensures at c.in_ok-put_schema.ensures.text in
    elim c.put_stop.result as (λ r. OnOk r (All IsNamed c.args.meta.now.columns)) [ Ok u ↦ texts | Err e ↦ tt ]
