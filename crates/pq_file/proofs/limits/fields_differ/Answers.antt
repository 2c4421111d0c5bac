use Rattle.std.proofs.Common.{refl, arith}
use Rattle.std.specs.Prelude.{All}
use Rattle.pq_file.specs.Writable.{OtherField}
use Rattle.pq_file.proofs.LimitLemmas.{all_differ, one_differs}
use Rattle.pq_file.proofs.limits.fields_differ.Goals as goal

pub returns-then-not-first_differs : goal.returns-then-not-first_differs
returns-then-not-first_differs c = (
  λ no. cc,
  λ pairs. (let all : All (OtherField c.index-columns-at.result) c.split_at.result.1.now =
      rw c.split_at.ensures.back (one_differs c.args.columns.now c.loop-at.at c.index-columns-at.result c.loop-at-test.true c.index-columns-at.is pairs) in
      c.if-not-first_differs.ensures.1 all),
)

pub returns : goal.returns
returns c = (λ u. all_differ c.args.columns.now (λ i d lt. c.loop-at.invariant i d (omega arith)), λ pairs. refl)
