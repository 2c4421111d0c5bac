use Rattle.std.proofs.Common.{◌∙◌}
use Rattle.txn_buf.specs.Turns.{answer_of}
use Rattle.txn_buf.proofs.ColumnLemmas.{fault_found}
use Rattle.txn_buf.proofs.columns.columns_fault.Goals as goal

pub returns-in-Err-clause-refused : goal.returns-in-Err-clause-refused
returns-in-Err-clause-refused c = λ other.
    c.loop-place.invariant
    ∙ fault_found c.args.defs.now c.loop-place.place c.index-defs-place.result (answer_of c.in-Err.no) c.loop-place-test.true c.index-defs-place.is (c.in-Err.ensures.refused other)
