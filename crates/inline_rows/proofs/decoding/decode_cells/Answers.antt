use Rattle.std.proofs.Common.{arith}
use Rattle.std.proofs.lemmas.Result.{IfOk-weaker, IfErr-weaker}
use Rattle.inline_rows.proofs.NumberLemmas.{AreBytes}
use Rattle.inline_rows.proofs.SpellsLemmas.{decoded_spells, none_spelled}
use Rattle.inline_rows.proofs.WrongLemmas.{has_cause}
use Rattle.inline_rows.proofs.decoding.decode_cells.Goals as goal

pub returns-clause-ok : goal.returns-clause-ok
returns-clause-ok c =
    let are : AreBytes c.args.bytes.now = λ i. let f = c.type_inv.bytes i in omega arith in
    IfOk-weaker c.read_all.result _ _ (λ cells e. decoded_spells c.args.bytes.now cells.items are e) c.read_all.ensures.ok

pub returns-clause-none : goal.returns-clause-none
returns-clause-none c = IfErr-weaker c.read_all.result _ _ (λ fault stops. none_spelled c.args.bytes.now fault stops) c.read_all.ensures.bad

pub returns-clause-cause : goal.returns-clause-cause
returns-clause-cause c =
    let are : AreBytes c.args.bytes.now = λ i. let f = c.type_inv.bytes i in omega arith in
    IfErr-weaker c.read_all.result _ _ (λ fault stops. has_cause c.args.bytes.now fault are stops) c.read_all.ensures.bad
